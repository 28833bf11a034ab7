-- What a reader stands for (this project's).
use Rattle.std.specs.Prelude.{ℕ, zero, suc, ◌≡◌, ◌≤◌, Bool, true, false, List, [], ◌∷◌, ◌++◌, length, drop, map, Option, Some, None, Result, Ok, Err, if◌then◌else◌, ⊤}
use lib.Utf8.{scalars, encodes}
use Rattle.gcx_base.specs.declared.limits.Limits.{Limits}
use Rattle.gcx_model.specs.Document.{Nodes, IsDocument, tokens}
use Rattle.gcx_model.specs.Tree.{TreeToken as Said}
use Rattle.gcx_model.specs.Grammar.{SpellsDocument}
use Rattle.gcx_model.specs.Faults.{Clean, FaultIs, size}
use Rattle.gcx_model.specs.Seen.{IsLongest, SeenIs}
use Rattle.gcx_model.specs.declared.fault.DocFault.{DocFault}
use Rattle.gcx_model.specs.declared.fault.DocFault.TheVariants as doc_faults
use Rattle.doc_chars.specs.Stream.{Carry, StandsFor}
use Rattle.doc_laws.specs.Machine.{State}
use Rattle.doc_laws.specs.States.{Fronts}
pub use Rattle.doc_tokens.specs.declared.token.Token.{Token}
pub use Rattle.doc_tokens.specs.declared.token.Token.TheVariants.{EndOfDocument}
pub use Rattle.doc_tokens.specs.Given.{given_token, said_of}
pub use Rattle.doc_tokens.specs.declared.lent.Lent.{Lent}
pub use Rattle.doc_tokens.specs.Parts.{lent_token, LiesWithin, AllLieWithin, AreLent}

-- the end of the document node, as a reader gives it
abbrev pub given_end : Said → Token
given_end t = EndOfDocument

-- what contracts see of a reader: with the machine's state, whose tokens are those that weren't given, the bytes of a character that
-- a piece cut, how many bytes the characters read take, how many bytes were fed of those that may be, and the refusal
pub record ReaderView : Type 0 where
  pub limits : Limits
  pub state : State
  pub carry : Carry
  pub place : ℕ
  pub count : ℕ
  pub refused : Option DocFault
  pub finished : Bool
  pub end_waits : Bool

-- finish wasn't called
abbrev pub IsOpen : ReaderView → Type 0
IsOpen h = h.finished ≡ false

-- finish was called
abbrev pub IsDone : ReaderView → Type 0
IsDone h = h.finished ≡ true

-- a refusal was answered
abbrev pub IsRefused : ReaderView → Type 0
IsRefused h = h.refused ≡ None → ⊥

abbrev pub end_token : Bool → List Token
end_token waits = if waits then (EndOfDocument ∷ []) else []

-- the tokens that wait, in their order
abbrev pub waiting : ReaderView → List Token
waiting h = map given_token h.state.tokens ++ end_token h.end_waits

-- those that are lent next: the tokens of tags, or the end of the document where it waits and none of these does
abbrev pub lent_of : List Said → (ends : Bool) → List Token
lent_of [] ends = end_token ends
lent_of (t ∷ ts) ends = map given_token (t ∷ ts)

abbrev pub lent_next : ReaderView → List Token
lent_next h = lent_of h.state.tokens h.end_waits

-- what feed and finish answer, and answer again
abbrev pub answer_by : Option DocFault → Result ⊤ DocFault
answer_by None = Ok tt
answer_by (Some f) = Err f

abbrev pub answer_of : ReaderView → Result ⊤ DocFault
answer_of h = answer_by h.refused

-- The tokens that a reader gives of bytes are those that are seen: those of the tags, and EndOfDocument as the end of the document node.
pub record Gives (lim : Limits) (b : List ℕ) (ended : Bool) (ts : List Token) : Type 0 where
  pub seen : SeenIs lim b ended (map said_of ts)
  pub tokens_are : ts ≡ map given_token seen.tags ++ map given_end seen.ends

-- These tokens are the first of them.
pub record GivesMore (lim : Limits) (b : List ℕ) (ended : Bool) (ts : List Token) : Type 0 where
  pub rest : List Token
  pub gives : Gives lim b ended (ts ++ rest)

-- all of them, or the first of them where memory ran out
abbrev pub GivesBy : Option DocFault → Limits → List ℕ → Bool → List Token → Type 0
GivesBy None lim b ended ts = Gives lim b ended ts
GivesBy (Some doc_faults.Memory) lim b ended ts = GivesMore lim b ended ts
GivesBy (Some f) lim b ended ts = Gives lim b ended ts

-- the bytes have no fault, or this one, or memory ran out
abbrev pub IsFault : Option DocFault → Limits → List ℕ → Bool → Type 0
IsFault None lim b ended = FaultIs lim b ended None
IsFault (Some doc_faults.Memory) lim b ended = Unit {0}
IsFault (Some f) lim b ended = FaultIs lim b ended (Some f)

-- the same of an answer
abbrev pub Answers : {T : Type 0} → Result T DocFault → Limits → List ℕ → Bool → Type 0
Answers (Ok x) lim b ended = IsFault None lim b ended
Answers (Err f) lim b ended = IsFault (Some f) lim b ended

-- a state whose first tokens were given
abbrev pub with_given : List Said → State → State
with_given before s = record s { tokens = before ++ s.tokens }

-- a reader with these tokens
abbrev pub with_tokens : ReaderView → List Said → ReaderView
with_tokens h rest = record h { state = record h.state { tokens = rest } }

-- a reader of which so many of the tokens were taken that are lent next
abbrev pub behind_tokens : ReaderView → List Said → (count : ℕ) → ReaderView
behind_tokens h (t ∷ ts) count = with_tokens h (drop count (t ∷ ts))
behind_tokens h [] zero = h
behind_tokens h [] (suc n) = record h { end_waits = false }

abbrev pub behind_lent : (count : ℕ) → ReaderView → ReaderView
behind_lent count h = behind_tokens h h.state.tokens count

-- All characters of the bytes were read and make no fault, and a front of a character is carried.
pub record IsReading (h : ReaderView) (lim : Limits) (b : List ℕ) (given : List Token) : Type 0 where
  pub chars : List ℕ
  pub stream : StandsFor h.carry b chars
  pub place : h.place ≡ size chars
  pub count : h.count ≡ length b
  pub within : length b ≤ lim.bytes
  pub clean : Clean lim chars
  pub short : length h.state.run ≤ lim.text
  pub before : List Said
  pub given_are : given ≡ map given_token before
  pub front : Fronts chars (with_given before h.state)

-- These first characters of the bytes make no fault, and the tokens given and those that wait are those of their whole tags.
pub record HasRead (waits : List Said) (lim : Limits) (b chars : List ℕ) (given : List Token) : Type 0 where
  pub rest : List ℕ
  pub scalars_are : scalars chars ≡ true
  pub parts : b ≡ encodes chars ++ rest
  pub within : length (encodes chars) ≤ lim.bytes
  pub clean : Clean lim chars
  pub before : List Said
  pub given_are : given ≡ map given_token before
  pub state : State
  pub tokens_are : state.tokens ≡ before ++ waits
  pub front : Fronts chars state

-- They are the most characters without a fault, whatever bytes follow.
pub record HasStopped (waits : List Said) (lim : Limits) (b : List ℕ) (given : List Token) : Type 0 where
  pub chars : List ℕ
  pub read : HasRead waits lim b chars given
  pub longest : (more : List ℕ) → IsLongest lim (b ++ more) chars

-- Memory ran out behind some of the characters.
pub record HasLost (waits : List Said) (lim : Limits) (b : List ℕ) (given : List Token) : Type 0 where
  pub chars : List ℕ
  pub read : HasRead waits lim b chars given

abbrev pub GoesOnBy : Option DocFault → ReaderView → Limits → List ℕ → List Token → Type 0
GoesOnBy None h lim b given = IsReading h lim b given
GoesOnBy (Some doc_faults.Memory) h lim b given = HasLost h.state.tokens lim b given
GoesOnBy (Some f) h lim b given = HasStopped h.state.tokens lim b given

-- what an open reader goes on from; after finish nothing goes on
abbrev pub ReaderGoesOn : Bool → ReaderView → Limits → List ℕ → List Token → Type 0
ReaderGoesOn false h lim b given = (h.end_waits ≡ false) × GoesOnBy h.refused h lim b given
ReaderGoesOn true h lim b given = Unit {0}

-- The reader with these limits was fed exactly these bytes, in whatever pieces, and gave these tokens.
pub record Stands (h : ReaderView) (lim : Limits) (b : List ℕ) (ended : Bool) (given : List Token) : Type 0 where
  pub limits : h.limits ≡ lim
  pub finished : h.finished ≡ ended
  -- its answer is the fault of the bytes
  pub fault : IsFault h.refused lim b ended
  -- the tokens given and those that wait are those of the whole tags, each once and in order
  pub gives : GivesBy h.refused lim b ended (given ++ waiting h)
  pub goes_on : ReaderGoesOn ended h lim b given

-- the first token that waited was taken, or none waited
abbrev pub Takes : Option Token → List Token → List Token → Type 0
Takes None old new = (old ≡ []) × (new ≡ [])
Takes (Some t) old new = old ≡ t ∷ new

abbrev pub taken : Option Token → List Token
taken None = []
taken (Some t) = t ∷ []

-- the answer is the same, and whether finish was called
pub record KeepsAnswer (old new : ReaderView) : Type 0 where
  pub finished : new.finished ≡ old.finished
  pub answer : answer_of new ≡ answer_of old

-- the tokens that a reader gives of a whole document
abbrev pub reader_tokens : Nodes → List Token
reader_tokens d = map given_token (tokens d) ++ (EndOfDocument ∷ [])

-- The bytes spell this document and no other, and these are its tokens.
pub record Accepted (b : List ℕ) (ts : List Token) : Type 0 where
  pub chars : List ℕ
  pub scalars_are : scalars chars ≡ true
  pub bytes : b ≡ encodes chars
  pub document : Nodes
  pub spells : SpellsDocument chars document
  pub is_document : IsDocument document
  pub only : (cs : List ℕ) (d : Nodes) → scalars cs ≡ true → b ≡ encodes cs → SpellsDocument cs d → d ≡ document
  pub tokens_are : ts ≡ reader_tokens document
