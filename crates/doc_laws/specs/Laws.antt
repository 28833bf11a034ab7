-- The laws of the grammar of documents, of its faults and of the machine that reads it.
use Rattle.std.specs.Prelude.{ℕ, ◌≡◌, ◌⊎◌, ◌↔◌, ◌≤◌, Bool, true, false, List, [], ◌∷◌, ◌++◌, length, Option, Some, None}
use Rattle.std.specs.List.{All}
use lib.Utf8.{scalars, encodes}
use Rattle.gcx_base.specs.Characters.{is_char, is_part_char}
use Rattle.gcx_base.specs.Name.{IsNameBytes}
use Rattle.gcx_base.specs.declared.limits.Limits.{Limits}
use Rattle.gcx_model.specs.Document.{Nodes, IsDocument}
use Rattle.gcx_model.specs.Tree.{TreeToken, Start, Chars, End, opening}
use Rattle.gcx_model.specs.Growth.{Leads, may_all}
use Rattle.gcx_model.specs.Attributes.{Attributes, attribute_names}
use Rattle.gcx_model.specs.Grammar.{Content, SpellsDocument, Viable}
use Rattle.gcx_model.specs.Fronts.{Frames, Piece, tag, part_name, IsFront, front_spelling, OpensFrames}
use Rattle.gcx_model.specs.declared.fault.DocFault.{DocFault}
use Rattle.gcx_model.specs.Faults.{AtSyntax, size, Comes, Clean, FaultIs}
use Rattle.gcx_model.specs.Seen.{SeenIs, seen_tree, LastTag, SeenInWords}
use Rattle.gcx_model.specs.Within.{IsWithin}
use Rattle.doc_laws.specs.Machine.{State, start, steps}
use Rattle.doc_laws.specs.States.{Fronts}
use Rattle.doc_laws.specs.Judging.{judged_steps, Told}

-- a name is one of these
abbrev pub Among : List ℕ → List (List ℕ) → Type 0
Among m [] = ⊥
Among m (n ∷ ns) = (m ≡ n) ⊎ Among m ns

-- the name of a start is a name
abbrev pub IsNamed : TreeToken → Type 0
IsNamed (Start name) = IsNameBytes name
IsNamed (Chars bytes) = Unit {0}
IsNamed End = Unit {0}

-- A text spells at most one document.
abbrev pub OneDocument : Type 0
OneDocument = (cs : List ℕ) (d e : Nodes) → SpellsDocument cs d → SpellsDocument cs e → d ≡ e

-- What is spelled has one root, names, and texts that are neither blank nor neighbours.
abbrev pub SpelledIsDocument : Type 0
SpelledIsDocument = (cs : List ℕ) (d : Nodes) → SpellsDocument cs d → IsDocument d

-- Every front of a document can go on to one.
abbrev pub FrontsAreViable : Type 0
FrontsAreViable = (cs : List ℕ) (fs : Frames) (x : Content) (p : Piece) → OpensFrames cs fs x p → Viable cs

-- What can go on to a document is a front of one.
abbrev pub ViableIsFront : Type 0
ViableIsFront = (cs : List ℕ) → Viable cs → (fs : Frames) × (x : Content) × (p : Piece) × OpensFrames cs fs x p

-- The machine reads exactly the fronts of documents, each to its state.
abbrev pub StepsAreFronts : Type 0
StepsAreFronts = (cs : List ℕ) (s : State) → (steps start cs ≡ Some s) ↔ Fronts cs s

-- With limits it answers the fault that comes first, or none comes.
abbrev pub JudgedIsFirst : Type 0
JudgedIsFirst = (lim : Limits) (cs : List ℕ) → Told lim cs (judged_steps lim 0 start cs)

-- Bytes have at most one fault.
abbrev pub OneFault : Type 0
OneFault = (lim : Limits) (b : List ℕ) (ended : Bool) (o p : Option DocFault) → FaultIs lim b ended o → FaultIs lim b ended p → o ≡ p

-- All bytes have a fault, or have none.
abbrev pub SomeFault : Type 0
SomeFault = (lim : Limits) (b : List ℕ) (ended : Bool) → (o : Option DocFault) × FaultIs lim b ended o

-- A fault stays with more bytes.
abbrev pub FaultStays : Type 0
FaultStays = (lim : Limits) (b more : List ℕ) (ended : Bool) (f : DocFault) → FaultIs lim b false (Some f) → FaultIs lim (b ++ more) ended (Some f)

-- In all bytes tokens are seen.
abbrev pub SomeSeen : Type 0
SomeSeen = (lim : Limits) (b : List ℕ) (ended : Bool) → (ts : List TreeToken) × SeenIs lim b ended ts

-- What is seen in bytes is one list of tokens.
abbrev pub OneSeen : Type 0
OneSeen = (lim : Limits) (b : List ℕ) (ended : Bool) (ts us : List TreeToken) → SeenIs lim b ended ts → SeenIs lim b ended us → ts ≡ us

-- The longest front that ends with a tag, closed by end tags, spells a document with the tokens that are seen.
abbrev pub SeenIsClosed : Type 0
SeenIsClosed = (cs : List ℕ) (fs : Frames) (x : Content) (p : Piece) → OpensFrames cs fs x p → LastTag cs fs x

-- A name that came before in its tag makes a fault where a character ends it.
abbrev pub NamesComeOnce : Type 0
NamesComeOnce = (fs : Frames) (x : Content) (n : List ℕ) (ats : Attributes) (g m : List ℕ) (c : ℕ) → IsFront fs x (tag n ats (part_name g m)) → Among (encodes m) (attribute_names ats) → is_part_char c ≡ false → Viable (front_spelling fs x (tag n ats (part_name g m)) ++ (c ∷ [])) → ⊥

-- A character that is no Char makes a fault.
abbrev pub OnlyChars : Type 0
OnlyChars = (lim : Limits) (cs : List ℕ) (c : ℕ) → is_char c ≡ false → Comes lim cs c (AtSyntax (size cs))

-- The tags seen are those of the longest front of the bytes that has no fault and ends with a tag, closed by end tags.
abbrev pub SeenIsLongest : Type 0
SeenIsLongest = (lim : Limits) (b : List ℕ) (ended : Bool) (ts : List TreeToken) → (h : SeenIs lim b ended ts) → SeenInWords lim b h.tags

-- The tokens that are seen may come one by one.
abbrev pub SeenComes : Type 0
SeenComes = (lim : Limits) (b : List ℕ) (ended : Bool) (ts : List TreeToken) → SeenIs lim b ended ts → may_all ts opening ≡ true

-- So their tree grew from the opening one.
abbrev pub SeenGrew : Type 0
SeenGrew = (lim : Limits) (b : List ℕ) (ended : Bool) (ts : List TreeToken) → SeenIs lim b ended ts → Leads opening (seen_tree ts)

-- Each start that is seen has a name.
abbrev pub SeenIsNamed : Type 0
SeenIsNamed = (lim : Limits) (b : List ℕ) (ended : Bool) (ts : List TreeToken) → SeenIs lim b ended ts → All IsNamed ts

-- More bytes give more tokens.
abbrev pub SeenGoesOn : Type 0
SeenGoesOn = (lim : Limits) (b more : List ℕ) (ended : Bool) (ts us : List TreeToken) → SeenIs lim b false ts → SeenIs lim (b ++ more) ended us → (rest : List TreeToken) × (us ≡ ts ++ rest)

-- No fault comes in a whole document exactly where its names, runs and values are short and its elements aren't too deep.
abbrev pub LimitsInWords : Type 0
LimitsInWords = (lim : Limits) (cs : List ℕ) (d : Nodes) (s : SpellsDocument cs d) → Clean lim cs ↔ IsWithin lim s.content

-- So bytes that spell a document have no fault exactly where they are few enough and the document is within limits.
abbrev pub NoFaultInWords : Type 0
NoFaultInWords = (lim : Limits) (cs : List ℕ) (d : Nodes) (s : SpellsDocument cs d) → scalars cs ≡ true → FaultIs lim (encodes cs) true None ↔ ((length (encodes cs) ≤ lim.bytes) × IsWithin lim s.content)
