-- Which fault comes first, with limits (this project's).
use Rattle.std.specs.Prelude.{ℕ, ◌≡◌, ◌+◌, ◌<◌, ◌≤◌, ◌⊎◌, Bool, true, false, List, [], ◌∷◌, ◌++◌, length, take, Option, Some, None}
use Rattle.std.specs.Char.{len_utf8}
use lib.Utf8.{scalars, encodes}
use Rattle.gcx_base.specs.Characters.{is_start_char}
pub use Rattle.gcx_base.specs.Utf8.{IsCharFront, IsNotUtf8}
use Rattle.gcx_base.specs.declared.limits.Limits.{Limits}
use Rattle.gcx_model.specs.Document.{Nodes}
use Rattle.gcx_model.specs.Attributes.{Attributes}
use Rattle.gcx_model.specs.Grammar.{Content, has_element, may_open, SpellsDocument, Viable}
use Rattle.gcx_model.specs.Fronts.{Frames, inside, Piece, less, tag, spaced, OpensFrames, depth, naming, piece_run}
use Rattle.gcx_model.specs.declared.fault.DocFault.{DocFault}
use Rattle.gcx_model.specs.declared.fault.DocFault.TheVariants as doc_faults

-- how many bytes characters take
abbrev pub size : List ℕ → ℕ
size [] = 0
size (c ∷ cs) = len_utf8 c + size cs

-- a fault that a character makes, with its offset in bytes
pub data DocumentRefusal : Type 0 where
  AtSyntax : ℕ → DocumentRefusal
  AtDepth : ℕ → DocumentRefusal
  AtName : ℕ → DocumentRefusal
  AtText : ℕ → DocumentRefusal

-- c is a front whose run is such
pub record HasRun (c : List ℕ) (P : List ℕ → Type 0) : Type 0 where
  pub frames : Frames
  pub content : Content
  pub piece : Piece
  pub opens : OpensFrames c frames content piece
  pub is : P (piece_run content piece)

-- c is a front whose name that is being read is such
pub record HasName (c : List ℕ) (P : List ℕ → Type 0) : Type 0 where
  pub frames : Frames
  pub content : Content
  pub piece : Piece
  pub opens : OpensFrames c frames content piece
  pub is : P (naming piece)

-- Behind c a start tag's name begins, with as many elements open as may be.
pub record IsFullTag (lim : Limits) (c : List ℕ) : Type 0 where
  pub frames : Frames
  pub content : Content
  pub opens : OpensFrames c frames content less
  pub may : may_open (inside frames) (has_element content) ≡ true
  pub full : lim.depth ≤ depth frames

-- Behind c an attribute's name begins, with as many elements open as may be: its tag's element is one more.
pub record IsFullAttribute (lim : Limits) (c : List ℕ) : Type 0 where
  pub frames : Frames
  pub content : Content
  pub name : List ℕ
  pub ats : Attributes
  pub gap : List ℕ
  pub opens : OpensFrames c frames content (tag name ats (spaced gap))
  pub full : lim.depth ≤ depth frames + 1

-- With the name character c behind the front an element too many is open; the fault stands at the '<' of a start tag, and at the character itself in an attribute.
abbrev pub IsDeep : Limits → (front : List ℕ) → (c : ℕ) → (k : ℕ) → Type 0
IsDeep lim front c k = (is_start_char c ≡ true) × ((IsFullTag lim front × (k + 1 ≡ size front)) ⊎ (IsFullAttribute lim front × (k ≡ size front)))

-- With the character c behind the front this fault comes.
abbrev pub Comes : Limits → (front : List ℕ) → (c : ℕ) → DocumentRefusal → Type 0
Comes lim front c (AtSyntax k) = (k ≡ size front) × (Viable (front ++ c ∷ []) → ⊥)
Comes lim front c (AtDepth k) = IsDeep lim front c k
Comes lim front c (AtName k) = (k ≡ size front) × HasName (front ++ c ∷ []) (λ n. lim.name < length (encodes n)) × ((j : ℕ) → IsDeep lim front c j → ⊥)
Comes lim front c (AtText k) = (k ≡ size front) × HasRun (front ++ c ∷ []) (λ r. lim.text < length r) × HasRun front (λ r. length r ≤ lim.text)

-- No fault comes in the characters.
abbrev pub Clean : Limits → List ℕ → Type 0
Clean lim cs = (front : List ℕ) (c : ℕ) (rest : List ℕ) (f : DocumentRefusal) → cs ≡ front ++ (c ∷ rest) → Comes lim front c f → ⊥

-- The fault f comes first in the characters.
pub record ComesFirst (lim : Limits) (cs : List ℕ) (f : DocumentRefusal) : Type 0 where
  pub front : List ℕ
  pub at : ℕ
  pub rest : List ℕ
  pub parts : cs ≡ front ++ (at ∷ rest)
  pub clean : Clean lim front
  pub comes : Comes lim front at f

abbrev pub fault_of : DocumentRefusal → DocFault
fault_of (AtSyntax k) = doc_faults.Syntax k
fault_of (AtDepth k) = doc_faults.Depth k
fault_of (AtName k) = doc_faults.NameLong k
fault_of (AtText k) = doc_faults.TextLong k

-- b is these characters, and a proper front of one more
pub record Decodes (b cs tail : List ℕ) : Type 0 where
  pub chars : scalars cs ≡ true
  pub parts : b ≡ encodes cs ++ tail
  pub part : IsCharFront tail

-- b is these characters, and a sequence that isn't UTF-8 behind them (Unicode, section 3.9)
pub record IsBad (b cs : List ℕ) : Type 0 where
  pub rest : List ℕ
  pub chars : scalars cs ≡ true
  pub parts : b ≡ encodes cs ++ rest
  pub bad : IsNotUtf8 rest

-- The fault of bytes that are no more than may be, and whose end is the input's or isn't.
pub data FaultWithin (lim : Limits) (b : List ℕ) (ended : Bool) (o : Option DocFault) : Type 0 where
  -- a character makes it
  by_character : (cs rest : List ℕ) (f : DocumentRefusal) → scalars cs ≡ true → b ≡ encodes cs ++ rest → ComesFirst lim cs f → o ≡ Some (fault_of f) → FaultWithin lim b ended o
  -- a sequence that isn't UTF-8
  by_sequence : (cs : List ℕ) → IsBad b cs → Clean lim cs → o ≡ Some (doc_faults.Utf8 (size cs)) → FaultWithin lim b ended o
  -- the input ends inside a character
  by_cut : (cs tail : List ℕ) → Decodes b cs tail → Clean lim cs → (tail ≡ [] → ⊥) → ended ≡ true → o ≡ Some (doc_faults.Utf8 (size cs)) → FaultWithin lim b ended o
  -- the input ends too soon
  by_end : (cs : List ℕ) → Decodes b cs [] → Clean lim cs → ((d : Nodes) → SpellsDocument cs d → ⊥) → ended ≡ true → o ≡ Some (doc_faults.Truncated (size cs)) → FaultWithin lim b ended o
  -- none so far
  none_yet : (cs tail : List ℕ) → Decodes b cs tail → Clean lim cs → ended ≡ false → o ≡ None → FaultWithin lim b ended o
  -- a whole document
  none_whole : (cs : List ℕ) (d : Nodes) → Decodes b cs [] → Clean lim cs → SpellsDocument cs d → ended ≡ true → o ≡ None → FaultWithin lim b ended o

-- The fault of bytes. What shows in the bytes that may be comes before TooLong, which comes with the first byte too many.
pub data FaultIs (lim : Limits) (b : List ℕ) (ended : Bool) (o : Option DocFault) : Type 0 where
  within_limit : length b ≤ lim.bytes → FaultWithin lim b ended o → FaultIs lim b ended o
  before_limit : (f : DocFault) → lim.bytes < length b → FaultWithin lim (take lim.bytes b) false (Some f) → o ≡ Some f → FaultIs lim b ended o
  past_limit : lim.bytes < length b → FaultWithin lim (take lim.bytes b) false None → o ≡ Some (doc_faults.TooLong lim.bytes) → FaultIs lim b ended o
