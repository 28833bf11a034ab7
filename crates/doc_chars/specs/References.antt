-- What is known of a reference whose first characters were read.
use Rattle.std.specs.Prelude.{◌≡◌, ◌<◌, ◌≤◌, ℕ, true, List, [], ◌++◌, length, take, Option, Some, None, codes}
use Rattle.doc_chars.specs.declared.reference.RefStep.{RefStep}
use Rattle.doc_chars.specs.declared.reference.RefStep.TheVariants as ref_step
use Rattle.doc_chars.specs.declared.reference.Entity.{Entity}
use Rattle.doc_chars.specs.declared.reference.Entity.TheVariants.{Lt, Gt, Amp, Apos, Quot}
use Rattle.doc_chars.specs.declared.reference.Radix.{Radix}
use Rattle.doc_chars.specs.declared.reference.Radix.TheVariants.{Decimal, Hexadecimal}
use Rattle.doc_chars.specs.declared.reference.State.{State}
use Rattle.doc_chars.specs.declared.reference.State.TheVariants.{Start, LetterA, Name, Number}
use Rattle.doc_chars.specs.Reference.{radix_value, all_digits, Refers, BeginsReference, NeverRefers}

abbrev pub spelling_of : Entity → List ℕ
spelling_of Lt = codes "lt;"
spelling_of Gt = codes "gt;"
spelling_of Amp = codes "amp;"
spelling_of Apos = codes "apos;"
spelling_of Quot = codes "quot;"

abbrev pub character_of : Entity → ℕ
character_of Lt = 60
character_of Gt = 62
character_of Amp = 38
character_of Apos = 39
character_of Quot = 34

-- how many characters tell an entity from the others
abbrev pub telling_of : Entity → ℕ
telling_of Lt = 1
telling_of Gt = 1
telling_of Amp = 2
telling_of Apos = 2
telling_of Quot = 1

abbrev pub base_of : Radix → ℕ
base_of Decimal = 10
base_of Hexadecimal = 16

abbrev pub opening_of : Radix → List ℕ
opening_of Decimal = codes "#"
opening_of Hexadecimal = codes "#x"

-- the value of the digits, if there are any; no Char is above #x10FFFF
abbrev pub IsValueOf : ℕ → Option ℕ → List ℕ → Type 0
IsValueOf radix None digits = digits ≡ []
IsValueOf radix (Some value) digits = (0 < length digits) × (radix_value radix digits ≡ value) × (value ≤ 0x10FFFF)

-- digits of this value behind the opening
pub record InNumber (radix : Radix) (value : Option ℕ) (text : List ℕ) : Type 0 where
  pub digits : List ℕ
  pub text_is : text ≡ opening_of radix ++ digits
  pub are : all_digits (base_of radix) digits ≡ true
  pub value_is : IsValueOf (base_of radix) value digits

-- the first characters of an entity, which tell it
pub record InName (entity : Entity) (count : ℕ) (text : List ℕ) : Type 0 where
  pub telling : telling_of entity ≤ count
  pub short : count < length (spelling_of entity)
  pub text_is : text ≡ take count (spelling_of entity)

-- the state is that behind these characters
abbrev pub StandsForText : State → List ℕ → Type 0
StandsForText Start text = text ≡ []
StandsForText LetterA text = text ≡ codes "a"
StandsForText (Name entity count) text = InName entity count text
StandsForText (Number radix value) text = InNumber radix value text

-- the answer is that for these characters
abbrev pub Answers : RefStep → State → List ℕ → Type 0
Answers ref_step.More state text = BeginsReference text × StandsForText state text
Answers (ref_step.Done c) state text = Refers text c
Answers ref_step.Bad state text = NeverRefers text

-- the state stays where nothing goes on
abbrev pub Stays : RefStep → State → State → Type 0
Stays ref_step.More old new = Unit {0}
Stays (ref_step.Done c) old new = new ≡ old
Stays ref_step.Bad old new = new ≡ old

-- the value has at most as many as a character
abbrev pub IsSoundValue : Option ℕ → Type 0
IsSoundValue None = Unit {0}
IsSoundValue (Some value) = value ≤ 0x10FFFF

abbrev pub IsSound : State → Type 0
IsSound Start = Unit {0}
IsSound LetterA = Unit {0}
IsSound (Name entity count) = Unit {0}
IsSound (Number radix value) = IsSoundValue value
