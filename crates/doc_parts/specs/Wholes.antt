-- These definitions follow the code; no public clause speaks of them.
-- Parts that are read as a whole (this project's).
use Rattle.std.specs.Prelude.{ℕ, ◌≡◌, ◌≤◌, true, ◌⊎◌, List, [], ◌∷◌, length}
use Rattle.gcx_base.specs.declared.limits.Limits.{Limits}
use Rattle.gcx_model.specs.Fronts.{is_inside}
use Rattle.doc_chars.specs.Stream.{AreChars}
use Rattle.doc_laws.specs.Machine.{State, Between, StartName, InValue}
use Rattle.doc_machine.specs.Sound.{IsSound}
use Rattle.doc_parts.specs.declared.reference.Entity.{Entity}
use Rattle.doc_parts.specs.declared.reference.Entity.TheVariants as entities

-- the text begins with this byte
abbrev pub BeginsWith : ℕ → List ℕ → Type 0
BeginsWith b text = (after : List ℕ) × (text ≡ b ∷ after)

-- behind the characters of a tag's name
abbrev pub named : State → List ℕ → State
named s name = record s { mode = StartName; name = name }

-- behind the name of an attribute, the sign and the quote
abbrev pub in_value : State → List ℕ → ℕ → State
in_value s name q = record s { mode = InValue q; attr = name }

-- between two tags of an element, within the limit of text
pub record IsBetween (lim : Limits) (s : State) (text : List ℕ) : Type 0 where
  pub chars : AreChars text
  pub mode : s.mode ≡ Between
  pub inside : is_inside s.names ≡ true
  pub run : length s.run ≤ lim.text
  pub sound : IsSound s

-- a reference may begin
abbrev pub MayRefer : State → Type 0
MayRefer s = ((s.mode ≡ Between) × (is_inside s.names ≡ true)) ⊎ ((q : ℕ) × (s.mode ≡ InValue q) × ((q ≡ 39) ⊎ (q ≡ 34)))

-- the reference to an entity, and its character
abbrev pub reference_of : Entity → List ℕ
reference_of entities.Less = 38 ∷ (108 ∷ (116 ∷ (59 ∷ [])))
reference_of entities.Greater = 38 ∷ (103 ∷ (116 ∷ (59 ∷ [])))
reference_of entities.Ampersand = 38 ∷ (97 ∷ (109 ∷ (112 ∷ (59 ∷ []))))
reference_of entities.Quotation = 38 ∷ (113 ∷ (117 ∷ (111 ∷ (116 ∷ (59 ∷ [])))))
reference_of entities.Apostrophe = 38 ∷ (97 ∷ (112 ∷ (111 ∷ (115 ∷ (59 ∷ [])))))

abbrev pub character_of : Entity → ℕ
character_of entities.Less = 60
character_of entities.Greater = 62
character_of entities.Ampersand = 38
character_of entities.Quotation = 34
character_of entities.Apostrophe = 39
