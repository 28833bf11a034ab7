-- References by the grammar of documents.
use Rattle.std.specs.Prelude.{◌≡◌, ℕ, List, ◌∷◌, ◌↔◌}
use Rattle.gcx_model.specs.References.{Reference, reference_spelling, reference_char, IsReference}
use Rattle.doc_chars.specs.Reference.{Refers}

-- behind `&` the characters spell a reference of the grammar, which stands for c
pub record SpellsReference (text : List ℕ) (c : ℕ) : Type 0 where
  pub reference : Reference
  pub good : IsReference reference
  pub spelled : reference_spelling reference ≡ 38 ∷ text
  pub stands_for : reference_char reference ≡ c

-- The references that are read character by character are those of the grammar.
abbrev pub ReferencesAgree : Type 0
ReferencesAgree = (text : List ℕ) (c : ℕ) → Refers text c ↔ SpellsReference text c
