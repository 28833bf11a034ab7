-- Text is read in one go, and a name that came before isn't read to its end.
use Rattle.std.proofs.Common.{ℕ, ◌≡◌, ◌+◌, inl, inr, Bool, true, false, not, List, [], ◌∷◌, ◌++◌, refl, sym, ap, ◌∙◌}
use Rattle.std.specs.Prelude.{bytes_eq}
use Rattle.std.proofs.lemmas.Bool.{false≢true, and_parts, cond-false}
use lib.Utf8.{encodes}
use Rattle.gcx_base.specs.Characters.{is_part_char}
use Rattle.gcx_model.specs.Attributes.{is_fresh, Attributes, attribute_names}
use Rattle.gcx_model.specs.Grammar.{Content, Viable}
use Rattle.gcx_model.specs.Fronts.{Frames, part_name, tag, IsFront, front_spelling}
use Rattle.doc_laws.specs.States.{state_of}
use Rattle.doc_laws.specs.Laws.{Among}
use Rattle.doc_laws.proofs.Tests.{same_self}
use Rattle.doc_laws.proofs.Theorems.{step_bad}

not_is : (b : Bool) → not b ≡ true → b ≡ true → ⊥
not_is true h k = false≢true h
not_is false h k = false≢true k

-- a fresh name is none of the others
pub fresh_apart : (m : List ℕ) (ns : List (List ℕ)) → is_fresh m ns ≡ true → Among m ns → ⊥
fresh_apart m [] h k = k
fresh_apart m (n ∷ ns) h (inl e) = not_is (bytes_eq m n) (and_parts (not (bytes_eq m n)) _ h).0 (ap (bytes_eq m) (sym e) ∙ same_self m)
fresh_apart m (n ∷ ns) h (inr k) = fresh_apart m ns (and_parts (not (bytes_eq m n)) _ h).1 k

pub twice_fault : (fs : Frames) (x : Content) (n : List ℕ) (ats : Attributes) (g m : List ℕ) (c : ℕ) → IsFront fs x (tag n ats (part_name g m)) → Among (encodes m) (attribute_names ats) → is_part_char c ≡ false → Viable (front_spelling fs x (tag n ats (part_name g m)) ++ (c ∷ [])) → ⊥
twice_fault fs x n ats g m c h k e =
    let p = tag n ats (part_name g m) in
    let stale : is_fresh (encodes m) (attribute_names ats) ≡ false = by (is_fresh (encodes m) (attribute_names ats)) refl in
    step_bad (front_spelling fs x p) (state_of fs x p) c (record { frames = fs; content = x; piece = p; good = h; spelled = refl; state = refl })
    (cond-false (is_part_char c) _ _ e ∙ cond-false (is_fresh (encodes m) (attribute_names ats)) _ _ stale)
  where
    by : (b : Bool) → is_fresh (encodes m) (attribute_names ats) ≡ b → is_fresh (encodes m) (attribute_names ats) ≡ false
    by true e = absurd (fresh_apart (encodes m) (attribute_names ats) e k)
    by false e = e
