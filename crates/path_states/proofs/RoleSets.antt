-- A set of roles that has the members of a list.
use Rattle.std.proofs.Common.{◌≡◌, ℕ, true, eqb, ◌||◌, List, [], ◌∷◌, ◌++◌, sym, ◌∙◌, ap, inl, inr}
use Rattle.std.specs.Prelude.{◌↔◌}
use Rattle.std.specs.Cmp.{nat_cmp_total, unsigned_tied}
use Rattle.std.specs.FinSet.{FinSet, contains, insert, contains-insert}
use Rattle.std.specs.Ordering.{nat_cmp}
use Rattle.std.proofs.lemmas.Bool.{or_cases, or_left, or_right, eqb-true, eq-eqb}
use Rattle.tree_laws.proofs.Lists.{In, In-left, In-right, In-append}

-- one role more, in the set and at the end of the list
pub inserted : (s : FinSet nat_cmp) (xs : List ℕ) (x : ℕ) → ((r : ℕ) → contains s r ≡ true ↔ In r xs) → (r : ℕ) → contains (insert s x) r ≡ true ↔ In r (xs ++ x ∷ [])
inserted s xs x h r = (
  (λ e. elim (or_cases (eqb r x) (contains s r) (sym is ∙ e)) [
    | inl f ↦ In-right r xs (x ∷ []) (inl (sym (eqb-true _ _ f)))
    | inr f ↦ In-left r xs (x ∷ []) ((h r).0 f)
  ]),
  (λ i. is ∙ elim (In-append r xs (x ∷ []) i) [
    | inl j ↦ or_right (eqb r x) (contains s r) ((h r).1 j)
    | inr j ↦ elim j [ inl e ↦ or_left (eqb r x) (contains s r) (eq-eqb r x (sym e)) | inr b ↦ absurd b ]
  ]),
)
  where
    is : contains (insert s x) r ≡ (eqb r x || contains s r)
    is = contains-insert nat_cmp_total s x r ∙ ap (λ b. b || contains s r) (unsigned_tied r x)
