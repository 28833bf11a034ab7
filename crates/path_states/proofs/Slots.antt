-- Moves that are put into slots.
use Rattle.std.proofs.Common.{◌≡◌, ℕ, zero, suc, List, [], ◌∷◌, ◌++◌, set, sym, ◌∙◌, ap, subst, inl, inr, ◌⊎◌, Some, None, Option}
use Rattle.std.specs.Prelude.{slice_get, IfSome}
use Rattle.tree_laws.proofs.Lists.{In, In-append}
use Rattle.path_states.specs.Moves.{AddsAtMost, HasNone, Remembers}
use Rattle.path_states.specs.declared.moves.Move.{Move}
use Rattle.path_states.specs.declared.moves.Moves.{Moves}
use Rattle.path_states.proofs.Looking.{in_at}

in_set : {X : Type 0} (xs : List X) (i : ℕ) (x y : X) → In y (set xs i x) → In y xs ⊎ (x ≡ y)
in_set [] i x y j = absurd j
in_set (z ∷ zs) zero x y (inl e) = inr e
in_set (z ∷ zs) zero x y (inr j) = inl (inr j)
in_set (z ∷ zs) (suc i) x y (inl e) = inl (inl e)
in_set (z ∷ zs) (suc i) x y (inr j) = elim (in_set zs i x y j) [ inl k ↦ inl (inr k) | inr e ↦ inr e ]

pub adds_set : (slots : List (Option Move)) (i : ℕ) (one : Move) → AddsAtMost slots (set slots i (Some one)) one
adds_set slots i one m j = elim (in_set slots i (Some one) (Some m) j) [ inl k ↦ inl k | inr e ↦ (let f : one ≡ m = cc in inr f) ]

-- over slots that have no other moves
pub adds_over : (xs ys zs : List (Option Move)) (one : Move) → ((m : Move) → In (Some m) ys → In (Some m) xs) → AddsAtMost ys zs one → AddsAtMost xs zs one
adds_over xs ys zs one h a m j = elim (a m j) [ inl i ↦ inl (h m i) | inr e ↦ inr e ]

-- two, one behind the other
pub adds_twice : (xs ys zs : List (Option Move)) (one : Move) → AddsAtMost xs ys one → AddsAtMost ys zs one → AddsAtMost xs zs one
adds_twice xs ys zs one a b m j = elim (b m j) [ inl i ↦ a m i | inr e ↦ inr e ]

-- by the move's numbers
pub adds_numbers : (xs ys : List (Option Move)) (one : Move) (from number to : ℕ) → AddsAtMost xs ys one → (one.from ≡ from) × ((one.number ≡ number) × (one.to ≡ to))
    → (m : Move) → In (Some m) ys → In (Some m) xs ⊎ ((m.from ≡ from) × ((m.number ≡ number) × (m.to ≡ to)))
adds_numbers xs ys one from number to a q m j = elim (a m j) [
  | inl i ↦ inl i
  | inr e ↦ inr (sym (ap (λ (z : Move). z.from) e) ∙ q.0, (sym (ap (λ (z : Move). z.number) e) ∙ q.1.0, sym (ap (λ (z : Move). z.to) e) ∙ q.1.1))
]

pub none_push : (xs ys : List (Option Move)) → ys ≡ xs ++ None ∷ [] → HasNone xs → HasNone ys
none_push xs ys e h m i = elim (In-append (Some m) xs (None ∷ []) (subst (λ (z : List (Option Move)). In (Some m) z) e i)) [
  | inl j ↦ h m j
  | inr j ↦ elim j [ inl f ↦ absurd (cc) | inr b ↦ b ]
]

-- where a move leads that stands in a slot
pub remembered_at : (moves : Moves) (slots : List (Option Move)) (at : ℕ) (known : Move) (from number : ℕ) (r : Option ℕ) → slots ≡ moves.slots.items → slice_get slots at ≡ Some (Some known)
    → IfSome r (λ to. (known.from ≡ from) × ((known.number ≡ number) × (known.to ≡ to))) → IfSome r (Remembers moves from number)
remembered_at moves slots at known from number None e is h = tt
remembered_at moves slots at known from number (Some to) e is h = record {
  move = known;
  among = subst (λ (z : List (Option Move)). In (Some known) z) e (in_at slots at (Some known) is);
  starts = h.0;
  by = h.1.0;
  ends = h.1.1;
}
