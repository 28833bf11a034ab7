-- What a node was given stays, and what isn't held is never held again.
use Rattle.std.proofs.Common.{◌≡◌, ℕ, true, false, not, ◌&&◌, List, [], ◌∷◌, refl, sym, ◌∙◌, ap, subst, inl, inr, Some, None, Option}
use Rattle.std.proofs.lemmas.Bool.{and_parts, and_from, or_cases, or_left, or_right, true≢false, not-true, false_from_ne_true}
use Rattle.gcx_model.specs.Tree.{Node, serial_of, within, Tree, TreeToken, grow, grow_all, is_open_at}
use Rattle.gcx_model.specs.Paths.{any}
use Rattle.gcx_model.specs.Members.{In}
use Rattle.gcx_model.specs.Nodes.{Grown}
use Rattle.gcx_model.specs.Core.{OffTree, RoleRowTree, PlanTree}
use Rattle.gcx_model.specs.Run.{Action}
use Rattle.gcx_model.specs.Placed.{row_at}
use Rattle.gcx_model.specs.Held.{path_of, on_row, given_row, given, is_held}
use Rattle.placed_laws.specs.Lasting.{GivenStays}
use Rattle.tree_laws.proofs.Reading as old
use Rattle.tree_laws.proofs.Reading.{Reading}
use Rattle.tree_laws.proofs.Lists.{any_in, any_from}
use Rattle.tree_laws.proofs.Matches.{Grown-grow}
use Rattle.placed_laws.proofs.Stays.{gives_same, held_back}
use Rattle.tree_laws.proofs.Fed.{nodes_stay, grown, from_tokens}
use Rattle.placed_laws.proofs.CoreStates.{taken_acted}
use Rattle.tree_laws.proofs.Growing.{fed_all}

given_all : (us : List TreeToken) (plan : PlanTree) (P : Tree) → Grown P → (n : Node) (r : ℕ) → In n P.nodes → given plan (grow_all us P) n r ≡ given plan P n r
given_all [] plan P w n r i = refl
given_all (t ∷ us) plan P w n r i = given_all us plan (grow t P) (Grown-grow t P w) n r (nodes_stay (t ∷ []) P n i) ∙ once (row_at plan.roles r)
  where
    once : (row : Option RoleRowTree) → on_row (given_row (path_of plan) (grow t P) n) row ≡ on_row (given_row (path_of plan) P n) row
    once None = refl
    once (Some row) = gives_same t P w 0 (path_of plan row.var) row.tail row.kind n i

pub given_stays : GivenStays
given_stays plan P Q l m n r i =
    let h = fed_all P Q m in
    subst (λ (z : Tree). given plan z n r ≡ given plan P n r) (sym h.2) (given_all h.0 plan P (from_tokens (λ z. Grown z) grown P l) n r i)

live_acted : (p : Reading) (P : Tree) (A B : List Action) (n : Node) (rs : List RoleRowTree) (os : List OffTree) → ((a : Action) → In a A → In a B) → old.live_some p P B n rs os ≡ true → old.live_some p P A n rs os ≡ true
live_acted p P A B n [] os f h = h
live_acted p P A B n (r ∷ rs) [] f h = h
live_acted p P A B n (r ∷ rs) (o ∷ os) f h = elim (or_cases (old.given p P n r && not (old.taken p P B n r o)) (old.live_some p P B n rs os) h) [
  | inl e ↦ (
      let q = and_parts (old.given p P n r) (not (old.taken p P B n r o)) e in
      let t : old.taken p P A n r o ≡ false = false_from_ne_true _ (λ g. true≢false (sym (taken_acted p P A B n r o f g) ∙ not-true _ q.1)) in
      or_left _ _ (and_from _ _ q.0 (ap not t)))
  | inr e ↦ or_right _ _ (live_acted p P A B n rs os f e)
]

pub held_acted : (p : Reading) (P : Tree) (A B : List Action) (n : Node) → ((a : Action) → In a A → In a B) → old.is_held p P B n ≡ true → old.is_held p P A n ≡ true
held_acted p P A B n f h = elim (or_cases (is_open_at P.at (serial_of n)) (any (λ m. within (serial_of n) m && old.is_live p P B m) P.nodes) h) [
  | inl e ↦ or_left _ _ e
  | inr e ↦ (
      let r = any_in (λ (m : Node). within (serial_of n) m && old.is_live p P B m) P.nodes e in
      let q = and_parts (within (serial_of n) r.0) (old.is_live p P B r.0) r.2 in
      or_right _ _ (any_from (λ (m : Node). within (serial_of n) m && old.is_live p P A m) r.0 P.nodes r.1 (and_from _ _ q.0 (live_acted p P A B r.0 p.roles p.offs f q.1))))
]

pub held_back_all : (us : List TreeToken) (p : Reading) (P : Tree) → Grown P → (A : List Action) (n : Node) → In n P.nodes → old.is_held p (grow_all us P) A n ≡ true → old.is_held p P A n ≡ true
held_back_all [] p P w A n i h = h
held_back_all (t ∷ us) p P w A n i h = held_back t P w p A n i (held_back_all us p (grow t P) (Grown-grow t P w) A n (nodes_stay (t ∷ []) P n i) h)
