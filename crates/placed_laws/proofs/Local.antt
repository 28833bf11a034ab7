-- What the buffer tests at one node, and what the evaluator reads from the rows that are kept.
use Rattle.std.proofs.Common.{◌≡◌, ℕ, true, ◌&&◌, List, refl, sym, ◌∙◌, ap, subst, inl, inr, ◌⊎◌, eqb, ltb}
use Rattle.std.specs.List.{filter}
use Rattle.std.proofs.lemmas.Bool.{or_cases, or_right, and_parts, and_from, eqb-true, eq-eqb}
use Rattle.gcx_model.specs.Tree.{Node, Root, Under, serial_of, above, within, Tree, is_open_at}
use Rattle.tree_laws.proofs.Reading.{is_child_of, Reading, held, is_held, is_live}
use Rattle.gcx_model.specs.Paths.{any, hits, matches}
use Rattle.gcx_base.specs.declared.steps.Step.{Step}
use Rattle.gcx_model.specs.Run.{Action}
use Rattle.base_laws.proofs.Members.{filter_all}
use Rattle.tree_laws.proofs.Lists.{In, any_in, any_from}
use Rattle.tree_laws.proofs.Matches.{Grown, Numbered-same}
use Rattle.tree_laws.proofs.Freeze.{within_self, within_above}
use Rattle.tree_laws.proofs.Chains.{above_in}
use Rattle.placed_laws.proofs.PointForms.{later}
use Rattle.tree_laws.proofs.Held.{filter_comm}

-- a node below n is n, or lies in a child of n
pub child_way : (n m : Node) → In n (above m) → (n ≡ m) ⊎ ((c : Node) × In c (above m) × (is_child_of (serial_of n) c ≡ true))
child_way n Root (inl e) = inl (sym e)
child_way n Root (inr h) = absurd h
child_way n (Under p s k) (inl e) = inl (sym e)
child_way n (Under p s k) (inr h) = elim (child_way n p h) [
  | inl e ↦ inr (Under p s k, inl refl, eq-eqb _ _ (ap serial_of (sym e)))
  | inr r ↦ inr (r.0, inr r.1, r.2)
]

pub within_is : (P : Tree) → Grown P → (n m : Node) → In n P.nodes → In m P.nodes → within (serial_of n) m ≡ true → In n (above m)
within_is P w n Root i j h = inl (Numbered-same 0 P.nodes w.numbered Root n j i (eqb-true _ _ h))
within_is P w n (Under p s k) i j h = elim (or_cases (eqb s (serial_of n)) (within (serial_of n) p) h) [
  | inl e ↦ inl (Numbered-same 0 P.nodes w.numbered (Under p s k) n j i (eqb-true _ _ e))
  | inr e ↦ inr (within_is P w n p i (w.upward p s k j) e)
]

-- a node that is held is open, has a live role, or has a child that is held
pub held_local : (p : Reading) (P : Tree) (A : List Action) → Grown P → (n : Node) → In n P.nodes → is_held p P A n ≡ true
    → ((is_open_at P.at (serial_of n) ≡ true) ⊎ (is_live p P A n ≡ true)) ⊎ ((c : Node) × In c P.nodes × (is_child_of (serial_of n) c ≡ true) × (is_held p P A c ≡ true))
held_local p P A w n i h = elim (or_cases (is_open_at P.at (serial_of n)) (any (λ m. within (serial_of n) m && is_live p P A m) P.nodes) h) [
  | inl o ↦ inl (inl o)
  | inr l ↦ (
      let r = any_in (λ (m : Node). within (serial_of n) m && is_live p P A m) P.nodes l in
      let a = and_parts (within (serial_of n) r.0) (is_live p P A r.0) r.2 in
      elim (child_way n r.0 (within_is P w n r.0 i r.1 a.0)) [
        | inl e ↦ inl (inr (subst (λ (z : Node). is_live p P A z ≡ true) (sym e) a.1))
        | inr c ↦ inr (
          c.0,
          above_in P w r.0 c.0 r.1 c.1,
          c.2,
          or_right _ _ (any_from (λ (m : Node). within (serial_of c.0) m && is_live p P A m) r.0 P.nodes r.1
              (and_from _ _ (within_above (serial_of c.0) c.0 r.0 c.1 (within_self (serial_of c.0) c.0 (eq-eqb _ _ refl))) a.1)),
        )
      ])
]

-- where each later match is held, the kept rows show the same later matches
pub later_held : (p : Reading) (P : Tree) (A : List Action) (n : ℕ) (path : List Step) (present : Node) → ((m : Node) → In m (later present (matches P n path)) → is_held p P A m ≡ true) → later present (filter (hits n path) (held p P A)) ≡ later present (matches P n path)
later_held p P A n path present h =
    ap (later present) (filter_comm (hits n path) (is_held p P A) P.nodes)
    ∙ (filter_comm (λ m. ltb (serial_of present) (serial_of m)) (is_held p P A) (matches P n path)
    ∙ filter_all (is_held p P A) (later present (matches P n path)) h)
