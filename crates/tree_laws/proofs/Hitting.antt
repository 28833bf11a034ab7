-- Matches, first matches and nested loops by the nodes that paths hit, and what a role's kind means.
use Rattle.std.proofs.Common.{◌≡◌, ℕ, ◌≤◌, true, false, ◌&&◌, List, [], ◌∷◌, ◌++◌, refl, ◌∙◌, ap, inl, inr, arith, Some, None, Option, ◌+◌, Bool}
use Rattle.std.proofs.lemmas.Bool.{and_parts, and_from, false≢true, eqb-true, eq-eqb}
use Rattle.std.proofs.lemmas.Option.{same_Some}
use Rattle.gcx_base.specs.declared.steps.Step.{Step}
use Rattle.gcx_model.specs.Tree.{Node, serial_of, above, Tree}
use Rattle.gcx_model.specs.Paths.{head, reach, hits, matches, any, first}
use Rattle.gcx_model.specs.Members.{In}
use Rattle.gcx_model.specs.Nodes.{Grown, Rising}
use Rattle.tree_laws.specs.Paths.{HitsBySteps, MatchesAreHits, FirstIsLeast, LoopsBindHits, OneChain, LoopsInOrder, GivesByKind}
use Rattle.tree_laws.proofs.Lists.{any_in, any_from}
use Rattle.tree_laws.proofs.Matches.{Matches-in, Matches-from, Matches-rising, Numbered-same}
use Rattle.tree_laws.proofs.Order.{chain_is}
use Rattle.tree_laws.proofs.Chains.{above_in, hits_above, chain_hits, chain_from, chain_once}
use Rattle.gcx_model.specs.Held.{is_node}

pub hits_by_steps : HitsBySteps
hits_by_steps P w n s rest m i = (
  (λ h.
      let r = any_in (λ (j : Node). reach n s j && hits (serial_of j) rest m) (above m) h in
      let a = and_parts (reach n s r.0) (hits (serial_of r.0) rest m) r.2 in
      (r.0, above_in P w m r.0 i r.1, a.0, a.1)),
  (λ h. any_from (λ (j : Node). reach n s j && hits (serial_of j) rest m) h.0 (above m) (hits_above P w h.0 rest m h.1 i h.3) (and_from _ _ h.2 h.3)),
)

pub matches_are_hits : MatchesAreHits
matches_are_hits P w n path = ((λ m. ((λ i. Matches-in P n path m i), (λ h. Matches-from P n path m h.0 h.1))), Matches-rising P w n path)

-- the first of nodes by rising serial has the smallest one
least_head : (ms : List Node) → Rising ms → (m : Node) → ((head ms ≡ Some m) → In m ms × ((j : Node) → In j ms → serial_of m ≤ serial_of j)) × (In m ms × ((j : Node) → In j ms → serial_of m ≤ serial_of j) → (head ms ≡ Some m))
least_head [] r m = ((λ e. cc), (λ h. absurd h.0))
least_head (a ∷ rest) r m = (
  (λ e. (inl (same_Some _ _ e), λ j i. let f = ap serial_of (same_Some _ _ e) in elim i [ inl g ↦ (let k = ap serial_of g in omega arith) | inr k ↦ (let l = r.0 j k in omega arith) ])),
  (λ h. elim h.0 [ inl e ↦ ap Some e | inr k ↦ (let l = r.0 m k in let q = h.1 a (inl refl) in absurd (omega arith)) ]),
)

none_head : (ms : List Node) → ((head ms ≡ None) → (m : Node) → In m ms → ⊥) × (((m : Node) → In m ms → ⊥) → (head ms ≡ None))
none_head [] = ((λ e m i. i), (λ h. refl))
none_head (a ∷ rest) = ((λ e. absurd (cc)), (λ h. absurd (h a (inl refl))))

pub first_is_least : FirstIsLeast
first_is_least P w n path = (least_head (matches P n path) (Matches-rising P w n path), none_head (matches P n path))

pub loops_bind_hits : LoopsBindHits
loops_bind_hits P w n path m i = (
  (λ j. let h = chain_hits P w n path m i j in Matches-from P (serial_of n) path m h.0 h.1),
  (λ j. let h = Matches-in P (serial_of n) path m j in chain_from P w n path m i h.0 h.1),
)

pub one_chain : OneChain
one_chain P w n path i o = chain_once P w n path i o

pub loops_in_order : LoopsInOrder
loops_in_order P w o n path i h = chain_is P w o n path i h

module _ (P : Tree) (w : Grown P) (m : ℕ) (rel tail : List Step) (n : Node) (i : In n P.nodes) where
  node_is : (at : Option Node) → ((a : Node) → at ≡ Some a → In a P.nodes) → is_node (serial_of n) at ≡ true → at ≡ Some n
  node_is None f h = absurd (false≢true h)
  node_is (Some a) f h = ap Some (Numbered-same 0 P.nodes w.numbered a n (f a refl) i (eqb-true _ _ h))

  head_in : (ms : List Node) (a : Node) → head ms ≡ Some a → In a ms
  head_in [] a e = absurd (cc)
  head_in (x ∷ ms) a e = inl (cc)

  first_in : (j : ℕ) (a : Node) → first P j tail ≡ Some a → In a P.nodes
  first_in j a e = (Matches-in P j tail a (head_in (matches P j tail) a e)).0

  abbrev first_test : Node → Bool
  first_test j = is_node (serial_of n) (first P (serial_of j) tail)

  by_first : any first_test (matches P m rel) ≡ true → (j : Node) × In j (matches P m rel) × (first P (serial_of j) tail ≡ Some n)
  by_first h = let r = any_in first_test (matches P m rel) h in (r.0, r.1, node_is (first P (serial_of (r.0)) tail) (first_in (serial_of r.0)) r.2)

  first_from : (j : Node) × In j (matches P m rel) × (first P (serial_of j) tail ≡ Some n) → any first_test (matches P m rel) ≡ true
  first_from h = any_from first_test h.0 (matches P m rel) h.1 (ap (is_node (serial_of n)) h.2 ∙ eq-eqb _ _ refl)

  by_whole : any (hits m (rel ++ tail)) (above n) ≡ true → (a : Node) × In a (above n) × In a (matches P m (rel ++ tail))
  by_whole h = let r = any_in (hits m (rel ++ tail)) (above n) h in (r.0, r.1, Matches-from P m (rel ++ tail) r.0 (above_in P w n r.0 i r.1) r.2)

  whole_from : (a : Node) × In a (above n) × In a (matches P m (rel ++ tail)) → any (hits m (rel ++ tail)) (above n) ≡ true
  whole_from h = any_from (hits m (rel ++ tail)) h.0 (above n) h.1 (Matches-in P m (rel ++ tail) h.0 h.2).1

pub gives_by_kind : GivesByKind
gives_by_kind P w m rel tail n i = (
  ((λ h. Matches-from P m rel n i h), (λ h. (Matches-in P m rel n h).1)),
  (by_first P w m rel tail n i, first_from P w m rel tail n i),
  (by_whole P w m rel tail n i, whole_from P w m rel tail n i),
)
