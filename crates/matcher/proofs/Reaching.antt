-- What a role reaches: over a node of its variable, on by its tail.
use Rattle.std.proofs.Common.{◌≡◌, ℕ, true, List, [], ◌∷◌, ◌++◌, refl, sym, ◌∙◌, ap, subst, Some}
use Rattle.std.proofs.lemmas.Bool.{eqb-true, eq-eqb}
use Rattle.gcx_base.specs.declared.steps.Step.{Step}
use Rattle.gcx_model.specs.Tree.{Node, serial_of, above, Tree}
use Rattle.gcx_model.specs.Paths.{hits, first, matches}
use Rattle.gcx_model.specs.Nodes.{Grown}
use Rattle.gcx_model.specs.Core.{RoleTarget, Own, First, Whole}
use Rattle.gcx_model.specs.Held.{is_node, gives}
use Rattle.base_laws.proofs.Members.{head_in}
use Rattle.tree_laws.proofs.Lists.{In, any_in, any_from}
use Rattle.tree_laws.proofs.Matches.{Numbered-same, Matches-in, Matches-from}
use Rattle.tree_laws.proofs.Chains.{above_in, above_trans, above_self, hits_above}
use Rattle.placed_laws.proofs.Frames.{hits-append}
use Rattle.past_laws.proofs.Bases.{node_is}
use Rattle.path_states.specs.PathTree.{kind_with}
use Rattle.matcher.proofs.Leading.{split}
use Rattle.matcher.proofs.GivenRoles.{self_first}

-- from the node v of its variable the role of this kind is given to n
abbrev pub Ends : RoleTarget → Tree → List Step → (n v : Node) → Type 0
Ends Own P tail n v = v ≡ n
Ends First P tail n v = first P (serial_of v) tail ≡ Some n
Ends Whole P tail n v = (j : Node) × In j (above n) × (hits (serial_of v) tail j ≡ true)

module _ (P : Tree) (w : Grown P) (n : Node) (i : In n P.nodes) where
  first_is : (j : Node) (tail : List Step) → is_node (serial_of n) (first P (serial_of j) tail) ≡ true → (first P (serial_of j) tail ≡ Some n) × (hits (serial_of j) tail n ≡ true)
  first_is j tail h =
      let x = node_is (serial_of n) (first P (serial_of j) tail) h in
      let y = Matches-in P (serial_of j) tail x.0 (head_in (matches P (serial_of j) tail) x.0 x.1) in
      let same : x.0 ≡ n = Numbered-same 0 P.nodes w.numbered x.0 n y.0 i x.2 in
      (x.1 ∙ ap (λ (z : Node). Some z) same, subst (λ (z : Node). hits (serial_of j) tail z ≡ true) same y.1)

  pub gives_to : (m : ℕ) (path tail : List Step) (k : RoleTarget) → gives P m path tail k n ≡ true → (v : Node) × In v (above n) × (hits m path v ≡ true) × Ends (kind_with k tail) P tail n v
  gives_to m path tail Own g = (n, above_self n, g, refl)
  gives_to m path [] First g =
      let r = any_in (λ (j : Node). is_node (serial_of n) (first P (serial_of j) [])) (matches P m path) g in
      let q = Matches-in P m path r.0 r.1 in
      let f = first_is r.0 [] r.2 in
      let same : n ≡ r.0 = Numbered-same 0 P.nodes w.numbered n r.0 i q.0 (eqb-true _ _ f.1) in
      (n, above_self n, subst (λ (z : Node). hits m path z ≡ true) (sym same) q.1, refl)
  gives_to m path (s ∷ tail) First g =
      let r = any_in (λ (j : Node). is_node (serial_of n) (first P (serial_of j) (s ∷ tail))) (matches P m path) g in
      let q = Matches-in P m path r.0 r.1 in
      let f = first_is r.0 (s ∷ tail) r.2 in
      (r.0, hits_above P w r.0 (s ∷ tail) n q.0 i f.1, q.1, f.0)
  gives_to m path tail Whole g =
      let r = any_in (hits m (path ++ tail)) (above n) g in
      let v = split P w m path tail r.0 (above_in P w n r.0 i r.1) r.2 in
      (v.0, above_trans v.0 r.0 n v.1 r.1, v.2, (r.0, r.1, v.3))

  pub gives_from : (m : ℕ) (path tail : List Step) (k : RoleTarget) (v : Node) → In v (above n) → hits m path v ≡ true → Ends (kind_with k tail) P tail n v → gives P m path tail k n ≡ true
  gives_from m path tail Own v o h e = subst (λ (z : Node). hits m path z ≡ true) e h
  gives_from m path [] First v o h e =
      any_from (λ (j : Node). is_node (serial_of n) (first P (serial_of j) [])) n (matches P m path) (Matches-from P m path n i (subst (λ (z : Node). hits m path z ≡ true) e h)) (self_first P.nodes n i)
  gives_from m path (s ∷ tail) First v o h e =
      any_from (λ (j : Node). is_node (serial_of n) (first P (serial_of j) (s ∷ tail))) v (matches P m path) (Matches-from P m path v (above_in P w n v i o) h)
      (ap (is_node (serial_of n)) e ∙ eq-eqb (serial_of n) (serial_of n) refl)
  gives_from m path tail Whole v o h e =
      any_from (hits m (path ++ tail)) e.0 (above n) e.1 (hits-append P w m path tail v e.0 (above_in P w n v i o) (above_in P w n e.0 i e.1) h e.2)
