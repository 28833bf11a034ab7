-- Paths in parts, and by their last step.
use Rattle.std.proofs.Common.{◌≡◌, ℕ, true, ◌&&◌, List, [], ◌∷◌, ◌++◌, refl, sym, subst, inl, inr, eqb}
use Rattle.std.proofs.lemmas.Bool.{or_cases, and_parts, and_from, eqb-true, eq-eqb}
use Rattle.gcx_base.specs.declared.kind.Kind.{Kind}
use Rattle.gcx_base.specs.declared.steps.Step.{Step}
use Rattle.gcx_base.specs.declared.steps.Axis.{Axis}
use Rattle.gcx_base.specs.declared.steps.Axis.TheVariants.{Child, Descendant}
use Rattle.gcx_model.specs.Tree.{Node, Root, Under, serial_of, above, within, Tree}
use Rattle.gcx_base.specs.Tests.{passes}
use Rattle.gcx_model.specs.Paths.{any, reach, lies, hits}
use Rattle.gcx_model.specs.Nodes.{Grown}
use Rattle.tree_laws.proofs.Lists.{In, any_in, any_from}
use Rattle.tree_laws.proofs.Matches.{Numbered-same}
use Rattle.tree_laws.proofs.Freeze.{within_self, within_above, hits_within}
use Rattle.tree_laws.proofs.Chains.{above_in, hits_above, hits_one, hits_one_from}
use Rattle.placed_laws.proofs.Frames.{hits-append}

pub within_in : (n : ℕ) (m : Node) → within n m ≡ true → (j : Node) × In j (above m) × (serial_of j ≡ n)
within_in n Root h = (Root, inl refl, eqb-true _ _ h)
within_in n (Under p s k) h = elim (or_cases (eqb s n) (within n p) h) [
  | inl e ↦ (Under p s k, inl refl, eqb-true _ _ e)
  | inr e ↦ let r = within_in n p e in (r.0, inr r.1, r.2)
]

pub in_within : (j m : Node) → In j (above m) → within (serial_of j) m ≡ true
in_within j m i = within_above (serial_of j) j m i (within_self (serial_of j) j (eq-eqb _ _ refl))

-- by the last of its steps a path leads to a child of p: from p, or from a node above it
abbrev pub Led : Axis → ℕ → List Step → Node → Type 0
Led Child b path p = hits b path p ≡ true
Led Descendant b path p = any (hits b path) (above p) ≡ true

module _ (P : Tree) (w : Grown P) where
  -- a path in two parts leads over a node between them
  pub split : (n : ℕ) (p q : List Step) (m : Node) → In m P.nodes → hits n (p ++ q) m ≡ true → (j : Node) × In j (above m) × (hits n p j ≡ true) × (hits (serial_of j) q m ≡ true)
  split n [] q m i h =
      let r = within_in n m (hits_within n q m h) in
      (r.0, r.1, eq-eqb (serial_of r.0) n r.2, subst (λ (z : ℕ). hits z q m ≡ true) (sym r.2) h)
  split n (s ∷ p) q m i h =
      let r = any_in (λ (a : Node). reach n s a && hits (serial_of a) (p ++ q) m) (above m) h in
      let a = and_parts (reach n s r.0) (hits (serial_of r.0) (p ++ q) m) r.2 in
      let t = split (serial_of r.0) p q m i a.1 in (
        t.0,
        t.1,
        any_from (λ (a : Node). reach n s a && hits (serial_of a) p t.0) r.0 (above t.0)
            (hits_above P w r.0 p t.0 (above_in P w m r.0 i r.1) (above_in P w m t.0 i t.1) t.2) (and_from _ _ a.0 t.2),
        t.3,
      )

  lies_from : (a : Axis) (b : ℕ) (path : List Step) (j p : Node) (s : ℕ) (k : Kind) → In (Under p s k) P.nodes → In j P.nodes → hits b path j ≡ true → lies a (serial_of j) (Under p s k) ≡ true → Led a b path p
  lies_from Child b path j p s k i g h l = subst (λ (z : Node). hits b path z ≡ true) (Numbered-same 0 P.nodes w.numbered j p g (w.upward p s k i) (sym (eqb-true _ _ l))) h
  lies_from Descendant b path j p s k i g h l =
      let r = within_in (serial_of j) p l in
      let e : r.0 ≡ j = Numbered-same 0 P.nodes w.numbered r.0 j (above_in P w p r.0 (w.upward p s k i) r.1) g r.2 in
      any_from (hits b path) j (above p) (subst (λ (z : Node). In z (above p)) e r.1) h

  -- A path leads to a node where the node passes the last step's test, and the steps before lead to its parent, or to one of the nodes above it.
  pub last_to : (b : ℕ) (path : List Step) (t : Step) (p : Node) (s : ℕ) (k : Kind) → In (Under p s k) P.nodes → hits b (path ++ t ∷ []) (Under p s k) ≡ true → (passes t.test k ≡ true) × Led t.axis b path p
  last_to b path t p s k i h =
      let r = split b path (t ∷ []) (Under p s k) i h in
      let j = above_in P w (Under p s k) r.0 i r.1 in
      let a = and_parts (passes t.test k) (lies t.axis (serial_of r.0) (Under p s k)) (hits_one P w (serial_of r.0) t (Under p s k) i r.3) in
      (a.0, lies_from t.axis b path r.0 p s k i j r.2 a.1)

  led_from : (a : Axis) (b : ℕ) (path : List Step) (p : Node) (s : ℕ) (k : Kind) → In (Under p s k) P.nodes → Led a b path p → (j : Node) × In j P.nodes × (hits b path j ≡ true) × (lies a (serial_of j) (Under p s k) ≡ true)
  led_from Child b path p s k i h = (p, w.upward p s k i, h, eq-eqb (serial_of p) (serial_of p) refl)
  led_from Descendant b path p s k i h =
      let r = any_in (hits b path) (above p) h in
      (r.0, above_in P w p r.0 (w.upward p s k i) r.1, r.2, in_within r.0 p r.1)

  pub last_from : (b : ℕ) (path : List Step) (t : Step) (p : Node) (s : ℕ) (k : Kind) → In (Under p s k) P.nodes → passes t.test k ≡ true → Led t.axis b path p → hits b (path ++ t ∷ []) (Under p s k) ≡ true
  last_from b path t p s k i h l =
      let r = led_from t.axis b path p s k i l in
      hits-append P w b path (t ∷ []) r.0 (Under p s k) r.1 i r.2
      (hits_one_from P w (serial_of r.0) t (Under p s k) (and_from (passes t.test k) (lies t.axis (serial_of r.0) (Under p s k)) h r.3))
