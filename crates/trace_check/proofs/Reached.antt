-- What a role reaches, from the numbers of a set's nodes.
use Rattle.std.proofs.Common.{◌≡◌, ℕ, Bool, true, false, ◌||◌, List, [], ◌∷◌, ◌++◌, map, Result, Ok, Err, IfOk, refl, ◌∙◌, ap, subst, inl, inr, eqb}
use Rattle.std.specs.List.{filter}
use Rattle.std.proofs.lemmas.Bool.{eqb-true, eq-eqb, or_cases}
use Rattle.gcx_base.specs.declared.steps.Step.{Step}
use Rattle.gcx_model.specs.Core.{First}
use Rattle.gcx_model.specs.Held.{is_node}
use Rattle.gcx_model.specs.Members.{In}
use Rattle.gcx_model.specs.Paths.{any, first}
use Rattle.gcx_model.specs.Tree.{Node, Root, Under, serial_of, above, within, Tree}
use Rattle.base_laws.proofs.Bools.{same_bools}
use Rattle.tree_laws.proofs.Freeze.{within_above, within_self}
use Rattle.tree_laws.proofs.Lists.{any_from, any_in, In-filter, In-kept}
use Rattle.tree_laws.proofs.Matches.{Grown, Numbered-same}
use Rattle.doc_tree.specs.Rows.{node_at}
use Rattle.trace_check.specs.Reaching.{covers, in_range, is_among, is_first_of, is_within_some, numbers_of, role_reaches}
use Rattle.trace_check.specs.declared.reach.Range.{Range}
use Rattle.trace_check.proofs.Numbers.{node_by}

pub any-append : {X : Type 0} (p : X → Bool) (xs ys : List X) → any p (xs ++ ys) ≡ (any p xs || any p ys)
any-append p [] ys = refl
any-append p (x ∷ xs) ys = ap (λ (b : Bool). p x || b) (any-append p xs ys) ∙ or_assoc (p x) (any p xs) (any p ys)
  where
    or_assoc : (a b c : Bool) → (a || (b || c)) ≡ ((a || b) || c)
    or_assoc true b c = refl
    or_assoc false b c = refl

or_none : (a : Bool) → (a || false) ≡ a
or_none true = refl
or_none false = refl

-- what follows of what was found
pub if_ok : {X E : Type 0} (r : Result X E) (P Q : X → Type 0) → IfOk r P → ((x : X) → P x → Q x) → IfOk r Q
if_ok (Ok x) P Q h f = f x h
if_ok (Err e) P Q h f = h

-- one range more
pub covers_push : (ranges : List Range) (r : Range) (k : ℕ) → covers (ranges ++ r ∷ []) k ≡ (covers ranges k || in_range k r)
covers_push ranges r k = any-append (in_range k) ranges (r ∷ []) ∙ ap (λ (b : Bool). covers ranges k || b) (or_none (in_range k r))

any_map : {X Y : Type 0} (p : Y → Bool) (f : X → Y) (xs : List X) → any p (map f xs) ≡ any (λ x. p (f x)) xs
any_map p f [] = refl
any_map p f (x ∷ xs) = ap (λ (b : Bool). p (f x) || b) (any_map p f xs)

any_same : {X : Type 0} (p q : X → Bool) (xs : List X) → ((x : X) → In x xs → p x ≡ q x) → any p xs ≡ any q xs
any_same p q [] h = refl
any_same p q (x ∷ xs) h = rw (h x (inl refl), any_same p q xs (λ y i. h y (inr i))) refl

module _ (C : Tree) (w : Grown C) where
  -- a set has the nodes whose numbers it has
  pub among_set : (f : Node → Bool) (n : Node) → In n C.nodes → is_among (numbers_of C f) (serial_of n) ≡ f n
  among_set f n i = any_map (λ (x : ℕ). eqb x (serial_of n)) serial_of (filter f C.nodes) ∙ same_bools (any (λ (m : Node). eqb (serial_of m) (serial_of n)) (filter f C.nodes)) (f n)
      (λ h.
      let r = any_in (λ (m : Node). eqb (serial_of m) (serial_of n)) (filter f C.nodes) h in
      let g = In-filter f r.0 C.nodes r.1 in
      subst (λ (z : Node). f z ≡ true) (Numbered-same 0 C.nodes w.numbered r.0 n g.0 i (eqb-true (serial_of r.0) (serial_of n) r.2)) g.1)
      (λ h. any_from (λ (m : Node). eqb (serial_of m) (serial_of n)) n (filter f C.nodes) (In-kept f n C.nodes i h) (eq-eqb (serial_of n) (serial_of n) refl))

  -- the first matches at the nodes of a set
  pub firsts_set : (f : Node → Bool) (tail : List Step) (n : Node) → is_first_of C (numbers_of C f) tail n ≡ role_reaches C f tail First n
  firsts_set f tail n =
      any_map (λ (i : ℕ). is_node (serial_of n) (first C (serial_of (node_at C.nodes i)) tail)) serial_of (filter f C.nodes)
      ∙ any_same (λ (m : Node). is_node (serial_of n) (first C (serial_of (node_at C.nodes (serial_of m))) tail)) (λ (m : Node). is_node (serial_of n) (first C (serial_of m) tail)) (filter f C.nodes)
      (λ m i. ap (λ (z : Node). is_node (serial_of n) (first C (serial_of z) tail)) (node_by C w m (In-filter f m C.nodes i).0))

  up_in : (x j : Node) → In j (above x) → In x C.nodes → In j C.nodes
  up_in Root j (inl e) k = subst (λ (z : Node). In z C.nodes) e k
  up_in Root j (inr q) k = absurd q
  up_in (Under p s kd) j (inl e) k = subst (λ (z : Node). In z C.nodes) e k
  up_in (Under p s kd) j (inr q) k = up_in p j q (w.upward p s kd k)

  -- what a node is in is the node or above it
  is_above : (m n : Node) → In m C.nodes → In n C.nodes → within (serial_of m) n ≡ true → In m (above n)
  is_above m Root i j h = inl (Numbered-same 0 C.nodes w.numbered Root m j i (eqb-true 0 (serial_of m) h))
  is_above m (Under p s k) i j h = elim (or_cases (eqb s (serial_of m)) (within (serial_of m) p) h) [
    | inl e ↦ inl (Numbered-same 0 C.nodes w.numbered (Under p s k) m j i (eqb-true s (serial_of m) e))
    | inr e ↦ inr (is_above m p i (w.upward p s k j) e)
  ]

  -- the subtrees of the nodes of a set
  pub within_set : (f : Node → Bool) (n : Node) → In n C.nodes → is_within_some (numbers_of C f) n ≡ any f (above n)
  within_set f n i = any_map (λ (x : ℕ). within x n) serial_of (filter f C.nodes) ∙ same_bools (any (λ (m : Node). within (serial_of m) n) (filter f C.nodes)) (any f (above n))
      (λ h.
      let r = any_in (λ (m : Node). within (serial_of m) n) (filter f C.nodes) h in
      let g = In-filter f r.0 C.nodes r.1 in
      any_from f r.0 (above n) (is_above r.0 n g.0 i r.2) g.1)
      (λ h.
      let r = any_in f (above n) h in
      any_from (λ (m : Node). within (serial_of m) n) r.0 (filter f C.nodes) (In-kept f r.0 C.nodes (up_in n r.0 r.1 i) r.2)
      (within_above (serial_of r.0) r.0 n r.1 (within_self (serial_of r.0) r.0 (eq-eqb (serial_of r.0) (serial_of r.0) refl))))
