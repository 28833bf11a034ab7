-- Nested loops whose last step alone may be a descendant step go in document order.
use Rattle.std.proofs.Common.{◌≡◌, ◌<◌, ◌≤◌, true, List, [], ◌∷◌, ◌++◌, length, refl, sym, ◌∙◌, ap, subst, inl, inr, ◌⊎◌, arith, Some, None, Option}
use Rattle.std.specs.List.{flat_map}
use Rattle.std.proofs.lemmas.Bool.{and_parts}
use Rattle.std.proofs.lemmas.Option.{same_Some}
pub use Rattle.gcx_model.specs.Nodes.{Ordered}
use Rattle.gcx_base.specs.declared.kind.Kind.{Kind}
use Rattle.gcx_base.specs.declared.kind.Kind.TheVariants.{Element, Text}
pub use Rattle.gcx_model.specs.Sound.{only_last}
use Rattle.gcx_model.specs.Tree.{Node, Root, Under, serial_of, above, Tree, TreeToken, Start, Chars, End, grow, grow_at}
use Rattle.gcx_base.specs.declared.steps.Step.{Step}
use Rattle.gcx_model.specs.Paths.{hits, matches}
use Rattle.tree_laws.proofs.Lists.{In, In-append}
use Rattle.tree_laws.proofs.Matches.{Grown, Numbered-high, Rising, Rising-filter, Matches-in, Matches-from}
use Rattle.tree_laws.proofs.Chains.{chain_at, In-flat_map, chain_hits, chain_from, hits_above, above_self, above_same, is_child, reach_depth, hits_one}

Ordered-new : (P : Tree) → Grown P → Ordered P → (p : Node) (k : Kind) (at : Option Node) → P.at ≡ Some p → ((q a : Node) → at ≡ Some q → In a (above q) → In a (above (Under p (length P.nodes) k))) → Ordered (record { nodes = P.nodes ++ Under p (length P.nodes) k ∷ []; at = at })
Ordered-new P w o p k at e up = record {
  behind = λ q a b f i j l. behind q a b (up q a f i) (In-append b P.nodes (Under p (length P.nodes) k ∷ []) j) l;
  split = λ a b m i j h l n q. split a b m (In-append a P.nodes (Under p (length P.nodes) k ∷ []) i) (In-append b P.nodes (Under p (length P.nodes) k ∷ []) j) (In-append m P.nodes (Under p (length P.nodes) k ∷ []) h) l n q;
}
  where
    low : (x : Node) → In x P.nodes → serial_of x < length P.nodes
    low x i = let r = Numbered-high 0 P.nodes w.numbered x i in omega arith

    behind : (q a b : Node) → In a (above (Under p (length P.nodes) k)) → In b P.nodes ⊎ In b (Under p (length P.nodes) k ∷ []) → serial_of a < serial_of b → In a (above b)
    behind q a b (inl f) (inl j) l = let r = low b j in let g = ap serial_of f in absurd (omega arith)
    behind q a b (inr i) (inl j) l = o.behind p a b e i j l
    behind q a b i (inr (inl f)) l = subst (λ (x : Node). In a (above x)) f i
    behind q a b i (inr (inr j)) l = absurd j

    split : (a b m : Node) → In a P.nodes ⊎ In a (Under p (length P.nodes) k ∷ []) → In b P.nodes ⊎ In b (Under p (length P.nodes) k ∷ []) → In m P.nodes ⊎ In m (Under p (length P.nodes) k ∷ []) → serial_of a < serial_of b → (In a (above b) → ⊥) → In a (above m) → serial_of m < serial_of b
    split a b m (inl i) (inl j) (inl h) l n q = o.split a b m i j h l n q
    split a b m (inr (inl f)) (inl j) h l n q = let r = low b j in let g = ap serial_of f in absurd (omega arith)
    split a b m (inr (inr f)) j h l n q = absurd f
    split a b m i (inr (inl f)) (inl h) l n q = let r = low m h in let g = ap serial_of f in omega arith
    split a b m i (inr (inl f)) (inr (inl g)) l n q = absurd (n (subst (λ (x : Node). In a (above x)) (sym g ∙ f) q))
    split a b m i (inr (inr f)) h l n q = absurd f
    split a b m i j (inr (inr h)) l n q = absurd h
    split a b m (inl i) (inl j) (inr (inl g)) l n q = absurd (n (last (subst (λ (x : Node). In a (above x)) (sym g) q)))
      where
        last : In a (above (Under p (length P.nodes) k)) → In a (above b)
        last (inl f) = let r = low a i in let h = ap serial_of f in absurd (omega arith)
        last (inr h) = o.behind p a b e h j l

Ordered-grow_at : (at : Option Node) (t : TreeToken) (P : Tree) → P.at ≡ at → Grown P → Ordered P → Ordered (grow_at at t P)
Ordered-grow_at None t P e w o = o
Ordered-grow_at (Some p) (Start name) P e w o = Ordered-new P w o p (Element name) _ e (λ q a f i. subst (λ (x : Node). In a (above x)) (sym (same_Some _ _ f)) i)
Ordered-grow_at (Some p) (Chars b) P e w o = Ordered-new P w o p (Text b) _ e (λ q a f i. inr (subst (λ (x : Node). In a (above x)) (sym (same_Some _ _ f)) i))
Ordered-grow_at (Some Root) End P e w o = record { behind = λ p a b f. cc; split = o.split }
Ordered-grow_at (Some (Under p s k)) End P e w o = record { behind = λ q a b f i. o.behind (Under p s k) a b e (inr (subst (λ (x : Node). In a (above x)) (sym (same_Some _ _ f)) i)); split = o.split }

pub Ordered-grow : (t : TreeToken) (P : Tree) → Grown P → Ordered P → Ordered (grow t P)
Ordered-grow t P w o = Ordered-grow_at P.at t P refl w o

-- a rising list is known by its members
Rising-same : (xs ys : List Node) → Rising xs → Rising ys → ((x : Node) → In x xs → In x ys) → ((x : Node) → In x ys → In x xs) → xs ≡ ys
Rising-same [] [] r s f g = refl
Rising-same [] (y ∷ ys) r s f g = absurd (g y (inl refl))
Rising-same (x ∷ xs) [] r s f g = absurd (f x (inl refl))
Rising-same (x ∷ xs) (y ∷ ys) r s f g = rw (same, Rising-same xs ys r.1 s.1 tail_in tail_out) refl
  where
    least : In x (y ∷ ys) → In y (x ∷ xs) → x ≡ y
    least (inl e) j = sym e
    least (inr i) (inl e) = e
    least (inr i) (inr j) = let a = s.0 x i in let b = r.0 y j in absurd (omega arith)

    same : x ≡ y
    same = least (f x (inl refl)) (g y (inl refl))

    tail_in : (z : Node) → In z xs → In z ys
    tail_in z i = elim (f z (inr i)) [ inl e ↦ (let a = r.0 z i in let b = ap serial_of e in let c = ap serial_of same in absurd (omega arith)) | inr j ↦ j ]

    tail_out : (z : Node) → In z ys → In z xs
    tail_out z i = elim (g z (inr i)) [ inl e ↦ (let a = s.0 z i in let b = ap serial_of e in let c = ap serial_of same in absurd (omega arith)) | inr j ↦ j ]

pub Rising-append : (xs ys : List Node) → Rising xs → Rising ys → ((x y : Node) → In x xs → In y ys → serial_of x < serial_of y) → Rising (xs ++ ys)
Rising-append [] ys r s h = s
Rising-append (x ∷ xs) ys r s h = (λ y i. elim (In-append y xs ys i) [ inl j ↦ r.0 y j | inr j ↦ h x y (inl refl) j ], Rising-append xs ys r.1 s (λ a b i j. h a b (inr i) j))

Rising-flat_map : (f : Node → List Node) (xs : List Node) → Rising xs → ((x : Node) → In x xs → Rising (f x)) → ((x y a b : Node) → In x xs → In y xs → serial_of x < serial_of y → In a (f x) → In b (f y) → serial_of a < serial_of b) → Rising (flat_map f xs)
Rising-flat_map f [] r o h = tt
Rising-flat_map f (x ∷ xs) r o h = Rising-append (f x) (flat_map f xs) (o x (inl refl)) (Rising-flat_map f xs r.1 (λ y i. o y (inr i)) (λ a b c d i j. h a b c d (inr i) (inr j)))
    (λ a b i j. let q = In-flat_map f b xs j in h x q.0 a b (inl refl) (inr q.1) (r.0 q.0 q.1) i q.2)

module _ (P : Tree) (w : Grown P) (o : Ordered P) where
  single : (xs : List Node) → flat_map (λ j. j ∷ []) xs ≡ xs
  single [] = refl
  single (x ∷ xs) = ap (λ z. x ∷ z) (single xs)

  chain_rising : (n : Node) (path : List Step) → In n P.nodes → only_last path ≡ true → Rising (chain_at P n path)
  chain_rising n [] i c = ((λ y j. absurd j), tt)
  chain_rising n (s ∷ []) i c = rw (single (matches P (serial_of n) (s ∷ []))) (Rising-filter 0 (hits (serial_of n) (s ∷ [])) P.nodes w.numbered)
  chain_rising n (s ∷ (u ∷ rest)) i c =
      let q = and_parts (is_child s.axis) (only_last (u ∷ rest)) c in
      let ms : List Node = matches P (serial_of n) (s ∷ []) in
      Rising-flat_map (λ (j : Node). chain_at P j (u ∷ rest)) ms (Rising-filter 0 (hits (serial_of n) (s ∷ [])) P.nodes w.numbered)
      (λ x j. chain_rising x (u ∷ rest) (Matches-in P (serial_of n) (s ∷ []) x j).0 q.1)
      (λ x y a b ix iy l ia ib.
      let mx = Matches-in P (serial_of n) (s ∷ []) x ix in
      let my = Matches-in P (serial_of n) (s ∷ []) y iy in
      let ha = chain_hits P w x (u ∷ rest) a mx.0 ia in
      let hb = chain_hits P w y (u ∷ rest) b my.0 ib in
      let dx = reach_depth P w n x s i mx.0 q.0 (hits_one P w (serial_of n) s x mx.0 mx.1) in
      let dy = reach_depth P w n y s i my.0 q.0 (hits_one P w (serial_of n) s y my.0 my.1) in
      let ax = hits_above P w x (u ∷ rest) a mx.0 ha.0 ha.1 in
      let ay = hits_above P w y (u ∷ rest) b my.0 hb.0 hb.1 in
      let before : serial_of a < serial_of y = o.split x y a mx.0 my.0 ha.0 l (λ k. let e = ap serial_of (above_same y x y k (above_self y) (omega arith)) in absurd (omega arith)) ax in
      let after : serial_of y ≤ serial_of b = above_low b y hb.0 ay in
      omega arith)
    where
      above_low : (b y : Node) → In b P.nodes → In y (above b) → serial_of y ≤ serial_of b
      above_low Root y i (inl e) = let f = ap serial_of e in omega arith
      above_low Root y i (inr h) = absurd h
      above_low (Under p s k) y i (inl e) = let f = ap serial_of e in omega arith
      above_low (Under p s k) y i (inr h) = let f = above_low p y (w.upward p s k i) h in let g = w.below p s k i in omega arith

  -- nested loops over the steps bind the path's matches, in document order
  pub chain_is : (n : Node) (path : List Step) → In n P.nodes → only_last path ≡ true → chain_at P n path ≡ matches P (serial_of n) path
  chain_is n path i c = Rising-same _ _ (chain_rising n path i c) (Rising-filter 0 (hits (serial_of n) path) P.nodes w.numbered)
      (λ x j. let h = chain_hits P w n path x i j in Matches-from P (serial_of n) path x h.0 h.1)
      (λ x j. let h = Matches-in P (serial_of n) path x j in chain_from P w n path x i h.0 h.1)
