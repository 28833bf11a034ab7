-- Nested loops over the steps of a path: which nodes they reach, and how often.
use Rattle.std.proofs.Common.{◌≡◌, ℕ, suc, ◌+◌, ◌≤◌, Bool, true, false, cond, ◌&&◌, List, [], ◌∷◌, ◌++◌, length, refl, sym, ◌∙◌, ap, subst, inl, inr, arith, eqb}
use Rattle.std.specs.List.{flat_map}
use Rattle.std.proofs.lemmas.Bool.{or_cases, and_parts, and_from, false≢true, eqb-true, eq-eqb}
pub use Rattle.gcx_model.specs.Nodes.{chain, chain_at}
pub use Rattle.gcx_model.specs.Members.{Once}
pub use Rattle.gcx_model.specs.Variables.{is_child, all_child, one_desc}
use Rattle.gcx_model.specs.Tree.{Node, Root, Under, serial_of, kind_of, above, within, Tree}
use Rattle.gcx_base.specs.declared.steps.Step.{Step}
use Rattle.gcx_base.specs.declared.steps.Axis.{Axis}
use Rattle.gcx_base.specs.declared.steps.Axis.TheVariants.{Child, Descendant}
use Rattle.gcx_base.specs.Tests.{passes}
use Rattle.gcx_model.specs.Paths.{reach, lies, hits, matches}
use Rattle.tree_laws.proofs.Lists.{In, In-left, In-right, In-append, any_in, any_from}
use Rattle.tree_laws.proofs.Freeze.{hits_within}
use Rattle.tree_laws.proofs.Matches.{Grown, Numbered-same, Rising, Rising-filter, Matches-in, Matches-from}

pub In-flat_map : {X Y : Type 0} (f : X → List Y) (y : Y) (xs : List X) → In y (flat_map f xs) → (x : X) × In x xs × In y (f x)
In-flat_map f y [] h = absurd h
In-flat_map f y (x ∷ xs) h = elim (In-append y (f x) (flat_map f xs) h) [
  | inl i ↦ (x, inl refl, i)
  | inr i ↦ (let r = In-flat_map f y xs i in (r.0, inr r.1, r.2))
]

pub In-flat_map_from : {X Y : Type 0} (f : X → List Y) (y : Y) (x : X) (xs : List X) → In x xs → In y (f x) → In y (flat_map f xs)
In-flat_map_from f y x [] h i = absurd h
In-flat_map_from {X} {Y} f y x (z ∷ zs) (inl e) i = In-left y (f z) (flat_map f zs) (subst (λ (w : X). In y (f w)) (sym e) i)
In-flat_map_from f y x (z ∷ zs) (inr h) i = In-right y (f z) (flat_map f zs) (In-flat_map_from f y x zs h i)

pub above_self : (m : Node) → In m (above m)
above_self Root = inl refl
above_self (Under p s k) = inl refl

pub above_in : (P : Tree) → Grown P → (m j : Node) → In m P.nodes → In j (above m) → In j P.nodes
above_in P w Root j i (inl e) = subst (λ (x : Node). In x P.nodes) e i
above_in P w Root j i (inr h) = absurd h
above_in P w (Under p s k) j i (inl e) = subst (λ (x : Node). In x P.nodes) e i
above_in P w (Under p s k) j i (inr h) = above_in P w p j (w.upward p s k i) h

pub above_trans : (a b c : Node) → In a (above b) → In b (above c) → In a (above c)
above_trans a b Root h (inl e) = subst (λ (x : Node). In a (above x)) (sym e) h
above_trans a b Root h (inr i) = absurd i
above_trans a b (Under p s k) h (inl e) = subst (λ (x : Node). In a (above x)) (sym e) h
above_trans a b (Under p s k) h (inr i) = inr (above_trans a b p h i)

abbrev pub depth : Node → ℕ
depth Root = 0
depth (Under p s k) = suc (depth p)

pub depth_above : (m j : Node) → In j (above m) → depth j ≤ depth m
depth_above Root j (inl e) = let f = ap depth e in omega arith
depth_above Root j (inr h) = absurd h
depth_above (Under p s k) j (inl e) = let f = ap depth e in omega arith
depth_above (Under p s k) j (inr h) = let f = depth_above p j h in omega arith

-- one ancestor at each depth
pub above_same : (m a b : Node) → In a (above m) → In b (above m) → depth a ≡ depth b → a ≡ b
above_same Root a b (inl e) (inl f) d = sym e ∙ f
above_same Root a b (inl e) (inr i) d = absurd i
above_same Root a b (inr h) i d = absurd h
above_same (Under p s k) a b (inl e) (inl f) d = sym e ∙ f
above_same (Under p s k) a b (inl e) (inr i) d = let f = depth_above p b i in let g = ap depth e in absurd (omega arith)
above_same (Under p s k) a b (inr h) (inl f) d = let g = depth_above p a h in let e = ap depth f in absurd (omega arith)
above_same (Under p s k) a b (inr h) (inr i) d = above_same p a b h i d

module _ (P : Tree) (w : Grown P) where
  -- one step, with the node itself at its end
  pub hits_one : (n : ℕ) (s : Step) (j : Node) → In j P.nodes → hits n (s ∷ []) j ≡ true → reach n s j ≡ true
  hits_one n s j i h =
      let r = any_in (λ (k : Node). reach n s k && hits (serial_of k) [] j) (above j) h in
      let a = and_parts (reach n s r.0) (eqb (serial_of j) (serial_of r.0)) r.2 in
      let e : j ≡ r.0 = Numbered-same 0 P.nodes w.numbered j r.0 i (above_in P w j r.0 i r.1) (eqb-true _ _ a.1) in
      subst (λ (x : Node). reach n s x ≡ true) (sym e) a.0

  pub hits_one_from : (n : ℕ) (s : Step) (j : Node) → reach n s j ≡ true → hits n (s ∷ []) j ≡ true
  hits_one_from n s j h = any_from (λ (k : Node). reach n s k && hits (serial_of k) [] j) j (above j) (above_self j) (and_from _ _ h (eq-eqb _ _ refl))

  pub hits_above : (n : Node) (path : List Step) (m : Node) → In n P.nodes → In m P.nodes → hits (serial_of n) path m ≡ true → In n (above m)
  hits_above n path m i j h = within_is n m i j (hits_within' (serial_of n) path m h)
    where
      hits_within' : (n : ℕ) (path : List Step) (m : Node) → hits n path m ≡ true → within n m ≡ true
      hits_within' = hits_within

      within_is : (n m : Node) → In n P.nodes → In m P.nodes → within (serial_of n) m ≡ true → In n (above m)
      within_is n Root i j h = inl (Numbered-same 0 P.nodes w.numbered Root n j i (eqb-true _ _ h))
      within_is n (Under p s k) i j h = elim (or_cases (eqb s (serial_of n)) (within (serial_of n) p) h) [
        | inl e ↦ inl (Numbered-same 0 P.nodes w.numbered (Under p s k) n j i (eqb-true _ _ e))
        | inr e ↦ inr (within_is n p i (w.upward p s k j) e)
      ]

  -- the innermost nodes are those that the path reaches
  pub chain_hits : (n : Node) (path : List Step) (m : Node) → In n P.nodes → In m (chain_at P n path) → In m P.nodes × (hits (serial_of n) path m ≡ true)
  chain_hits n [] m i (inl e) = (subst (λ (x : Node). In x P.nodes) e i, eq-eqb _ _ (ap serial_of (sym e)))
  chain_hits n [] m i (inr h) = absurd h
  chain_hits n (s ∷ rest) m i h =
      let r = In-flat_map (λ (j : Node). chain_at P j rest) m (matches P (serial_of n) (s ∷ [])) h in
      let q = Matches-in P (serial_of n) (s ∷ []) r.0 r.1 in
      let c = chain_hits r.0 rest m q.0 r.2 in (
        c.0,
        any_from (λ (j : Node). reach (serial_of n) s j && hits (serial_of j) rest m) r.0 (above m)
            (hits_above r.0 rest m q.0 c.0 c.1)
            (and_from _ _ (hits_one (serial_of n) s r.0 q.0 q.1) c.1),
      )

  pub chain_from : (n : Node) (path : List Step) (m : Node) → In n P.nodes → In m P.nodes → hits (serial_of n) path m ≡ true → In m (chain_at P n path)
  chain_from n [] m i j h = inl (Numbered-same 0 P.nodes w.numbered n m i j (sym (eqb-true _ _ h)))
  chain_from n (s ∷ rest) m i j h =
      let r = any_in (λ (j : Node). reach (serial_of n) s j && hits (serial_of j) rest m) (above m) h in
      let a = and_parts (reach (serial_of n) s r.0) (hits (serial_of r.0) rest m) r.2 in
      let k = above_in P w m r.0 j r.1 in
      In-flat_map_from (λ (j : Node). chain_at P j rest) m r.0 (matches P (serial_of n) (s ∷ []))
      (Matches-from P (serial_of n) (s ∷ []) r.0 k (hits_one_from (serial_of n) s r.0 a.0))
      (chain_from r.0 rest m k j a.1)

pub Once-append : {X : Type 0} (xs ys : List X) → Once xs → Once ys → ((x : X) → In x xs → In x ys → ⊥) → Once (xs ++ ys)
Once-append [] ys h j d = j
Once-append (x ∷ xs) ys h j d = (λ i. elim (In-append x xs ys i) [ inl a ↦ h.0 a | inr b ↦ d x (inl refl) b ], Once-append xs ys h.1 j (λ z a b. d z (inr a) b))

pub Once-flat_map : {X Y : Type 0} (f : X → List Y) (xs : List X) → Once xs → ((x : X) → In x xs → Once (f x)) → ((a b : X) (y : Y) → In a xs → In b xs → In y (f a) → In y (f b) → a ≡ b) → Once (flat_map f xs)
Once-flat_map f [] h o d = tt
Once-flat_map {X} {Y} f (x ∷ xs) h o d =
    Once-append (f x) (flat_map f xs) (o x (inl refl)) (Once-flat_map f xs h.1 (λ z i. o z (inr i)) (λ a b y i j. d a b y (inr i) (inr j)))
    (λ y i j. let r = In-flat_map f y xs j in h.0 (subst (λ (z : X). In z xs) (sym (d x r.0 y (inl refl) (inr r.1) i r.2)) r.1))

pub Once-rising : (xs : List Node) → Rising xs → Once xs
Once-rising [] h = tt
Once-rising (x ∷ xs) h = (λ i. let r = h.0 x i in absurd (omega arith), Once-rising xs h.1)

module _ (P : Tree) (w : Grown P) where
  child_depth : (n j : Node) → In n P.nodes → In j P.nodes → (a : Axis) → is_child a ≡ true → lies a (serial_of n) j ≡ true → depth j ≡ suc (depth n)
  child_depth n j i k Descendant e h = absurd (false≢true e)
  child_depth n Root i k Child e h = absurd (false≢true h)
  child_depth n (Under p s kd) i k Child e h = let f : p ≡ n = Numbered-same 0 P.nodes w.numbered p n (w.upward p s kd k) i (eqb-true _ _ h) in ap (λ (x : Node). suc (depth x)) f

  pub reach_depth : (n j : Node) (s : Step) → In n P.nodes → In j P.nodes → is_child s.axis ≡ true → reach (serial_of n) s j ≡ true → depth j ≡ suc (depth n)
  reach_depth n j s i k e h = child_depth n j i k s.axis e (and_parts (passes s.test (kind_of j)) (lies s.axis (serial_of n) j) h).1

  pub all_child_depth : (n : Node) (path : List Step) (m : Node) → In n P.nodes → In m P.nodes → all_child path ≡ true → hits (serial_of n) path m ≡ true → depth m ≡ depth n + length path
  all_child_depth n [] m i j c h = let e = ap depth (Numbered-same 0 P.nodes w.numbered m n j i (eqb-true _ _ h)) in omega arith
  all_child_depth n (s ∷ rest) m i j c h =
      let c' = and_parts (is_child s.axis) (all_child rest) c in
      let r = any_in (λ (j : Node). reach (serial_of n) s j && hits (serial_of j) rest m) (above m) h in
      let a = and_parts (reach (serial_of n) s r.0) (hits (serial_of r.0) rest m) r.2 in
      let k = above_in P w m r.0 j r.1 in
      let d = reach_depth n r.0 s i k c'.0 a.0 in
      let e = all_child_depth r.0 rest m k j c'.1 a.1 in
      omega arith

  -- two matches of the first step by which the rest leads to one node are one
  pub one_way : (n : Node) (s : Step) (rest : List Step) → In n P.nodes → one_desc (s ∷ rest) ≡ true → (a b m : Node) → In a (matches P (serial_of n) (s ∷ [])) → In b (matches P (serial_of n) (s ∷ [])) → In m (chain_at P a rest) → In m (chain_at P b rest) → a ≡ b
  one_way n s rest i o a b m ia ib ma mb =
      let qa = Matches-in P (serial_of n) (s ∷ []) a ia in
      let qb = Matches-in P (serial_of n) (s ∷ []) b ib in
      let ca = chain_hits P w a rest m qa.0 ma in
      let cb = chain_hits P w b rest m qb.0 mb in
      above_same m a b (hits_above P w a rest m qa.0 ca.0 ca.1) (hits_above P w b rest m qb.0 cb.0 cb.1)
      (go (is_child s.axis) refl o qa.0 qb.0 (hits_one P w (serial_of n) s a qa.0 qa.1) (hits_one P w (serial_of n) s b qb.0 qb.1) ca.0 ca.1 cb.1)
    where
      go : (c : Bool) → is_child s.axis ≡ c → cond c (one_desc rest) (all_child rest) ≡ true → In a P.nodes → In b P.nodes → reach (serial_of n) s a ≡ true → reach (serial_of n) s b ≡ true → In m P.nodes → hits (serial_of a) rest m ≡ true → hits (serial_of b) rest m ≡ true → depth a ≡ depth b
      go true e o ja jb ra rb jm ha hb = let x = reach_depth n a s i ja e ra in let y = reach_depth n b s i jb e rb in omega arith
      go false e o ja jb ra rb jm ha hb = let x = all_child_depth a rest m ja jm o ha in let y = all_child_depth b rest m jb jm o hb in omega arith

  pub one_desc_rest : (s : Step) (rest : List Step) → one_desc (s ∷ rest) ≡ true → one_desc rest ≡ true
  one_desc_rest s rest h = go (is_child s.axis) h
    where
      less : (path : List Step) → all_child path ≡ true → one_desc path ≡ true
      less [] e = refl
      less (s ∷ rest) e = let a = and_parts (is_child s.axis) (all_child rest) e in rw a.0 (less rest a.1)

      go : (c : Bool) → cond c (one_desc rest) (all_child rest) ≡ true → one_desc rest ≡ true
      go true e = e
      go false e = less rest e

  -- each node is bound once
  pub chain_once : (n : Node) (path : List Step) → In n P.nodes → one_desc path ≡ true → Once (chain_at P n path)
  chain_once n [] i o = ((λ j. j), tt)
  chain_once n (s ∷ rest) i o =
      Once-flat_map (λ (j : Node). chain_at P j rest) (matches P (serial_of n) (s ∷ []))
      (Once-rising _ (Rising-filter 0 (hits (serial_of n) (s ∷ [])) P.nodes w.numbered))
      (λ j k. chain_once j rest (Matches-in P (serial_of n) (s ∷ []) j k).0 (one_desc_rest s rest o))
      (λ a b m ia ib ma mb. one_way n s rest i o a b m ia ib ma mb)
