use Rattle.std.proofs.Common.{◌≡◌, ℕ, suc, ◌+◌, ◌<◌, ◌≤◌, Bool, true, false, cond, List, [], ◌∷◌, ◌++◌, length, refl, sym, ◌∙◌, ap, subst, inl, inr, arith, Some, None, Option}
use Rattle.std.specs.List.{filter}
use Rattle.std.proofs.lemmas.List.{append-nil}
use Rattle.std.proofs.lemmas.List.Elements.{filter-append}
use Rattle.std.proofs.lemmas.Option.{same_Some}
pub use Rattle.gcx_model.specs.Nodes.{Numbered, Rising, Grown}
use Rattle.gcx_base.specs.declared.kind.Kind.{Kind}
use Rattle.gcx_base.specs.declared.kind.Kind.TheVariants.{Element, Text}
use Rattle.gcx_model.specs.Tree.{Node, Root, Under, serial_of, Tree, TreeToken, Start, Chars, End, opening, grow, grow_at, grow_all}
use Rattle.gcx_base.specs.declared.steps.Step.{Step}
use Rattle.gcx_model.specs.Paths.{hits, matches}
use Rattle.tree_laws.proofs.Lists.{In, In-left, In-right, In-append, In-filter, In-kept}

pub Numbered-push : (k : ℕ) (xs : List Node) (y : Node) → Numbered k xs → serial_of y ≡ k + length xs → Numbered k (xs ++ y ∷ [])
Numbered-push k [] y h e = (omega arith, tt)
Numbered-push k (x ∷ xs) y h e = (h.0, Numbered-push (suc k) xs y h.1 (omega arith))

pub Numbered-low : (k : ℕ) (xs : List Node) → Numbered k xs → (y : Node) → In y xs → k ≤ serial_of y
Numbered-low k [] h y i = absurd i
Numbered-low k (x ∷ xs) h y (inl e) = let f = ap serial_of e in omega arith
Numbered-low k (x ∷ xs) h y (inr i) = let f = Numbered-low (suc k) xs h.1 y i in omega arith

pub Numbered-high : (k : ℕ) (xs : List Node) → Numbered k xs → (y : Node) → In y xs → serial_of y < k + length xs
Numbered-high k [] h y i = absurd i
Numbered-high k (x ∷ xs) h y (inl e) = let f = ap serial_of e in omega arith
Numbered-high k (x ∷ xs) h y (inr i) = let f = Numbered-high (suc k) xs h.1 y i in omega arith

pub Rising-filter : (k : ℕ) (p : Node → Bool) (xs : List Node) → Numbered k xs → Rising (filter p xs)
Rising-filter k p [] h = tt
Rising-filter k p (x ∷ xs) h = go (p x) (Rising-filter (suc k) p xs h.1)
  where
    go : (b : Bool) → Rising (filter p xs) → Rising (cond b (x ∷ filter p xs) (filter p xs))
    go true r = (λ y i. let f = Numbered-low (suc k) xs h.1 y (In-filter p y xs i).0 in omega arith, r)
    go false r = r

-- one node of each number
pub Numbered-same : (k : ℕ) (xs : List Node) → Numbered k xs → (a b : Node) → In a xs → In b xs → serial_of a ≡ serial_of b → a ≡ b
Numbered-same k [] h a b i j e = absurd i
Numbered-same k (x ∷ xs) h a b (inl f) (inl g) e = sym f ∙ g
Numbered-same k (x ∷ xs) h a b (inl f) (inr j) e = let l = Numbered-low (suc k) xs h.1 b j in let m = ap serial_of f in absurd (omega arith)
Numbered-same k (x ∷ xs) h a b (inr i) (inl g) e = let l = Numbered-low (suc k) xs h.1 a i in let m = ap serial_of g in absurd (omega arith)
Numbered-same k (x ∷ xs) h a b (inr i) (inr j) e = Numbered-same (suc k) xs h.1 a b i j e

-- (a)
pub Matches-rising : (P : Tree) → Grown P → (n : ℕ) (path : List Step) → Rising (matches P n path)
Matches-rising P w n path = Rising-filter 0 (hits n path) P.nodes w.numbered

pub Matches-in : (P : Tree) (n : ℕ) (path : List Step) (m : Node) → In m (matches P n path) → In m P.nodes × (hits n path m ≡ true)
Matches-in P n path m = In-filter (hits n path) m P.nodes

pub Matches-from : (P : Tree) (n : ℕ) (path : List Step) (m : Node) → In m P.nodes → hits n path m ≡ true → In m (matches P n path)
Matches-from P n path m = In-kept (hits n path) m P.nodes

-- (b) what a token adds to the nodes
abbrev pub added_at : Option Node → TreeToken → Tree → List Node
added_at None t P = []
added_at (Some p) (Start name) P = Under p (length P.nodes) (Element name) ∷ []
added_at (Some p) (Chars b) P = Under p (length P.nodes) (Text b) ∷ []
added_at (Some p) End P = []

pub grow_nodes_at : (at : Option Node) (t : TreeToken) (P : Tree) → (grow_at at t P).nodes ≡ P.nodes ++ added_at at t P
grow_nodes_at None t P = sym (append-nil P.nodes)
grow_nodes_at (Some p) (Start name) P = refl
grow_nodes_at (Some p) (Chars b) P = refl
grow_nodes_at (Some Root) End P = sym (append-nil P.nodes)
grow_nodes_at (Some (Under p s k)) End P = sym (append-nil P.nodes)

abbrev pub added : TreeToken → Tree → List Node
added t P = added_at P.at t P

pub grow_nodes : (t : TreeToken) (P : Tree) → (grow t P).nodes ≡ P.nodes ++ added t P
grow_nodes t P = grow_nodes_at P.at t P

pub Matches-grow : (t : TreeToken) (P : Tree) (n : ℕ) (path : List Step) → matches (grow t P) n path ≡ matches P n path ++ filter (hits n path) (added t P)
Matches-grow t P n path = ap (filter (hits n path)) (grow_nodes t P) ∙ filter-append (hits n path) P.nodes (added t P)

Grown-new : (P : Tree) (p : Node) (k : Kind) (at : Option Node) → Grown P → In p P.nodes → ((q : Node) → at ≡ Some q → In q (P.nodes ++ Under p (length P.nodes) k ∷ [])) → Grown (record { nodes = P.nodes ++ Under p (length P.nodes) k ∷ []; at = at })
Grown-new P p k at w i h = record {
  numbered = Numbered-push 0 P.nodes (Under p (length P.nodes) k) w.numbered (omega arith);
  upward = λ q s k' j. elim (In-append (Under q s k') P.nodes (Under p (length P.nodes) k ∷ []) j) [
    | inl a ↦ In-left q P.nodes (Under p (length P.nodes) k ∷ []) (w.upward q s k' a)
    | inr a ↦ elim a [
      | inl e ↦ let f : p ≡ q = cc in In-left q P.nodes (Under p (length P.nodes) k ∷ []) (subst (λ (x : Node). In x P.nodes) f i)
      | inr b ↦ absurd b
    ]
  ];
  at_in = h;
  below = λ q s k' j. elim (In-append (Under q s k') P.nodes (Under p (length P.nodes) k ∷ []) j) [
    | inl a ↦ w.below q s k' a
    | inr a ↦ elim a [
      | inl e ↦ (let f : p ≡ q = cc in let g : length P.nodes ≡ s = cc in let l = Numbered-high 0 P.nodes w.numbered p i in let m = ap serial_of f in omega arith)
      | inr b ↦ absurd b
    ]
  ];
}

Grown-grow_at : (at : Option Node) (t : TreeToken) (P : Tree) → P.at ≡ at → Grown P → Grown (grow_at at t P)
Grown-grow_at None t P e w = w
Grown-grow_at (Some p) (Start name) P e w = Grown-new P p (Element name) (Some (Under p (length P.nodes) (Element name))) w (w.at_in p e) (λ q f. In-right q P.nodes (Under p (length P.nodes) (Element name) ∷ []) (inl (same_Some _ _ f)))
Grown-grow_at (Some p) (Chars b) P e w = Grown-new P p (Text b) (Some p) w (w.at_in p e) (λ q f. In-left q P.nodes (Under p (length P.nodes) (Text b) ∷ []) (subst (λ (x : Node). In x P.nodes) (same_Some _ _ f) (w.at_in p e)))
Grown-grow_at (Some Root) End P e w = record { numbered = w.numbered; upward = w.upward; at_in = λ q f. cc; below = w.below }
Grown-grow_at (Some (Under p s k)) End P e w = record { numbered = w.numbered; upward = w.upward; at_in = λ q f. subst (λ (x : Node). In x P.nodes) (same_Some _ _ f) (w.upward p s k (w.at_in (Under p s k) e)); below = w.below }

pub Grown-grow : (t : TreeToken) (P : Tree) → Grown P → Grown (grow t P)
Grown-grow t P w = Grown-grow_at P.at t P refl w

pub Grown-opening : Grown opening
Grown-opening = record { numbered = (refl, tt); upward = λ p s k i. elim i [ inl e ↦ cc | inr j ↦ absurd j ]; at_in = λ p e. inl (same_Some _ _ e); below = λ p s k i. elim i [ inl e ↦ cc | inr j ↦ absurd j ] }

pub Grown-all : (ts : List TreeToken) (P : Tree) → Grown P → Grown (grow_all ts P)
Grown-all [] P w = w
Grown-all (t ∷ ts) P w = Grown-all ts (grow t P) (Grown-grow t P w)
