-- The number of the last statement that reaches a node.
use Rattle.std.proofs.Common.{◌≡◌, ◌⊎◌, ℕ, suc, ◌+◌, ◌<◌, ◌≤◌, Bool, true, false, cond, List, [], ◌∷◌, ◌++◌, refl, sym, ap, subst, inl, inr, arith, max}
use Rattle.std.specs.List.{filter}
use Rattle.gcx_model.specs.Tree.{Node, Tree}
use Rattle.gcx_model.specs.Core.{OffTree}
use Rattle.gcx_model.specs.Run.{Action, Wrote, Offed}
use Rattle.gcx_model.specs.Held.{gives}
use Rattle.placed_laws.specs.Balance.{is_taking}
use Rattle.tree_laws.proofs.Lists.{In, Once, In-kept, In-right}
use Rattle.time_laws.specs.Leaving.{count_offs, last_from, greatest}

pub count-append : (xs ys : List Action) → count_offs (xs ++ ys) ≡ count_offs xs + count_offs ys
count-append [] ys = omega arith
count-append (Wrote b ∷ xs) ys = count-append xs ys
count-append (Offed o m ∷ xs) ys = let h = count-append xs ys in omega arith

last_high : (C : Tree) (k : ℕ) (xs : List Action) (n : Node) (x : ℕ) → x ≤ k → x ≤ last_from C k xs n x
last_high C k [] n x l = omega arith
last_high C k (Wrote b ∷ xs) n x l = last_high C k xs n x l
last_high C k (Offed o m ∷ xs) n x l = go (last_high C (suc k) xs n (suc k) (omega arith)) (last_high C (suc k) xs n x (omega arith)) (gives C m o.rel o.tail o.kind n)
  where
    go : suc k ≤ last_from C (suc k) xs n (suc k) → x ≤ last_from C (suc k) xs n x → (b : Bool) → x ≤ last_from C (suc k) xs n (cond b (suc k) x)
    go h g true = omega arith
    go h g false = g

-- it is no less than that of one that reaches the node,
pub last_after : (C : Tree) (k : ℕ) (xs ys : List Action) (o : OffTree) (m : ℕ) (n : Node) (x : ℕ) → x ≤ k → gives C m o.rel o.tail o.kind n ≡ true → suc (k + count_offs xs) ≤ last_from C k (xs ++ Offed o m ∷ ys) n x
last_after C k [] ys o m n x l g =
    let h = last_high C (suc k) ys n (suc k) (omega arith) in
    subst (λ (z : Bool). suc (k + 0) ≤ last_from C (suc k) ys n (cond z (suc k) x)) (sym g) (omega arith)
last_after C k (Wrote b ∷ xs) ys o m n x l g = last_after C k xs ys o m n x l g
last_after C k (Offed p q ∷ xs) ys o m n x l g =
    go (last_after C (suc k) xs ys o m n (suc k) (omega arith) g) (last_after C (suc k) xs ys o m n x (omega arith) g) (gives C q p.rel p.tail p.kind n)
  where
    go : suc (suc k + count_offs xs) ≤ last_from C (suc k) (xs ++ Offed o m ∷ ys) n (suc k) → suc (suc k + count_offs xs) ≤ last_from C (suc k) (xs ++ Offed o m ∷ ys) n x
        → (b : Bool) → suc (k + suc (count_offs xs)) ≤ last_from C (suc k) (xs ++ Offed o m ∷ ys) n (cond b (suc k) x)
    go h e true = omega arith
    go h e false = omega arith

-- and it is that of one that does.
pub record Found (C : Tree) (k : ℕ) (all : List Action) (n : Node) (v : ℕ) : Type 0 where
  pub before : List Action
  pub after : List Action
  pub off : OffTree
  pub place : ℕ
  pub split : all ≡ before ++ Offed off place ∷ after
  pub reaches : gives C place off.rel off.tail off.kind n ≡ true
  pub number : v ≡ suc (k + count_offs before)

behind_off : (C : Tree) (k : ℕ) (o : OffTree) (m : ℕ) (xs : List Action) (n : Node) (v : ℕ) → Found C (suc k) xs n v → Found C k (Offed o m ∷ xs) n v
behind_off C k o m xs n v f = record {
  before = Offed o m ∷ f.before;
  after = f.after;
  off = f.off;
  place = f.place;
  split = ap (λ z. Offed o m ∷ z) f.split;
  reaches = f.reaches;
  number = let h = f.number in omega arith;
}

behind_write : (C : Tree) (k : ℕ) (b : List ℕ) (xs : List Action) (n : Node) (v : ℕ) → Found C k xs n v → Found C k (Wrote b ∷ xs) n v
behind_write C k b xs n v f = record {
  before = Wrote b ∷ f.before;
  after = f.after;
  off = f.off;
  place = f.place;
  split = ap (λ z. Wrote b ∷ z) f.split;
  reaches = f.reaches;
  number = f.number;
}

pub last_found : (C : Tree) (k : ℕ) (all : List Action) (n : Node) (x : ℕ) → (last_from C k all n x ≡ x) ⊎ Found C k all n (last_from C k all n x)
last_found C k [] n x = inl refl
last_found C k (Wrote b ∷ xs) n x = elim (last_found C k xs n x) [ inl e ↦ inl e | inr f ↦ inr (behind_write C k b xs n (last_from C k xs n x) f) ]
last_found C k (Offed o m ∷ xs) n x = go (last_found C (suc k) xs n (suc k)) (last_found C (suc k) xs n x) (gives C m o.rel o.tail o.kind n) refl
  where
    go : (last_from C (suc k) xs n (suc k) ≡ suc k) ⊎ Found C (suc k) xs n (last_from C (suc k) xs n (suc k)) → (last_from C (suc k) xs n x ≡ x) ⊎ Found C (suc k) xs n (last_from C (suc k) xs n x)
        → (b : Bool) → gives C m o.rel o.tail o.kind n ≡ b → (last_from C (suc k) xs n (cond b (suc k) x) ≡ x) ⊎ Found C k (Offed o m ∷ xs) n (last_from C (suc k) xs n (cond b (suc k) x))
    go (inl e) g true h = inr (record { before = []; after = xs; off = o; place = m; split = refl; reaches = h; number = omega (arith, e) })
    go (inr f) g true h = inr (behind_off C k o m xs n (last_from C (suc k) xs n (suc k)) f)
    go f (inl e) false h = inl e
    go f (inr g) false h = inr (behind_off C k o m xs n (last_from C (suc k) xs n x) g)

-- Where no statement is carried out twice, one of the first actions has its number among these.
off_same : (o p : OffTree) (m q : ℕ) (xs ys : List Action) → Offed o m ∷ xs ≡ Offed p q ∷ ys → xs ≡ ys
off_same o p m q xs ys e = cc

pub once_split : (A rest xs ys : List Action) (o : OffTree) (m : ℕ) → Once (filter is_taking (A ++ rest)) → In (Offed o m) A → A ++ rest ≡ xs ++ Offed o m ∷ ys → suc (count_offs xs) ≤ count_offs A
once_split [] rest xs ys o m once i e = absurd i
once_split (Wrote b ∷ A) rest [] ys o m once i e = absurd (cc)
once_split (Wrote b ∷ A) rest (Wrote d ∷ xs) ys o m once (inl f) e = absurd (cc)
once_split (Wrote b ∷ A) rest (Wrote d ∷ xs) ys o m once (inr i) e = let f : A ++ rest ≡ xs ++ Offed o m ∷ ys = cc in once_split A rest xs ys o m once i f
once_split (Wrote b ∷ A) rest (Offed p q ∷ xs) ys o m once i e = absurd (cc)
once_split (Offed p q ∷ A) rest [] ys o m once i e = omega arith
once_split (Offed p q ∷ A) rest (Wrote d ∷ xs) ys o m once i e = absurd (cc)
once_split (Offed p q ∷ A) rest (Offed u v ∷ xs) ys o m once (inl f) e =
    let g : A ++ rest ≡ xs ++ Offed o m ∷ ys = off_same p u q v (A ++ rest) (xs ++ Offed o m ∷ ys) e in
    let here : In (Offed o m) (A ++ rest) = subst (λ (z : List Action). In (Offed o m) z) (sym g) (In-right (Offed o m) xs (Offed o m ∷ ys) (inl refl)) in
    absurd (once.0 (subst (λ (z : Action). In z (filter is_taking (A ++ rest))) (sym f) (In-kept is_taking (Offed o m) (A ++ rest) here refl)))
once_split (Offed p q ∷ A) rest (Offed u v ∷ xs) ys o m once (inr i) e =
    let h = once_split A rest xs ys o m once.1 i (off_same p u q v (A ++ rest) (xs ++ Offed o m ∷ ys) e) in omega arith

-- The greatest of some.
pub greatest_least : (f : Node → ℕ) (ns : List Node) (n : Node) → In n ns → f n ≤ greatest f ns
greatest_least f [] n i = absurd i
greatest_least f (m ∷ ns) n (inl e) = let h = ap f e in omega arith
greatest_least f (m ∷ ns) n (inr i) = let h = greatest_least f ns n i in omega arith

pub greatest_found : (f : Node → ℕ) (ns : List Node) (c : ℕ) → c < greatest f ns → (n : Node) × In n ns × (c < f n)
greatest_found f [] c l = absurd (omega arith)
greatest_found f (m ∷ ns) c l = elim (cases c (f m) (greatest f ns) l) [ inl h ↦ (m, inl refl, h) | inr h ↦ (let r = greatest_found f ns c h in (r.0, inr r.1, r.2)) ]
  where
    cases : (c a b : ℕ) → c < max a b → (c < a) ⊎ (c < b)
    cases c a b h = grind arith
