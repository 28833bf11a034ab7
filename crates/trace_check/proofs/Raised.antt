-- Entries of nodes, raised to those of their parents from the last node back.
use Rattle.std.proofs.Common.{◌≡◌, ℕ, suc, ◌<◌, ◌≤◌, Bool, true, false, cond, ◌&&◌, ◌||◌, List, [], ◌∷◌, length, max, refl, ◌∙◌, ap, inl, inr, arith, eqb, leb}
use Rattle.std.specs.List.{filter}
use Rattle.std.proofs.lemmas.Bool.{cases_order, eq-eqb, le-leb, lt-leb, ne_eqb}
use Rattle.gcx_base.specs.declared.kind.Kind.{Kind}
use Rattle.gcx_model.specs.Members.{In}
use Rattle.gcx_model.specs.Tree.{Node, Root, Under, serial_of, within, Tree}
use Rattle.tree_laws.proofs.Lists.{filter_none, filter_same}
use Rattle.tree_laws.proofs.Matches.{Grown, Numbered, Numbered-same, Numbered-high, Numbered-low}
use Rattle.time_laws.specs.Leaving.{greatest}

-- going up from the node while the numbers are at least j, one comes to the number k
abbrev pub comes_to : (j k : ℕ) → Node → Bool
comes_to j k Root = eqb 0 k
comes_to j k (Under p s kd) = eqb s k || (leb j s && comes_to j k p)

-- what all nodes hand up whose numbers are at least j
abbrev pub raised : Tree → (Node → ℕ) → (j k : ℕ) → ℕ
raised C f j k = greatest f (filter (comes_to j k) C.nodes)

-- ---- the greatest

greatest_or : (f : Node → ℕ) (a b : Node → Bool) (xs : List Node) → greatest f (filter (λ m. a m || b m) xs) ≡ max (greatest f (filter a xs)) (greatest f (filter b xs))
greatest_or f a b [] = omega arith
greatest_or f a b (x ∷ xs) = go (a x) (b x) (greatest_or f a b xs)
  where
    go : (p q : Bool) → greatest f (filter (λ m. a m || b m) xs) ≡ max (greatest f (filter a xs)) (greatest f (filter b xs))
        → greatest f (cond (p || q) (x ∷ filter (λ m. a m || b m) xs) (filter (λ m. a m || b m) xs)) ≡ max (greatest f (cond p (x ∷ filter a xs) (filter a xs))) (greatest f (cond q (x ∷ filter b xs) (filter b xs)))
    go true true e = omega (arith, e)
    go true false e = omega (arith, e)
    go false true e = omega (arith, e)
    go false false e = e

greatest_if : (f : Node → ℕ) (a : Node → Bool) (b : Bool) (xs : List Node) → greatest f (filter (λ m. a m && b) xs) ≡ cond b (greatest f (filter a xs)) 0
greatest_if f a true xs = ap (greatest f) (filter_same (λ m. a m && true) a xs (λ m i. and_true (a m)))
  where
    and_true : (x : Bool) → (x && true) ≡ x
    and_true true = refl
    and_true false = refl
greatest_if f a false [] = refl
greatest_if f a false (x ∷ xs) = go (a x) (greatest_if f a false xs)
  where
    go : (p : Bool) → greatest f (filter (λ m. a m && false) xs) ≡ 0 → greatest f (cond (p && false) (x ∷ filter (λ m. a m && false) xs) (filter (λ m. a m && false) xs)) ≡ 0
    go true e = e
    go false e = e

-- ---- one node more hands up

module _ (C : Tree) (w : Grown C) (j : ℕ) (q : Node) (kd : Kind) (here : In (Under q j kd) C.nodes) where
  low : serial_of q < j
  low = w.below q j kd here

  -- the parent's number is smaller, so one comes no further
  at_parent : (k : ℕ) (p : Node) → serial_of p < j → comes_to j k p ≡ eqb (serial_of p) k
  at_parent k Root l = refl
  at_parent k (Under p s e) l = rw (lt-leb j s l) (or_none (eqb s k))
    where
      or_none : (x : Bool) → (x || (false && comes_to j k p)) ≡ x
      or_none true = refl
      or_none false = refl

  step : (k : ℕ) (m : Node) → In m C.nodes → comes_to j k m ≡ (comes_to (suc j) k m || (comes_to (suc j) j m && eqb (serial_of q) k))
  step k Root i = let l = low in rw (ne_eqb 0 j (λ e. omega (arith, e, l))) (or_none (eqb 0 k))
    where
      or_none : (x : Bool) → x ≡ (x || (false && eqb (serial_of q) k))
      or_none true = refl
      or_none false = refl
  step k (Under p s e) i = elim (cases_order s j) [
    | inl same ↦
        (let m : Under p s e ≡ Under q j kd = Numbered-same 0 C.nodes w.numbered (Under p s e) (Under q j kd) i here same in
        let parent : p ≡ q = cc in
        rw (le-leb j s (omega (arith, same)), lt-leb (suc j) s (omega (arith, same)), eq-eqb s j same)
        (ap (λ (x : Node). eqb s k || comes_to j k x) parent ∙ (ap (λ (b : Bool). eqb s k || b) (at_parent k q low) ∙ tidy (eqb s k) (eqb (serial_of q) k) (comes_to (suc j) k p) (comes_to (suc j) j p))))
    | inr other ↦ elim other [
      | inl less ↦ rw (lt-leb j s less, lt-leb (suc j) s (omega (arith, less)), ne_eqb s j (λ f. omega (arith, f, less))) (none (eqb s k) (comes_to j k p) (comes_to (suc j) k p) (comes_to (suc j) j p) (eqb (serial_of q) k))
      | inr more ↦ rw (le-leb j s (omega (arith, more)), le-leb (suc j) s more, ne_eqb s j (λ f. omega (arith, f, more)))
          (ap (λ (b : Bool). eqb s k || b) (step k p (w.upward p s e i)) ∙ both (eqb s k) (comes_to (suc j) k p) (comes_to (suc j) j p) (eqb (serial_of q) k))
    ]
  ]
    where
      tidy : (x y z v : Bool) → (x || y) ≡ ((x || (false && z)) || ((true || (false && v)) && y))
      tidy true y z v = refl
      tidy false y z v = refl

      none : (x a b c y : Bool) → (x || (false && a)) ≡ ((x || (false && b)) || ((false || (false && c)) && y))
      none true a b c y = refl
      none false a b c y = refl

      both : (x a b y : Bool) → (x || (a || (b && y))) ≡ ((x || (true && a)) || ((false || (true && b)) && y))
      both true a b y = refl
      both false a b y = refl

  -- so the entry of its parent is raised to its own, and no other entry changes
  pub raised_step : (f : Node → ℕ) (k : ℕ) → raised C f j k ≡ max (raised C f (suc j) k) (cond (eqb (serial_of q) k) (raised C f (suc j) j) 0)
  raised_step f k =
      ap (greatest f) (filter_same (comes_to j k) (λ m. comes_to (suc j) k m || (comes_to (suc j) j m && eqb (serial_of q) k)) C.nodes (step k))
      ∙ (greatest_or f (comes_to (suc j) k) (λ m. comes_to (suc j) j m && eqb (serial_of q) k) C.nodes
      ∙ ap (λ (x : ℕ). max (raised C f (suc j) k) x) (greatest_if f (comes_to (suc j) j) (eqb (serial_of q) k) C.nodes))

-- ---- before, and behind all

-- nothing is handed up yet
pub raised_none : (C : Tree) → Grown C → (f : Node → ℕ) (j : ℕ) → length C.nodes ≤ j → (n : Node) → In n C.nodes → raised C f j (serial_of n) ≡ f n
raised_none C w f j l n i = ap (greatest f) (filter_same (comes_to j (serial_of n)) (λ m. eqb (serial_of m) (serial_of n)) C.nodes alone) ∙ singled 0 C.nodes w.numbered i
  where
    alone : (m : Node) → In m C.nodes → comes_to j (serial_of n) m ≡ eqb (serial_of m) (serial_of n)
    alone Root k = refl
    alone (Under p s e) k = let h = Numbered-high 0 C.nodes w.numbered (Under p s e) k in rw (lt-leb j s (omega (arith, h, l))) (or_none (eqb s (serial_of n)) (comes_to j (serial_of n) p))
      where
        or_none : (x y : Bool) → (x || (false && y)) ≡ x
        or_none true y = refl
        or_none false y = refl

    singled : (b : ℕ) (xs : List Node) → Numbered b xs → In n xs → greatest f (filter (λ m. eqb (serial_of m) (serial_of n)) xs) ≡ f n
    singled b [] h k = absurd k
    singled b (x ∷ xs) h (inl e) =
        let rest : filter (λ m. eqb (serial_of m) (serial_of n)) xs ≡ [] = filter_none (λ m. eqb (serial_of m) (serial_of n)) xs (λ m k. let a = Numbered-low (suc b) xs h.1 m k in let c = ap serial_of e in let d = h.0 in ne_eqb (serial_of m) (serial_of n) (λ g. omega (arith, a, c, d, g))) in
        rw (eq-eqb (serial_of x) (serial_of n) (ap serial_of e), rest) (let z : max (f x) 0 ≡ f x = omega arith in z ∙ ap f e)
    singled b (x ∷ xs) h (inr k) =
        let a = Numbered-low (suc b) xs h.1 n k in
        let d = h.0 in
        rw (ne_eqb (serial_of x) (serial_of n) (λ g. omega (arith, a, d, g))) (singled (suc b) xs h.1 k)

-- all is handed up
pub raised_all : (C : Tree) → Grown C → (f : Node → ℕ) (j k : ℕ) → j ≤ 1 → raised C f j k ≡ greatest f (filter (within k) C.nodes)
raised_all C w f j k few = ap (greatest f) (filter_same (comes_to j k) (within k) C.nodes same)
  where
    same : (m : Node) → In m C.nodes → comes_to j k m ≡ within k m
    same Root i = refl
    same (Under p s e) i = let l = w.below p s e i in rw (le-leb j s (omega (arith, l, few))) (ap (λ (b : Bool). eqb s k || b) (same p (w.upward p s e i)))
