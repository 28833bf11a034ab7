-- The clock of tokens.
use Rattle.std.proofs.Common.{◌≡◌, ℕ, zero, suc, ◌+◌, ◌<◌, ◌≤◌, Bool, true, false, cond, not, ◌&&◌, ◌⊎◌, List, [], ◌∷◌, ◌++◌, length, refl, sym, ◌∙◌, ap, subst, inl, inr, arith, leb, ltb, None}
use Rattle.std.specs.Prelude.{take, drop}
use Rattle.std.specs.List.{filter}
use Rattle.std.proofs.lemmas.Bool.{le-leb, lt-leb, lt-ltb, le-ltb, ltb-true, cases_lt, cases_Bool, false≢true, and_parts, and_from}
use Rattle.std.proofs.lemmas.List.{append-nil, length-append}
use Rattle.std.proofs.lemmas.List.Elements.{filter-append}
use Rattle.gcx_model.specs.Tree.{Node, serial_of, within, Tree, TreeToken, opening, grow, grow_all, is_open_at, is_closed}
use Rattle.gcx_model.specs.Paths.{value}
use Rattle.tree_laws.proofs.Lists.{In, In-append, filter_none}
use Rattle.tree_laws.proofs.Matches.{Grown, Grown-grow, Grown-all, Grown-opening, Numbered, Numbered-high, Numbered-low, added, grow_nodes}
use Rattle.tree_laws.proofs.Freeze.{stays_closed, closed_added, closed_below, value_closed}
use Rattle.time_laws.specs.Times.{Clock, IsClock, clock_of, opened_from, closed_from, tree_at, is_there}
use Rattle.time_laws.specs.Laws.{ClockOfTokens}

-- ---- nodes behind tokens

pub more_nodes : (us : List TreeToken) (P : Tree) → (more : List Node) × ((grow_all us P).nodes ≡ P.nodes ++ more)
more_nodes [] P = ([], sym (append-nil P.nodes))
more_nodes (t ∷ us) P = let r = more_nodes us (grow t P) in (added t P ++ r.0, r.1 ∙ (ap (λ z. z ++ r.0) (grow_nodes t P) ∙ append_same P.nodes (added t P) r.0))
  where
    append_same : (xs ys zs : List Node) → (xs ++ ys) ++ zs ≡ xs ++ (ys ++ zs)
    append_same [] ys zs = refl
    append_same (x ∷ xs) ys zs = ap (λ z. x ∷ z) (append_same xs ys zs)

pub no_fewer : (us : List TreeToken) (P : Tree) → length P.nodes ≤ length (grow_all us P).nodes
no_fewer us P = let r = more_nodes us P in let e = ap length r.1 ∙ length-append P.nodes r.0 in omega arith

pub split_at : (j : ℕ) (ts : List TreeToken) (P : Tree) → grow_all ts P ≡ grow_all (drop j ts) (grow_all (take j ts) P)
split_at zero ts P = refl
split_at (suc j) [] P = refl
split_at (suc j) (t ∷ ts) P = split_at j ts (grow t P)

-- ---- openings

opened_low : (ts : List TreeToken) (P : Tree) (now n : ℕ) → now ≤ opened_from ts P now n
opened_low [] P now n = omega arith
opened_low (t ∷ ts) P now n = go (ltb n (length P.nodes)) (opened_low ts (grow t P) (suc now) n)
  where
    go : (b : Bool) → suc now ≤ opened_from ts (grow t P) (suc now) n → now ≤ cond b now (opened_from ts (grow t P) (suc now) n)
    go true h = omega arith
    go false h = omega arith

opened_cut : (ts : List TreeToken) (P : Tree) (now j n : ℕ) → j ≤ length ts → n < length (grow_all ts P).nodes → leb (opened_from ts P now n) (now + j) ≡ ltb n (length (grow_all (take j ts) P).nodes)
opened_cut [] P now zero n l m = le-leb now (now + 0) (omega arith) ∙ sym (lt-ltb n (length P.nodes) m)
opened_cut [] P now (suc j) n l m = absurd (omega arith)
opened_cut (t ∷ ts) P now zero n l m = elim (cases_lt n (length P.nodes)) [
  | inl a ↦ rw (lt-ltb n (length P.nodes) a) (le-leb now (now + 0) (omega arith))
  | inr a ↦ rw (le-ltb n (length P.nodes) a) (lt-leb (opened_from ts (grow t P) (suc now) n) (now + 0) (let h = opened_low ts (grow t P) (suc now) n in omega arith))
]
opened_cut (t ∷ ts) P now (suc j) n l m = elim (cases_lt n (length P.nodes)) [
  | inl a ↦ rw (lt-ltb n (length P.nodes) a) (le-leb now (now + suc j) (omega arith) ∙ sym (lt-ltb n (length (grow_all (take j ts) (grow t P)).nodes) (let h = no_fewer (t ∷ take j ts) P in omega arith)))
  | inr a ↦ rw (le-ltb n (length P.nodes) a) (
      let e : now + suc j ≡ suc now + j = omega arith in
      ap (λ (z : ℕ). leb (opened_from ts (grow t P) (suc now) n) z) e ∙ opened_cut ts (grow t P) (suc now) j n (omega arith) m)
]

opened_rises : (ts : List TreeToken) (P : Tree) (now a b : ℕ) → a ≤ b → opened_from ts P now a ≤ opened_from ts P now b
opened_rises [] P now a b l = omega arith
opened_rises (t ∷ ts) P now a b l = elim (cases_lt a (length P.nodes)) [
  | inl m ↦ rw (lt-ltb a (length P.nodes) m) (opened_low (t ∷ ts) P now b)
  | inr m ↦ rw (le-ltb a (length P.nodes) m, le-ltb b (length P.nodes) (omega arith)) (opened_rises ts (grow t P) (suc now) a b l)
]

-- ---- closings

closed_low : (ts : List TreeToken) (P : Tree) (now n : ℕ) → now ≤ closed_from ts P now n
closed_low [] P now n = omega arith
closed_low (t ∷ ts) P now n = go (ltb n (length P.nodes) && not (is_open_at P.at n)) (closed_low ts (grow t P) (suc now) n)
  where
    go : (b : Bool) → suc now ≤ closed_from ts (grow t P) (suc now) n → now ≤ cond b now (closed_from ts (grow t P) (suc now) n)
    go true h = omega arith
    go false h = omega arith

opened_first : (ts : List TreeToken) (P : Tree) (now n : ℕ) → opened_from ts P now n ≤ closed_from ts P now n
opened_first [] P now n = omega arith
opened_first (t ∷ ts) P now n = elim (cases_lt n (length P.nodes)) [
  | inl m ↦ rw (lt-ltb n (length P.nodes) m) (go (not (is_open_at P.at n)) (closed_low ts (grow t P) (suc now) n))
  | inr m ↦ rw (le-ltb n (length P.nodes) m) (opened_first ts (grow t P) (suc now) n)
]
  where
    go : (b : Bool) → suc now ≤ closed_from ts (grow t P) (suc now) n → now ≤ cond b now (closed_from ts (grow t P) (suc now) n)
    go true h = omega arith
    go false h = omega arith

closed_on : (us : List TreeToken) (P : Tree) (n : Node) → serial_of n < length P.nodes → is_closed P n ≡ true → is_closed (grow_all us P) n ≡ true
closed_on [] P n l c = c
closed_on (t ∷ us) P n l c = closed_on us (grow t P) n (let h = no_fewer (t ∷ []) P in omega arith) (stays_closed t P n l c)

closed_cut : (ts : List TreeToken) (P : Tree) (now j : ℕ) (n : Node) → (grow_all ts P).at ≡ None → j ≤ length ts → serial_of n < length (grow_all (take j ts) P).nodes
    → leb (closed_from ts P now (serial_of n)) (now + j) ≡ is_closed (grow_all (take j ts) P) n
closed_cut [] P now zero n e l m = le-leb now (now + 0) (omega arith) ∙ sym (ap (λ z. not (is_open_at z (serial_of n))) e)
closed_cut [] P now (suc j) n e l m = absurd (omega arith)
closed_cut (t ∷ ts) P now zero n e l m = rw (lt-ltb (serial_of n) (length P.nodes) m) (go (not (is_open_at P.at (serial_of n))))
  where
    go : (b : Bool) → leb (cond b now (closed_from ts (grow t P) (suc now) (serial_of n))) (now + 0) ≡ b
    go true = le-leb now (now + 0) (omega arith)
    go false = lt-leb (closed_from ts (grow t P) (suc now) (serial_of n)) (now + 0) (let h = closed_low ts (grow t P) (suc now) (serial_of n) in omega arith)
closed_cut (t ∷ ts) P now (suc j) n e l m = go (closed_cut ts (grow t P) (suc now) j n e (omega arith) m) (ltb (serial_of n) (length P.nodes) && is_closed P n) refl
  where
    go : leb (closed_from ts (grow t P) (suc now) (serial_of n)) (suc now + j) ≡ is_closed (grow_all (take j ts) (grow t P)) n
        → (b : Bool) → (ltb (serial_of n) (length P.nodes) && is_closed P n) ≡ b → leb (cond b now (closed_from ts (grow t P) (suc now) (serial_of n))) (now + suc j) ≡ is_closed (grow_all (take j ts) (grow t P)) n
    go ih true g =
        let a = and_parts (ltb (serial_of n) (length P.nodes)) (is_closed P n) g in
        le-leb now (now + suc j) (omega arith) ∙ sym (closed_on (t ∷ take j ts) P n (ltb-true (serial_of n) (length P.nodes) a.0) a.1)
    go ih false g =
        let f : now + suc j ≡ suc now + j = omega arith in
        ap (λ (z : ℕ). leb (closed_from ts (grow t P) (suc now) (serial_of n)) z) f ∙ ih

-- what comes later isn't in a closed node
outside : (us : List TreeToken) (P : Tree) (n m : Node) → serial_of n < length P.nodes → is_closed P n ≡ true → In m (grow_all us P).nodes → (In m P.nodes → ⊥) → within (serial_of n) m ≡ false
outside [] P n m l c i o = absurd (o i)
outside (t ∷ us) P n m l c i o = outside_step (outside us (grow t P) n m (let h = no_fewer (t ∷ []) P in omega arith) (stays_closed t P n l c) i) (cases_Bool (within (serial_of n) m))
  where
    outside_step : ((In m (grow t P).nodes → ⊥) → within (serial_of n) m ≡ false) → (within (serial_of n) m ≡ true) ⊎ (within (serial_of n) m ≡ false) → within (serial_of n) m ≡ false
    outside_step ih (inr e) = e
    outside_step ih (inl e) = ih (λ q. elim (In-append m P.nodes (added t P) (subst (λ (z : List Node). In m z) (grow_nodes t P) q)) [
      | inl a ↦ o a
      | inr a ↦ false≢true (sym (closed_added t P n l c m a) ∙ e)
    ])

low_in : (k : ℕ) (xs ys : List Node) → Numbered k (xs ++ ys) → (m : Node) → In m (xs ++ ys) → serial_of m < k + length xs → In m xs
low_in k [] ys h m i l = let r = Numbered-low k ys h m i in absurd (omega arith)
low_in k (x ∷ xs) ys h m (inl e) l = inl e
low_in k (x ∷ xs) ys h m (inr i) l = inr (low_in (suc k) xs ys h.1 m i (omega arith))

there_before : (us : List TreeToken) (P : Tree) → Grown (grow_all us P) → (m : Node) → In m (grow_all us P).nodes → serial_of m < length P.nodes → In m P.nodes
there_before us P w m i l =
    let r = more_nodes us P in
    low_in 0 P.nodes r.0 (subst (λ (z : List Node). Numbered 0 z) r.1 w.numbered) m (subst (λ (z : List Node). In m z) r.1 i) (omega arith)

closed_inside : (ts : List TreeToken) (P : Tree) (now : ℕ) → Grown P → (n m : Node) → In m (grow_all ts P).nodes → within (serial_of n) m ≡ true → closed_from ts P now (serial_of m) ≤ closed_from ts P now (serial_of n)
closed_inside [] P now w n m i h = omega arith
closed_inside (t ∷ ts) P now w n m i h = go (closed_inside ts (grow t P) (suc now) (Grown-grow t P w) n m i h) (ltb (serial_of n) (length P.nodes) && is_closed P n) refl
  where
    M : ℕ
    M = closed_from ts (grow t P) (suc now) (serial_of m)

    N : ℕ
    N = closed_from ts (grow t P) (suc now) (serial_of n)

    here : Bool
    here = ltb (serial_of m) (length P.nodes) && is_closed P m

    less : (b : Bool) → M ≤ N → suc now ≤ N → cond b now M ≤ N
    less true a c = omega arith
    less false a c = a

    go : M ≤ N → (b : Bool) → (ltb (serial_of n) (length P.nodes) && is_closed P n) ≡ b → cond here now M ≤ cond b now N
    go ih true g =
        let a = and_parts (ltb (serial_of n) (length P.nodes)) (is_closed P n) g in
        let l = ltb-true (serial_of n) (length P.nodes) a.0 in
        let there : In m P.nodes = by_cases l a.1 (cases_lt (serial_of m) (length P.nodes)) in
        let low = Numbered-high 0 P.nodes w.numbered m there in
        let yes : here ≡ true = and_from (ltb (serial_of m) (length P.nodes)) (is_closed P m) (lt-ltb (serial_of m) (length P.nodes) (omega arith)) (closed_below P w n m there h a.1) in
        rw (yes) (omega arith)
      where
        by_cases : serial_of n < length P.nodes → is_closed P n ≡ true → (serial_of m < length P.nodes) ⊎ (length P.nodes ≤ serial_of m) → In m P.nodes
        by_cases l c (inl q) = there_before (t ∷ ts) P (Grown-all (t ∷ ts) P w) m i q
        by_cases l c (inr q) = absurd (false≢true (sym (outside (t ∷ ts) P n m l c i (λ (x : In m P.nodes). let r = Numbered-high 0 P.nodes w.numbered m x in omega arith)) ∙ h))
    go ih false g = less here ih (closed_low ts (grow t P) (suc now) (serial_of n))

-- ---- values

value_on : (us : List TreeToken) (P : Tree) (n : Node) → serial_of n < length P.nodes → is_closed P n ≡ true → value (grow_all us P) n ≡ value P n
value_on [] P n l c = refl
value_on (t ∷ us) P n l c = value_on us (grow t P) n (let h = no_fewer (t ∷ []) P in omega arith) (stays_closed t P n l c) ∙ value_closed t P n l c

-- ---- the clock

kept_all : (p : Node → Bool) (xs : List Node) → ((x : Node) → In x xs → p x ≡ true) → filter p xs ≡ xs
kept_all p [] h = refl
kept_all p (x ∷ xs) h = rw (h x (inl refl)) (ap (λ z. x ∷ z) (kept_all p xs (λ y i. h y (inr i))))

behind_all : (k : ℕ) (xs ys : List Node) → Numbered k (xs ++ ys) → (m : Node) → In m ys → k + length xs ≤ serial_of m
behind_all k [] ys h m i = let r = Numbered-low k ys h m i in omega arith
behind_all k (x ∷ xs) ys h m i = let r = behind_all (suc k) xs ys h.1 m i in omega arith

In_left : (m : Node) (xs ys : List Node) → In m xs → In m (xs ++ ys)
In_left m [] ys i = absurd i
In_left m (x ∷ xs) ys (inl e) = inl e
In_left m (x ∷ xs) ys (inr i) = inr (In_left m xs ys i)

In_right : (m : Node) (xs ys : List Node) → In m ys → In m (xs ++ ys)
In_right m [] ys i = i
In_right m (x ∷ xs) ys i = inr (In_right m xs ys i)

module _ (ts : List TreeToken) (shut : (grow_all ts opening).at ≡ None) where
  C : Tree
  C = grow_all ts opening

  w : Grown (grow_all ts opening)
  w = Grown-all ts opening Grown-opening

  c : Clock
  c = clock_of ts

  by_then : (j : ℕ) → j ≤ length ts → (n : Node) → In n (grow_all ts opening).nodes → leb (opened_from ts opening 0 (serial_of n)) j ≡ ltb (serial_of n) (length (tree_at ts j).nodes)
  by_then j l n i =
      let z : 0 + j ≡ j = omega arith in
      ap (λ (x : ℕ). leb (opened_from ts opening 0 (serial_of n)) x) (sym z) ∙ opened_cut ts opening 0 j (serial_of n) l (let r = Numbered-high 0 (grow_all ts opening).nodes w.numbered n i in omega arith)

  nodes_then : (j : ℕ) → j ≤ length ts → (tree_at ts j).nodes ≡ filter (is_there (clock_of ts) j) (grow_all ts opening).nodes
  nodes_then j l =
      let r = more_nodes (drop j ts) (tree_at ts j) in
      let e : (grow_all ts opening).nodes ≡ (tree_at ts j).nodes ++ r.0 = ap (λ (z : Tree). z.nodes) (split_at j ts opening) ∙ r.1 in
      let num : Numbered 0 ((tree_at ts j).nodes ++ r.0) = subst (λ (z : List Node). Numbered 0 z) e w.numbered in
      let v : Grown (tree_at ts j) = Grown-all (take j ts) opening Grown-opening in
      sym (ap (filter (is_there (clock_of ts) j)) e
      ∙ (filter-append (is_there (clock_of ts) j) (tree_at ts j).nodes r.0
      ∙ (ap (λ z. z ++ filter (is_there (clock_of ts) j) r.0) (kept_all (is_there (clock_of ts) j) (tree_at ts j).nodes (λ x i.
      by_then j l x (subst (λ (z : List Node). In x z) (sym e) (In_left x (tree_at ts j).nodes r.0 i)) ∙ lt-ltb (serial_of x) (length (tree_at ts j).nodes) (let q = Numbered-high 0 (tree_at ts j).nodes v.numbered x i in omega arith)))
      ∙ (ap (λ z. (tree_at ts j).nodes ++ z) (filter_none (is_there (clock_of ts) j) r.0 (λ x i.
      by_then j l x (subst (λ (z : List Node). In x z) (sym e) (In_right x (tree_at ts j).nodes r.0 i)) ∙ le-ltb (serial_of x) (length (tree_at ts j).nodes) (let q = behind_all 0 (tree_at ts j).nodes r.0 num x i in omega arith)))
      ∙ append-nil (tree_at ts j).nodes))))

  low_then : (j : ℕ) → j ≤ length ts → (n : Node) → In n (grow_all ts opening).nodes → opened_from ts opening 0 (serial_of n) ≤ j → serial_of n < length (tree_at ts j).nodes
  low_then j l n i o = ltb-true (serial_of n) (length (tree_at ts j).nodes) (sym (by_then j l n i) ∙ le-leb (opened_from ts opening 0 (serial_of n)) j o)

  closed_then : (j : ℕ) → j ≤ length ts → (n : Node) → In n (grow_all ts opening).nodes → opened_from ts opening 0 (serial_of n) ≤ j → is_closed (tree_at ts j) n ≡ leb (closed_from ts opening 0 (serial_of n)) j
  closed_then j l n i o =
      let z : 0 + j ≡ j = omega arith in
      sym (ap (λ (x : ℕ). leb (closed_from ts opening 0 (serial_of n)) x) (sym z) ∙ closed_cut ts opening 0 j n shut l (low_then j l n i o))

  value_then : (j : ℕ) → j ≤ length ts → (n : Node) → In n (grow_all ts opening).nodes → closed_from ts opening 0 (serial_of n) ≤ j → value (tree_at ts j) n ≡ value (grow_all ts opening) n
  value_then j l n i q =
      let o : opened_from ts opening 0 (serial_of n) ≤ j = let h = opened_first ts opening 0 (serial_of n) in omega arith in
      sym (ap (λ (z : Tree). value z n) (split_at j ts opening)
      ∙ value_on (drop j ts) (tree_at ts j) n (low_then j l n i o) (closed_then j l n i o ∙ le-leb (closed_from ts opening 0 (serial_of n)) j q))

  pub the_clock : IsClock (clock_of ts) ts (grow_all ts opening) (length ts)
  the_clock = record {
    grown = w;
    shut = shut;
    nodes = nodes_then;
    closed = closed_then;
    rises = λ a b i j l. opened_rises ts opening 0 (serial_of a) (serial_of b) l;
    inside = λ n m i j h. (opened_first ts opening 0 (serial_of m), closed_inside ts opening 0 Grown-opening n m j h);
    value = value_then;
  }

pub clock_of_tokens : ClockOfTokens
clock_of_tokens ts shut = the_clock ts shut
