-- How many pairs of a row and a role that is kept at it there are, counted row by row.
use Rattle.std.proofs.Common.{◌≡◌, ◌==◌, ◌+◌, ◌-◌, ◌^◌, ◌<◌, ◌≤◌, ℕ, zero, suc, Bool, true, false, cond, min, List, [], ◌∷◌, map, length, Option, Some, None, refl, sym, ◌∙◌, ap, subst, inl, inr, arith, ltb}
use Rattle.std.specs.Prelude.{sum, option_map, option_and_then, IsSome}
use Rattle.std.specs.List.{filter, list_any}
use Rattle.std.specs.Ordering.{nat_cmp}
use Rattle.std.specs.Cmp.{nat_cmp_total}
use Rattle.std.specs.FinSet.{len, from_list, same_set, nat_cmp-IsAntisymmetric}
use Rattle.std.proofs.lemmas.List.Sums.{sum_by-cons}
use Rattle.std.proofs.lemmas.Bool.{lt-ltb, ltb-true, false_from_ne_true, cases_lt, or_from}
use Rattle.std.proofs.lemmas.Bool.Decides.{nat_tests}
use Rattle.gcx_model.specs.Members.{count}
use Rattle.gcx_model.specs.Paths.{head}
use Rattle.gcx_model.specs.Tree.{Node}
use Rattle.gcx_model.specs.Held.{held}
use Rattle.gcx_model.specs.Past.{Past}
use Rattle.tree_laws.proofs.Lists.{In}
use Rattle.node_store.specs.Rows.{StoreRow, IsTree, parent_of}
use Rattle.role_set.proofs.Counting.{Once, len_once}
use Rattle.spread_laws.specs.Tops.{roles_kept, entries_of, is_kept_at}
use Rattle.buf_tree.specs.Row.{Row}
use Rattle.buf_tree.specs.Shape.{Store, Cell, num, cells, CellsRise, Shaped}
use Rattle.buf_tree.specs.Spread.{SpreadView, is_spread_in, seen_rows, kept_roles, capped64}
use Rattle.buf_tree.specs.Walk.{Inside, BehindIn}
use Rattle.buf_tree.proofs.Kin.{no_parent}
use Rattle.buf_tree.proofs.Lifting.{seen_is, unspread_same}
use Rattle.buf_tree.proofs.Reading.{root_is}
use Rattle.buf_tree.proofs.Spreading.{Upward, spread_cell}

abbrev pub size : Cell → ℕ
size c = len c.row.roles

-- ---- the entries of the rows before a serial

abbrev pub entries_below : ℕ → List Cell → ℕ
entries_below k [] = 0
entries_below k (c ∷ cs) = cond (ltb (num c) k) (size c) 0 + entries_below k cs

not_below : (x k : ℕ) → k ≤ x → ltb x k ≡ false
not_below x k h = false_from_ne_true _ (λ e. let l = ltb-true x k e in omega (arith, h, l))

same_below : (k j : ℕ) (cs : List Cell) → ((x : Cell) → In x cs → ltb (num x) k ≡ ltb (num x) j) → entries_below k cs ≡ entries_below j cs
same_below k j [] h = refl
same_below k j (c ∷ cs) h = let rest = same_below k j cs (λ x m. h x (inr m)) in let own = h c (inl refl) in (λ i. cond (own i) (size c) 0 + rest i)

head_more : (c : Cell) (cs : List Cell) → ((y : Cell) → In y cs → num c < num y) → entries_below (suc (num c)) (c ∷ cs) ≡ entries_below (num c) (c ∷ cs) + size c
head_more c cs up =
    let rest : entries_below (suc (num c)) cs ≡ entries_below (num c) cs =
    same_below (suc (num c)) (num c) cs (λ x m. let l = up x m in not_below (num x) (suc (num c)) (omega (arith, l)) ∙ sym (not_below (num x) (num c) (omega (arith, l)))) in
    let now : ltb (num c) (suc (num c)) ≡ true = lt-ltb (num c) (suc (num c)) (omega arith) in
    let before : ltb (num c) (num c) ≡ false = not_below (num c) (num c) (omega arith) in
    let e : size c + entries_below (num c) cs ≡ 0 + entries_below (num c) cs + size c = omega arith in
    (λ i. cond (now i) (size c) 0 + rest i) ∙ e ∙ sym (ap (λ b. cond b (size c) 0 + entries_below (num c) cs + size c) before)

-- one row more
one_more : (cs : List Cell) → CellsRise cs → (t : Cell) → In t cs → entries_below (suc (num t)) cs ≡ entries_below (num t) cs + size t
one_more [] r t i = absurd i
one_more (c ∷ cs) r t (inl e) = subst (λ (z : Cell). entries_below (suc (num z)) (c ∷ cs) ≡ entries_below (num z) (c ∷ cs) + size z) e (head_more c cs r.0)
one_more (c ∷ cs) r t (inr i) =
    let l = r.0 t i in
    let later = one_more cs r.1 t i in
    let now : ltb (num c) (suc (num t)) ≡ true = lt-ltb (num c) (suc (num t)) (omega (arith, l)) in
    let before : ltb (num c) (num t) ≡ true = lt-ltb (num c) (num t) l in
    let e : size c + (entries_below (num t) cs + size t) ≡ size c + entries_below (num t) cs + size t = omega arith in
    (λ j. cond (now j) (size c) 0 + later j) ∙ e ∙ sym (ap (λ b. cond b (size c) 0 + entries_below (num t) cs + size t) before)

all_below : (k : ℕ) (cs : List Cell) → ((x : Cell) → In x cs → num x < k) → entries_below k cs ≡ sum (map size cs)
all_below k [] h = refl
all_below k (c ∷ cs) h =
    let own = lt-ltb (num c) k (h c (inl refl)) in
    let rest = all_below k cs (λ x m. h x (inr m)) in
    let now : entries_below k (c ∷ cs) ≡ size c + sum (map size cs) = (λ i. cond (own i) (size c) 0 + rest i) in
    now ∙ sym (sum_by-cons (λ (n : ℕ). n) (size c) (map size cs))

none_below : (k : ℕ) (cs : List Cell) → ((x : Cell) → In x cs → k ≤ num x) → entries_below k cs ≡ 0
none_below k [] h = refl
none_below k (c ∷ cs) h =
    let own = not_below (num c) k (h c (inl refl)) in
    let rest = none_below k cs (λ x m. h x (inr m)) in
    (λ i. cond (own i) (size c) 0 + rest i)

-- ---- the walk

-- the rows before that at the place are counted, or all are
abbrev pub Counted : List Cell → Option ℕ → (entries : ℕ) → Type 0
Counted xs None n = n ≡ capped64 (sum (map size xs))
Counted xs (Some p) n = (t : Cell) × In t xs × (t.place ≡ p) × (n ≡ capped64 (entries_below (num t) xs))

-- all but the first row lie below it
below_root : (xs : List Cell) (c x : Cell) → num c ≡ 0 → num c < num x → Inside xs c x
below_root xs c x z l = record { behind = l; block = λ y i a b. omega (arith, z) }

pub counted_start : (xs : List Cell) (c : Cell) (p : ℕ) → In c xs → c.place ≡ p → num c ≡ 0 → Counted xs (Some p) 0
counted_start xs c p i e z = (c, i, e, sym (ap capped64 (none_below (num c) xs (λ x j. omega (arith, z)))))

capped_more : (m n s b : ℕ) → n ≡ min b m → (w : ℕ) → w ≡ min (n + min s m) m → w ≡ min (b + s) m
capped_more m n s b e w is = omega (arith, e, is)

pub counted_on : (xs : List Cell) → CellsRise xs → (c : Cell) → num c ≡ 0 → (p n : ℕ) (counted : Counted xs (Some p) n) (r : Row) → counted.0.row ≡ r
    → (w : ℕ) → w ≡ min (n + capped64 (len r.roles)) (2 ^ 64 - 1) → (o : Option ℕ) → BehindIn xs (Inside xs c) (num counted.0) o → Counted xs o w
counted_on xs rise c z p n counted r is w more o b = go o b
  where
    h : Cell
    h = counted.0

    low : num c ≤ num h
    low = omega (arith, z)

    upto : w ≡ capped64 (entries_below (suc (num h)) xs)
    upto = capped_more (2 ^ 64 - 1) n (size h) (entries_below (num h) xs) counted.3 w (more ∙ ap (λ (q : Row). min (n + capped64 (len q.roles)) (2 ^ 64 - 1)) (sym is))
        ∙ ap capped64 (sym (one_more xs rise h counted.1))

    go : (o : Option ℕ) → BehindIn xs (Inside xs c) (num h) o → Counted xs o w
    go None none = upto ∙ ap capped64 (all_below (suc (num h)) xs (λ x i. elim (cases_lt (num h) (num x)) [
      | inl l ↦ absurd (none x i (below_root xs c x z (omega (arith, low, l))) l)
      | inr l ↦ omega (arith, l)
    ]))
    go (Some q) g = (
      g.0,
      g.1,
      g.2,
      upto ∙ ap capped64 (sym (same_below (num g.0) (suc (num h)) xs (λ x i. elim (cases_lt (num h) (num x)) [
        | inl l ↦
            let least : num g.0 ≤ num x = g.5 x i (below_root xs c x z (omega (arith, low, l))) l in
            not_below (num x) (num g.0) least ∙ sym (not_below (num x) (suc (num h)) (omega (arith, l)))
        | inr l ↦
            let high = g.4 in
            lt-ltb (num x) (num g.0) (omega (arith, l, high)) ∙ sym (lt-ltb (num x) (suc (num h)) (omega (arith, l)))
      ]))),
    )

-- ---- what is counted

-- where no role is spread the rows that contracts see have what is kept
same_size : (ks : List Cell) (up : Upward [] ks) (c : Cell) → size c ≡ size (spread_cell (is_spread_in None) (seen_rows None ks) c)
same_size ks up c = ap len (same_set nat_cmp_total nat_cmp-IsAntisymmetric c.row.roles (spread_cell (is_spread_in None) (seen_rows None ks) c).row.roles (λ k. sym (unspread_same None ks up k refl c)))

map_both : {X Y : Type 0} (f : X → Y) (g : X → X) (h : (x : X) → f x ≡ f (g x)) (xs : List X) → map f xs ≡ map f (map g xs)
map_both f g h [] = refl
map_both f g h (x ∷ xs) = (λ i. h x i ∷ map_both f g h xs i)

pub sizes_seen : (ks : List Cell) → Upward [] ks → sum (map size ks) ≡ sum (map size (seen_rows None ks))
sizes_seen ks up = ap sum (map_both size (spread_cell (is_spread_in None) (seen_rows None ks)) (same_size ks up) ks ∙ ap (map size) (sym (seen_is None ks up)))

-- each number once
once_count : (p : ℕ → Bool) (j n : ℕ) → Once (filter p (count j n))
once_count p j zero = tt
once_count p j (suc n) = go (p j) (once_count p (suc j) n)
  where
    later : (x i m : ℕ) → x < i → list_any (λ k. k == x) (filter p (count i m)) ≡ false
    later x i zero l = refl
    later x i (suc m) l = step (p i) (later x (suc i) m (omega arith))
      where
        step : (b : Bool) → list_any (λ k. k == x) (filter p (count (suc i) m)) ≡ false → list_any (λ k. k == x) (cond b (i ∷ filter p (count (suc i) m)) (filter p (count (suc i) m))) ≡ false
        step true rest = let other : (i == x) ≡ false = grind (arith, nat_tests) in or_from _ _ other rest
        step false rest = rest

    go : (b : Bool) → Once (filter p (count (suc j) n)) → Once (cond b (j ∷ filter p (count (suc j) n)) (filter p (count (suc j) n)))
    go true o = (later j (suc j) n (omega arith), o)
    go false o = o

len_kept : (past : Past) (n : Node) → len (from_list {R = nat_cmp} (roles_kept past n)) ≡ length (roles_kept past n)
len_kept past n = len_once (roles_kept past n) (once_count (is_kept_at past n) 0 (length past.plan.roles))

sizes_sets : (ks : List Cell) → map size ks ≡ map len (map (λ (c : Cell). c.row.roles) ks)
sizes_sets [] = refl
sizes_sets (c ∷ cs) = ap (λ z. size c ∷ z) (sizes_sets cs)

sizes_kept : (past : Past) (ns : List Node) → map len (map (λ n. from_list {R = nat_cmp} (roles_kept past n)) ns) ≡ map (λ n. length (roles_kept past n)) ns
sizes_kept past [] = refl
sizes_kept past (n ∷ ns) = (λ i. len_kept past n i ∷ sizes_kept past ns i)

-- the rows kept of a past have its entries
pub entries_kept : (past : Past) (ks : List Cell) → map (λ (c : Cell). c.row.roles) ks ≡ map (λ n. from_list {R = nat_cmp} (roles_kept past n)) (held past.plan past.tree past.acts) → sum (map size ks) ≡ entries_of past
entries_kept past ks e = ap sum (sizes_sets ks ∙ ap (map len) e ∙ sizes_kept past (held past.plan past.tree past.acts))

-- ---- what contracts say of it

pub told_none : (s : Option SpreadView) (ks : List Cell) → Upward [] ks → s ≡ None → (n : ℕ) → n ≡ capped64 (sum (map size ks)) → n ≡ capped64 (sum (map size (seen_rows s ks)))
told_none s ks up e n is = is ∙ ap capped64 (sizes_seen ks up ∙ ap (λ z. sum (map size (seen_rows z ks))) (sym e))

pub told_spread : (s : Option SpreadView) (past : Past) (ks : List Cell) → IsSome s
    → map (λ (c : Cell). c.row.roles) ks ≡ map (λ n. from_list {R = nat_cmp} (kept_roles s past n)) (held past.plan past.tree past.acts)
    → (n : ℕ) → n ≡ capped64 (sum (map size ks)) → n ≡ capped64 (entries_of past)
told_spread None past ks some e n is = absurd (cc)
told_spread (Some s) past ks some e n is = is ∙ ap capped64 (entries_kept past ks e)

pub none_counted : (ks : List Cell) → ks ≡ [] → 0 ≡ capped64 (sum (map size ks))
none_counted ks e = ap (λ z. capped64 (sum (map size z))) (sym e)

-- ---- the first row

module _ (m : Store) (root : Option ℕ) (t : IsTree m root) (s : Shaped m) where
  pub first_num : (p : ℕ) → root ≡ Some p → (c : Cell) → In c (cells m) → c.place ≡ p → num c ≡ 0
  first_num p e c i at =
      let h = t.top p e in
      no_parent m (cells m) s c i (ap (parent_of m) at ∙ ap (option_and_then (λ (x : StoreRow Row). x.parent)) h.1 ∙ h.2)

  pub no_rows : root ≡ None → cells m ≡ []
  no_rows e = go (cells m) (sym e ∙ root_is m root t (cells m) s refl)
    where
      go : (xs : List Cell) → None ≡ option_map (λ (c : Cell). c.place) (head xs) → xs ≡ []
      go [] h = refl
      go (x ∷ xs) h = absurd (cc)
