-- One row less on the way up.
use Rattle.std.proofs.Common.{◌≡◌, ◌≢◌, ◌==◌, ℕ, suc, ◌+◌, ◌<◌, Bool, true, false, cond, not, ◌&&◌, ◌||◌, List, [], ◌∷◌, ◌++◌, length, map, refl, sym, ◌∙◌, ap, subst, inl, inr, ◌⊎◌, arith, Some, None, Option, append_assoc}
use Rattle.std.specs.Prelude.{option_map, option_and_then, IsSome}
use Rattle.std.proofs.lemmas.List.{append-nil}
use Rattle.std.specs.List.{filter}
use Rattle.std.specs.FinMap.{get}
use Rattle.std.proofs.lemmas.Bool.{or_cases, or_left, and_parts, and_from, false≢true, eqb-true, eq-eqb, ne_eqb, cases_eq, cases_Bool, false_from_ne_true}
use Rattle.gcx_model.specs.Paths.{any}
use Rattle.tree_laws.proofs.Lists.{In, In-append, In-filter, In-kept, filter_same}
use Rattle.node_store.specs.Rows.{StoreRow, unlinked, parent_of}
use Rattle.buf_tree.specs.Row.{Row}
use Rattle.buf_tree.specs.Shape.{Store, Cell, num, cells, CellsRise, at_serial, place_for, is_under, entry_in, Shape, Shaped, without}
use Rattle.buf_tree.specs.Rows.{IsDead, IsSpare}
use Rattle.buf_tree.specs.Purge.{is_gone, Keeps, TidyBut, Falling, Leaves, Purged, PurgedBut, Climb, Cleared}
use Rattle.buf_tree.proofs.Shaping.{at_serial_is, held_in, get_of, rising_same, cells_is}
use Rattle.buf_tree.proofs.Changes.{shape_unlinked}

pub filter-filter : {X : Type 0} (p q : X → Bool) (xs : List X) → filter p (filter q xs) ≡ filter (λ x. q x && p x) xs
filter-filter p q [] = refl
filter-filter p q (x ∷ xs) = go (q x) (p x) refl (filter-filter p q xs)
  where
    go : (a b : Bool) → p x ≡ b → filter p (filter q xs) ≡ filter (λ y. q y && p y) xs → filter p (cond a (x ∷ filter q xs) (filter q xs)) ≡ cond (a && p x) (x ∷ filter (λ y. q y && p y) xs) (filter (λ y. q y && p y) xs)
    go true true e h = rw e (ap (λ z. x ∷ z) h)
    go true false e h = rw e h
    go false b e h = h

any-push : (f : ℕ → Bool) (ks : List ℕ) (k : ℕ) → any f (ks ++ k ∷ []) ≡ (any f ks || f k)
any-push f [] k = go (f k)
  where
    go : (b : Bool) → (b || false) ≡ b
    go true = refl
    go false = refl
any-push f (j ∷ ks) k = ap (λ z. f j || z) (any-push f ks k) ∙ go (f j)
  where
    go : (b : Bool) → (b || (any f ks || f k)) ≡ ((b || any f ks) || f k)
    go true = refl
    go false = refl

Falling-push : (ks : List ℕ) (k : ℕ) → Falling ks → ((j : ℕ) → In j ks → k < j) → Falling (ks ++ k ∷ [])
Falling-push [] k f h = (λ j i. absurd i, tt)
Falling-push (l ∷ ks) k f h = (
  λ j i. elim (In-append j ks (k ∷ []) i) [
    | inl a ↦ f.0 j a
    | inr a ↦ elim a [ inl e ↦ (let m = h l (inl refl) in omega arith) | inr z ↦ absurd z ]
  ],
  Falling-push ks k f.1 (λ j i. h j (inr i)),
)

-- none has gone
pub leaves_none : (xs : List Cell) → Leaves xs xs []
leaves_none xs = record { rows = sym (all xs); dead = λ c i e. absurd (false≢true e); down = λ c d i j e u. absurd (false≢true e); falling = tt; known = λ k i. absurd i }
  where
    all : (zs : List Cell) → filter (λ c. not (is_gone [] c)) zs ≡ zs
    all [] = refl
    all (z ∷ zs) = ap (λ w. z ∷ w) (all zs)

pub starts : (xs : List Cell) (p : ℕ) → TidyBut (Some p) xs → PurgedBut (Some p) xs xs []
starts xs p t = record { leaves = leaves_none xs; tidy = t; low = λ c i e k j. absurd j }

-- nothing is left to go
pub ends_at_none : (xs ys : List Cell) (gone : List ℕ) → PurgedBut None xs ys gone → Purged xs ys gone
ends_at_none xs ys gone h = record { leaves = h.leaves; tidy = λ c i. h.tidy c i (λ e. absurd (cc)) }

-- the children of an entry are the rows under it
pub child_of : (xs : List Cell) (k q : ℕ) (qs : List ℕ) → map (λ (d : Cell). d.place) (filter (is_under k) xs) ≡ q ∷ qs → (d : Cell) × In d xs × (is_under k d ≡ true)
child_of xs k q qs e = go (filter (is_under k) xs) refl
  where
    go : (zs : List Cell) → filter (is_under k) xs ≡ zs → (d : Cell) × In d xs × (is_under k d ≡ true)
    go [] f = let bad : ◌≡◌ {A = List ℕ} [] (q ∷ qs) = sym (ap (map (λ (d : Cell). d.place)) f) ∙ e in absurd (cc)
    go (z ∷ zs) f =
        let i : In z (filter (is_under k) xs) = subst (λ (w : List Cell). In z w) (sym f) (inl refl) in
        let r = In-filter (is_under k) z xs i in
        (z, r.0, r.1)

none_under : (xs : List Cell) (k : ℕ) → map (λ (d : Cell). d.place) (filter (is_under k) xs) ≡ [] → (d : Cell) → In d xs → is_under k d ≡ false
none_under xs k e d i = false_from_ne_true _ (λ u. go (filter (is_under k) xs) refl (In-kept (is_under k) d xs i u))
  where
    go : (zs : List Cell) → filter (is_under k) xs ≡ zs → In d (filter (is_under k) xs) → ⊥
    go [] f j = subst (λ (w : List Cell). In d w) f j
    go (z ∷ zs) f j = let bad : ◌≡◌ {A = List ℕ} (z.place ∷ map (λ (d : Cell). d.place) zs) [] = sym (ap (map (λ (d : Cell). d.place)) f) ∙ e in absurd (cc)

-- a row that isn't spare is kept
pub not_spare : (m : Store) (ys : List Cell) → Shape m ys → (c : Cell) → In c ys → (e : StoreRow Row) → get m c.place ≡ Some e → (IsSpare e → ⊥) → Keeps ys c
not_spare m ys s c i e g n = go (map (λ (d : Cell). d.place) (filter (is_under (num c)) ys)) refl
  where
    entry : e ≡ entry_in ys c
    entry = (let a : Some e ≡ Some (entry_in ys c) = sym g ∙ get_of m ys s c i in cc)

    go : (qs : List ℕ) → map (λ (d : Cell). d.place) (filter (is_under (num c)) ys) ≡ qs → Keeps ys c
    go [] f = inl (λ dead. n (sym (ap (λ (x : StoreRow Row). x.payload.is_open) (sym entry)) ∙ dead.0, ap (λ (x : StoreRow Row). x.payload.roles) entry ∙ dead.1, ap (λ (x : StoreRow Row). x.payload.covered) entry ∙ dead.2, ap (λ (x : StoreRow Row). x.children) entry ∙ f))
    go (q ∷ qs) f = inr (child_of ys (num c) q qs f)

-- the row at the place is kept
pub ends_kept : (m : Store) (xs ys : List Cell) (gone : List ℕ) → Shape m ys → (p : ℕ) (e : StoreRow Row) → get m p ≡ Some e → (IsSpare e → ⊥) → PurgedBut (Some p) xs ys gone → Purged xs ys gone
ends_kept m xs ys gone s p e g n h = record {
  leaves = h.leaves;
  tidy = λ c i. elim (cases_eq p c.place) [
    | inl same ↦ not_spare m ys s c i e (ap (get m) (sym same) ∙ g) n
    | inr other ↦ h.tidy c i (λ q. other (some_is _ _ q))
  ];
}
  where
    some_is : (a b : ℕ) → Some a ≡ Some b → a ≡ b
    some_is a b q = cc

-- a spare row goes
module _ (m : Store) (ys : List Cell) (s : Shape m ys) (p : ℕ) (e : StoreRow Row) (g : get m p ≡ Some e) (spare : IsSpare e) where
  pub the : (c : Cell) × In c ys × (c.place ≡ p) × (e ≡ entry_in ys c)
  the = held_in m ys s p e g

  abbrev c0 : Cell
  c0 = the.0

  alone : (d : Cell) → In d ys → is_under (num c0) d ≡ false
  alone = none_under ys (num c0) (ap (λ (x : StoreRow Row). x.children) (sym the.3) ∙ spare.3)

  pub shape_less : Shape (unlinked m p) (without p ys)
  shape_less = subst (λ (q : ℕ). Shape (unlinked m q) (without q ys)) the.2 (shape_unlinked m ys s c0 the.1 alone)

  c0_dead : IsDead c0.row
  c0_dead = (
    ap (λ (x : StoreRow Row). x.payload.is_open) (sym the.3) ∙ spare.0,
    ap (λ (x : StoreRow Row). x.payload.roles) (sym the.3) ∙ spare.1,
    ap (λ (x : StoreRow Row). x.payload.covered) (sym the.3) ∙ spare.2,
  )

  parent_place : parent_of m p ≡ place_for ys c0.row
  parent_place = ap (option_and_then (λ (x : StoreRow Row). x.parent)) g ∙ ap (λ (x : StoreRow Row). x.parent) the.3

  -- the row above it
  above_it : (c : Cell) → In c ys → is_under (num c) c0 ≡ true → parent_of m p ≡ Some c.place
  above_it c i u =
      let a = and_parts (not (num c0 == 0)) (c0.row.parent == num c) u in
      parent_place ∙ (rw (at_serial_is ys s.rising c c0.row.parent i (sym (eqb-true _ _ a.1))) (go2 (num c0 == 0) a.0))
    where
      go2 : (b : Bool) → not b ≡ true → cond b None (Some c.place) ≡ Some c.place
      go2 false q = refl
      go2 true q = absurd (false≢true q)

  is_above : (c : Cell) → In c ys → parent_of m p ≡ Some c.place → num c < num c0
  is_above c i e = elim (s.up c0 the.1) [
    | inl z ↦ (let bad : None ≡ Some c.place = sym (ap (λ b. cond b None (option_map (λ (d : Cell). d.place) (at_serial c0.row.parent ys))) (eq-eqb (num c0) 0 z)) ∙ sym parent_place ∙ e in absurd (cc))
    | inr k ↦ (
        let u : is_under (num k.0) c0 ≡ true = and_from _ _ (ap not (ne_eqb (num c0) 0 (λ z. let l = k.3 in absurd (omega arith)))) (eq-eqb c0.row.parent (num k.0) (sym k.2)) in
        let f : Some k.0.place ≡ Some c.place = sym (above_it k.0 k.1 u) ∙ e in
        let f' : k.0.place ≡ c.place = cc in
        let is : k.0 ≡ c = s.apart k.0 c k.1 i f' in
        subst (λ (x : Cell). num x < num c0) is k.3)
  ]

  -- a row that isn't above it is kept as before
  pub keeps_less : (c : Cell) → (is_under (num c) c0 ≡ true → ⊥) → Keeps ys c → Keeps (without p ys) c
  keeps_less c n (inl alive) = inl alive
  keeps_less c n (inr d) = inr (
    d.0,
    In-kept (λ (x : Cell). not (x.place == p)) d.0 ys d.1 (ap not (ne_eqb d.0.place p (λ q.
        let is : d.0 ≡ c0 = s.apart d.0 c0 d.1 the.1 (q ∙ sym the.2) in
        n (subst (λ (x : Cell). is_under (num c) x ≡ true) is d.2)))),
    d.2,
  )

  pub up_there : (q : ℕ) → parent_of m p ≡ Some q → IsSome (get (unlinked m p) q)
  up_there q f = elim (s.up c0 the.1) [
    | inl z ↦ (let bad : None ≡ Some q = sym (ap (λ b. cond b None (option_map (λ (d : Cell). d.place) (at_serial c0.row.parent ys))) (eq-eqb (num c0) 0 z)) ∙ sym parent_place ∙ f in absurd (cc))
    | inr k ↦ (
        let u : is_under (num k.0) c0 ≡ true = and_from _ _ (ap not (ne_eqb (num c0) 0 (λ z. let l = k.3 in absurd (omega arith)))) (eq-eqb c0.row.parent (num k.0) (sym k.2)) in
        let f' : Some k.0.place ≡ Some q = sym (above_it k.0 k.1 u) ∙ f in
        let f2 : k.0.place ≡ q = cc in
        let i : In k.0 (without p ys) = In-kept (λ (x : Cell). not (x.place == p)) k.0 ys k.1 (ap not (ne_eqb k.0.place p (λ j.
        let is : k.0 ≡ c0 = s.apart k.0 c0 k.1 the.1 (j ∙ sym the.2) in
        let n = ap num is in
        let l = k.3 in
        absurd (omega arith)))) in
        let g2 : get (unlinked m p) q ≡ Some (entry_in (without p ys) k.0) = ap (get (unlinked m p)) (sym f2) ∙ get_of (unlinked m p) (without p ys) shape_less k.0 i in
        subst (λ o. IsSome o) (sym g2) refl)
  ]

  module _ (xs : List Cell) (rise : CellsRise xs) (apart : (a b : Cell) → In a xs → In b xs → a.place ≡ b.place → a ≡ b) (gone : List ℕ) (l : Leaves xs ys gone) where
    in_xs : (c : Cell) → In c ys → In c xs × (not (is_gone gone c) ≡ true)
    in_xs c i = In-filter (λ (d : Cell). not (is_gone gone d)) c xs (subst (λ (w : List Cell). In c w) l.rows i)

    in_ys : (c : Cell) → In c xs → is_gone gone c ≡ false → In c ys
    in_ys c i n = subst (λ (w : List Cell). In c w) (sym l.rows) (In-kept (λ (d : Cell). not (is_gone gone d)) c xs i (ap not n))

    abbrev gone' : List ℕ
    gone' = gone ++ num the.0 ∷ []

    -- the one that goes, told by its place or its serial
    same_test : (c : Cell) → In c xs → (c.place == p) ≡ (num c == num c0)
    same_test c i = elim (cases_eq c.place p) [
      | inl a ↦ eq-eqb c.place p a ∙ sym (eq-eqb (num c) (num c0) (ap num (apart c c0 i (in_xs c0 the.1).0 (a ∙ sym the.2))))
      | inr n ↦ ne_eqb c.place p n ∙ sym (ne_eqb (num c) (num c0) (λ a. n (ap (λ (x : Cell). x.place) (rising_same xs rise c c0 i (in_xs c0 the.1).0 a) ∙ the.2)))
    ]

    rows_less : without p ys ≡ filter (λ c. not (is_gone gone' c)) xs
    rows_less =
        ap (without p) l.rows
        ∙ filter-filter (λ (c : Cell). not (c.place == p)) (λ (c : Cell). not (is_gone gone c)) xs
        ∙ filter_same (λ (c : Cell). not (is_gone gone c) && not (c.place == p)) (λ (c : Cell). not (is_gone gone' c)) xs (λ c i.
        ap (λ b. not (is_gone gone c) && not b) (same_test c i) ∙ go (is_gone gone c) (num c == num c0) ∙ ap not (sym (any-push (λ k. num c == k) gone (num c0))))
      where
        go : (a b : Bool) → (not a && not b) ≡ not (a || b)
        go true b = refl
        go false b = refl

    gone_cases : (c : Cell) → In c xs → is_gone gone' c ≡ true → (is_gone gone c ≡ true) ⊎ (c ≡ c0)
    gone_cases c i e = elim (or_cases (is_gone gone c) (num c == num c0) (sym (any-push (λ k. num c == k) gone (num c0)) ∙ e)) [
      | inl a ↦ inl a
      | inr a ↦ inr (rising_same xs rise c c0 i (in_xs c0 the.1).0 (eqb-true _ _ a))
    ]

    gone_more : (c : Cell) → is_gone gone c ≡ true → is_gone gone' c ≡ true
    gone_more c e = any-push (λ k. num c == k) gone (num c0) ∙ or_left _ _ e

    leaves_then : ((k : ℕ) → In k gone → num c0 < k) → Leaves xs (without p ys) gone'
    leaves_then low = record {
      rows = rows_less;
      dead = λ c i e. elim (gone_cases c i e) [ inl a ↦ l.dead c i a | inr a ↦ subst (λ (x : Cell). IsDead x.row) (sym a) c0_dead ];
      down = λ c d i j e u. elim (gone_cases c i e) [
        | inl a ↦ gone_more d (l.down c d i j a u)
        | inr a ↦ elim (cases_Bool (is_gone gone d)) [
          | inl b ↦ gone_more d b
          | inr b ↦ absurd (false≢true (sym (alone d (in_ys d j b)) ∙ subst (λ (x : Cell). is_under (num x) d ≡ true) a u))
        ]
      ];
      falling = Falling-push gone (num c0) l.falling low;
      known = λ k i. elim (In-append k gone (num c0 ∷ []) i) [
        | inl a ↦ l.known k a
        | inr a ↦ elim a [ inl b ↦ (c0, (in_xs c0 the.1).0, b) | inr z ↦ absurd z ]
      ];
    }

    -- a serial more has gone
    pub leaves_less : ((k : ℕ) → In k gone → e.payload.serial < k) → Leaves xs (without p ys) (gone ++ e.payload.serial ∷ [])
    leaves_less low =
        let f = ap (λ (x : StoreRow Row). x.payload.serial) the.3 in
        subst (λ (k : ℕ). Leaves xs (without p ys) (gone ++ k ∷ [])) (sym f) (leaves_then (λ k i. let b = low k i in omega arith))

    goes : PurgedBut (Some p) xs ys gone → PurgedBut (parent_of m p) xs (without p ys) gone'
    goes h = record {
      leaves = leaves_then (h.low c0 the.1 (ap (λ z. Some z) (sym the.2)));
      tidy = λ c i n.
          let a = In-filter (λ (d : Cell). not (d.place == p)) c ys i in
          keeps_less c (λ u. n (above_it c a.0 u)) (h.tidy c a.0 (λ q. false≢true (ap not (sym (eq-eqb c.place p (sym (some_is _ _ q)))) ∙ a.1)));
      low = λ c i e k j.
          let a = In-filter (λ (d : Cell). not (d.place == p)) c ys i in
          let below = is_above c a.0 e in
          elim (In-append k gone (num c0 ∷ []) j) [
            | inl b ↦ (let o = h.low c0 the.1 (ap (λ z. Some z) (sym the.2)) k b in omega arith)
            | inr b ↦ elim b [ inl f ↦ omega arith | inr z ↦ absurd z ]
          ];
    }
      where
        some_is : (a b : ℕ) → Some a ≡ Some b → a ≡ b
        some_is a b q = cc

    pub goes_on : PurgedBut (Some p) xs ys gone → PurgedBut (parent_of m p) xs (without p ys) (gone ++ e.payload.serial ∷ [])
    goes_on h = subst (λ (k : ℕ). PurgedBut (parent_of m p) xs (without p ys) (gone ++ k ∷ [])) (sym (ap (λ (x : StoreRow Row). x.payload.serial) the.3)) (goes h)

-- one place less
pub one_less : (xs : List Cell) → CellsRise xs → ((a b : Cell) → In a xs → In b xs → a.place ≡ b.place → a ≡ b) → (c : Cell) → In c xs → length (without c.place xs) + 1 ≡ length xs
one_less [] r a c i = absurd i
one_less (x ∷ xs) r a c i = go (x.place == c.place) refl i (λ j. one_less xs r.1 (λ s t k l. a s t (inr k) (inr l)) c j)
  where
    none : (zs : List Cell) (q : ℕ) → ((z : Cell) → In z zs → z.place ≢ q) → without q zs ≡ zs
    none [] q n = refl
    none (z ∷ zs) q n = rw (ne_eqb z.place q (n z (inl refl))) (ap (λ w. z ∷ w) (none zs q (λ y j. n y (inr j))))

    go : (b : Bool) → (x.place == c.place) ≡ b → In c (x ∷ xs) → (In c xs → length (without c.place xs) + 1 ≡ length xs) → length (cond (not b) (x ∷ without c.place xs) (without c.place xs)) + 1 ≡ suc (length xs)
    go false e (inl f) ih = absurd (false≢true (sym e ∙ eq-eqb x.place c.place (ap (λ (y : Cell). y.place) f)))
    go false e (inr j) ih = let l = ih j in omega arith
    go true e j ih =
        let is : x ≡ c = a x c (inl refl) j (eqb-true _ _ e) in
        let stays : without c.place xs ≡ xs = none xs c.place (λ z k q. let l = r.0 z k in let m = ap num (a z c (inr k) j q ∙ sym is) in absurd (omega arith)) in
        omega (arith, ap length stays)

pub climb_start : (m : Store) (g : List ℕ) (p : ℕ) → Shaped m → IsSome (get m p) → TidyBut (Some p) (cells m) → Climb m m (Some p) g g
climb_start m g p s i t = record {
  shape = s;
  left = ([], sym (append-nil g), starts (cells m) p t);
  there = λ q e. subst (λ (z : ℕ). IsSome (get m z)) (some_is p q e) i;
}
  where
    some_is : (a b : ℕ) → Some a ≡ Some b → a ≡ b
    some_is a b q = cc

module _ (m : Store) (s : Shaped m) (p : ℕ) (e : StoreRow Row) (is : get m p ≡ Some e) where
  pub cells_less : IsSpare e → cells (unlinked m p) ≡ without p (cells m)
  cells_less n = cells_is (unlinked m p) (without p (cells m)) (shape_less m (cells m) s p e is n)

  pub length_less : IsSpare e → length (cells (unlinked m p)) + 1 ≡ length (cells m)
  length_less n =
      let t = the m (cells m) s p e is n in
      ap (λ (zs : List Cell). length zs + 1) (cells_less n) ∙ subst (λ (q : ℕ). length (without q (cells m)) + 1 ≡ length (cells m)) t.2 (one_less (cells m) s.rising s.apart t.0 t.1)

module _ (m0 m : Store) (g0 g : List ℕ) (p : ℕ) (e : StoreRow Row) (is : get m p ≡ Some e) (s0 : Shaped m0) (c : Climb m0 m (Some p) g0 g) where
  pub climb_step : IsSpare e → (g' : List ℕ) → g' ≡ g ++ e.payload.serial ∷ [] → Climb m0 (unlinked m p) (parent_of m p) g0 g'
  climb_step n g' f = record {
    shape = subst (λ (zs : List Cell). Shape (unlinked m p) zs) (sym (cells_less m c.shape p e is n)) (shape_less m (cells m) c.shape p e is n);
    left = (
      c.left.0 ++ e.payload.serial ∷ [],
      f ∙ ap (λ z. z ++ e.payload.serial ∷ []) c.left.1 ∙ append_assoc g0 c.left.0 (e.payload.serial ∷ []),
      subst (λ (zs : List Cell). PurgedBut (parent_of m p) (cells m0) zs (c.left.0 ++ e.payload.serial ∷ [])) (sym (cells_less m c.shape p e is n)) (goes_on m (cells m) c.shape p e is n (cells m0) s0.rising s0.apart c.left.0 c.left.2.leaves c.left.2),
    );
    there = up_there m (cells m) c.shape p e is n;
  }

  pub climb_stop : (IsSpare e → ⊥) → Cleared m0 m g0 g
  climb_stop n = record { shape = c.shape; left = (c.left.0, c.left.1, ends_kept m (cells m0) (cells m) c.left.0 c.shape p e is n c.left.2) }

pub climb_end : (m0 m : Store) (g0 g : List ℕ) → Climb m0 m None g0 g → Cleared m0 m g0 g
climb_end m0 m g0 g c = record { shape = c.shape; left = (c.left.0, c.left.1, ends_at_none (cells m0) (cells m) c.left.0 c.left.2) }

pub some_entry : (o : Option (StoreRow Row)) → IsSome o → (e : StoreRow Row) × (o ≡ Some e)
some_entry None h = absurd (false≢true h)
some_entry (Some e) h = (e, refl)

-- a purge that takes nothing out
pub cleared_none : (m : Store) (p : ℕ) (g : List ℕ) → Shaped m → IsSome (get m p) → TidyBut (Some p) (cells m) → ((e : StoreRow Row) → get m p ≡ Some e → IsSpare e → ⊥) → Cleared m m g g
cleared_none m p g s i t n = let r = some_entry (get m p) i in climb_stop m m g g p r.0 r.1 s (climb_start m g p s i t) (n r.0 r.1)

pub count_left : (a b c d e f : ℕ) → a + 1 ≡ b → c ≡ a → d ≡ e + 1 → e + b ≡ f → d + c ≡ f
count_left a b c d e f h1 h2 h3 h4 = omega arith
