-- The searches from the last row back.
use Rattle.std.proofs.Common.{◌≡◌, ◌==◌, ℕ, zero, suc, ◌<◌, ◌≤◌, Bool, true, false, cond, List, [], ◌∷◌, refl, sym, ◌∙◌, ap, subst, inl, inr, arith, Some, None, Option, ltb, length}
use Rattle.std.specs.List.{filter}
use Rattle.std.specs.Prelude.{MatchOption, option_map, IsSome}
use Rattle.std.proofs.lemmas.Bool.{ltb-true, ltb-false, true≢false, false≢true, cases_Bool, eqb-true, eq-eqb, cases_lt}
use Rattle.node_store.specs.declared.store.Place.{Place}
use Rattle.std.specs.FinMap.{get}
use Rattle.gcx_base.specs.declared.steps.Axis.{Axis}
use Rattle.gcx_base.specs.declared.steps.Axis.TheVariants.{Child, Descendant}
use Rattle.gcx_base.specs.declared.steps.Test.{Test}
use Rattle.gcx_base.specs.declared.steps.Step.{Step}
use Rattle.gcx_base.specs.Tests.{passes}
use Rattle.tree_laws.proofs.Lists.{In}
use Rattle.node_store.specs.Rows.{StoreRow, parent_of, prev_of, last_of, children_in}
use Rattle.buf_tree.specs.Row.{Row}
use Rattle.buf_tree.specs.Shape.{Store, Cell, num, cells, at_place, Shaped}
use Rattle.buf_tree.specs.Walk.{Nested, Inside, Deeper, IsLast, JustBefore, BeforeIn, Found, Back, serial_in, low_at, rows_behind}
use Rattle.buf_tree.specs.Match.{IsChild, Lies, Unreached, FirstReached}
use Rattle.buf_tree.proofs.Shaping.{get_of, at_place_is, rising_same}
use Rattle.buf_tree.proofs.Kin.{in_store, row_of_place, last_kid, no_last_kid, prev_kid, no_prev_kid, parent_row, no_parent}
use Rattle.buf_tree.proofs.Lines.{deeper_start, deeper_on, last_end, before_sibling, before_first, rises_inside, inside_rises}

module _ (m : Store) (s : Shaped m) where
  abbrev xs : List Cell
  xs = cells m

  pub same_place : (c d : Cell) (p : ℕ) → In c xs → In d xs → c.place ≡ p → d.place ≡ p → c ≡ d
  same_place c d p i j e f = s.apart c d i j (e ∙ sym f)

  pub cell_row : (c : Cell) → In c xs → (p : ℕ) → c.place ≡ p → (r : Row) → option_map (λ (e : StoreRow Row). e.payload) (get m p) ≡ Some r → c.row ≡ r
  cell_row c i p e r h =
      let same : Some c.row ≡ Some r = sym (ap (option_map (λ (x : StoreRow Row). x.payload)) (get_of m xs s c i)) ∙ ap (λ k. option_map (λ (x : StoreRow Row). x.payload) (get m k)) e ∙ h in
      cc

  pub serial_at_place : (c : Cell) → In c xs → (p : ℕ) → c.place ≡ p → serial_in xs (at_place p xs) ≡ num c
  serial_at_place c i p e = ap (serial_in xs) (ap (λ k. at_place k xs) (sym e) ∙ at_place_is xs s.apart c i)

  pub used_there : (c : Cell) → In c xs → (p : ℕ) → c.place ≡ p → IsSome (get m p)
  used_there c i p e = subst (λ k. IsSome (get m k)) e (in_store m xs s c i)

  -- children, from the last one back
  pub last_child : (c : Cell) → In c xs → (p : ℕ) → c.place ≡ p → (o : Option ℕ) → o ≡ last_of (children_in (get m p)) → (k : ℕ) × BeforeIn xs (IsChild c) k o × ((x : Cell) → In x xs → IsChild c x → k ≤ num x → ⊥)
  last_child c i p e None h = (suc (num c), (λ x j k l. no_last_kid m xs s c i (sym (h ∙ ap (λ q. last_of (children_in (get m q))) (sym e))) x j k), (λ x j k l. no_last_kid m xs s c i (sym (h ∙ ap (λ q. last_of (children_in (get m q))) (sym e))) x j k))
  last_child c i p e (Some q) h =
      let r = last_kid m xs s c i q (sym (h ∙ ap (λ z. last_of (children_in (get m z))) (sym e))) in
      (suc (num r.0), (r.0, r.1, r.3, r.2, omega arith, λ x j k l. r.4 x j k), λ x j k l. let b = r.4 x j k in omega arith)

  pub prev_child : (c h : Cell) → In c xs → In h xs → IsChild c h → (p : ℕ) → h.place ≡ p → (o : Option ℕ) → o ≡ prev_of m p → BeforeIn xs (IsChild c) (num h) o
  prev_child c h i j k p e None f = λ x t y l. no_prev_kid m xs s h c j i k (sym (f ∙ ap (prev_of m) (sym e))) x t y l
  prev_child c h i j k p e (Some q) f =
      let r = prev_kid m xs s h j q (sym (f ∙ ap (prev_of m) (sym e))) in
      let is : r.0 ≡ c = rising_same xs s.rising r.0 c r.1 i (sym r.2.0 ∙ k.0) in
      let z = r.3 in
      (z.0, z.1, z.3, subst (λ (y : Cell). IsChild y z.0) is z.2, z.4, λ x t y l. z.5 x t (subst (λ (w : Cell). IsChild w x) (sym is) y) l)

-- fewer rows are behind a later row
pub fewer : (p q : Cell → Bool) (zs : List Cell) → ((d : Cell) → p d ≡ true → q d ≡ true) → length (filter p zs) ≤ length (filter q zs)
fewer p q [] h = omega arith
fewer p q (z ∷ zs) h = go (p z) (q z) refl refl (fewer p q zs h)
  where
    go : (a b : Bool) → p z ≡ a → q z ≡ b → length (filter p zs) ≤ length (filter q zs) → length (cond a (z ∷ filter p zs) (filter p zs)) ≤ length (cond b (z ∷ filter q zs) (filter q zs))
    go true true e f k = omega arith
    go true false e f k = absurd (true≢false (sym (h z e) ∙ f))
    go false true e f k = omega arith
    go false false e f k = k

less_by : (p q : Cell → Bool) (zs : List Cell) → ((d : Cell) → p d ≡ true → q d ≡ true) → (b : Cell) → In b zs → p b ≡ false → q b ≡ true → length (filter p zs) < length (filter q zs)
less_by p q [] h b i e f = absurd i
less_by p q (z ∷ zs) h b i e f = go (p z) (q z) refl refl (fewer p q zs h) i (λ j. less_by p q zs h b j e f)
  where
    go : (x y : Bool) → p z ≡ x → q z ≡ y → length (filter p zs) ≤ length (filter q zs) → In b (z ∷ zs) → (In b zs → length (filter p zs) < length (filter q zs)) → length (cond x (z ∷ filter p zs) (filter p zs)) < length (cond y (z ∷ filter q zs) (filter q zs))
    go true true g k l (inl w) ih = absurd (true≢false (sym g ∙ ap p w ∙ e))
    go true true g k l (inr w) ih = let n = ih w in omega arith
    go true false g k l w ih = absurd (true≢false (sym (h z g) ∙ k))
    go false true g k l w ih = omega arith
    go false false g k l (inl w) ih = absurd (true≢false (sym f ∙ sym (ap q w) ∙ k))
    go false false g k l (inr w) ih = ih w

pub rows_fewer : (zs : List Cell) (a b : ℕ) (c : Cell) → In c zs → num c ≡ b → a < b → rows_behind zs b < rows_behind zs a
rows_fewer zs a b c i e l =
    less_by (λ d. ltb b (num d)) (λ d. ltb a (num d)) zs (λ d h. let z = ltb-true b (num d) h in lt_true a (num d) (omega arith)) c i (lt_false b (num c) (omega arith)) (lt_true a (num c) (omega arith))
  where
    lt_true : (x y : ℕ) → x < y → ltb x y ≡ true
    lt_true x y h = elim (cases_Bool (ltb x y)) [ inl e ↦ e | inr e ↦ (let z = ltb-false x y e in absurd (omega arith)) ]

    lt_false : (x y : ℕ) → y ≤ x → ltb x y ≡ false
    lt_false x y h = elim (cases_Bool (ltb x y)) [ inl e ↦ (let z = ltb-true x y e in absurd (omega arith)) | inr e ↦ e ]

-- ---- walks back

-- on the way down by last children
abbrev pub Downs : Store → ℕ → ℕ → Type 0
Downs m top at = (c : Cell) → In c (cells m) → c.place ≡ top → (t : Cell) × In t (cells m) × (t.place ≡ at) × Deeper (cells m) c t

module _ (m : Store) (s : Shaped m) (nest : Nested (cells m)) where
  pub downs_start : (top : ℕ) → Downs m top top
  downs_start top c i e = (c, i, e, deeper_start (cells m) s.rising nest s.up c)

  pub downs_cell : (top at : ℕ) → IsSome (get m top) → Downs m top at → (t : Cell) × In t (cells m) × (t.place ≡ at)
  downs_cell top at h d = let c = row_of_place m (cells m) s top h in let t = d c.0 c.1 c.2 in (t.0, t.1, t.2)

  pub downs_on : (top at p : ℕ) → Downs m top at → last_of (children_in (get m at)) ≡ Some p → Downs m top p
  downs_on top at p d h c i e =
      let t = d c i e in
      let l = last_kid m (cells m) s t.0 t.1 p (ap (λ z. last_of (children_in (get m z))) t.2 ∙ h) in
      (l.0, l.1, l.3, deeper_on (cells m) s.rising nest s.up c t.0 l.0 t.1 l.1 t.3 l.2 l.4)

  pub downs_less : (at p : ℕ) (t : Cell) → In t (cells m) → t.place ≡ at → last_of (children_in (get m at)) ≡ Some p → rows_behind (cells m) (serial_in (cells m) (at_place p (cells m))) < rows_behind (cells m) (serial_in (cells m) (at_place at (cells m)))
  downs_less at p t i e h =
      let l = last_kid m (cells m) s t i p (ap (λ z. last_of (children_in (get m z))) e ∙ h) in
      rows_fewer (cells m) _ _ l.0 l.1 (sym (serial_at_place m s l.0 l.1 p l.3)) (let a = serial_at_place m s l.0 l.1 p l.3 in let b = serial_at_place m s t i at e in let k = l.2.1 in omega arith)

  pub downs_end : (top at : ℕ) → Downs m top at → last_of (children_in (get m at)) ≡ None → (c : Cell) → In c (cells m) → c.place ≡ top → (t : Cell) × In t (cells m) × (t.place ≡ at) × IsLast (cells m) c t
  downs_end top at d h c i e =
      let t = d c i e in
      (t.0, t.1, t.2, last_end (cells m) s.rising nest s.up c t.0 t.1 t.3 (no_last_kid m (cells m) s t.0 t.1 (ap (λ z. last_of (children_in (get m z))) t.2 ∙ h)))

  -- behind the subtree of the sibling before
  pub sibling_before : (p q r : ℕ) → prev_of m p ≡ Some q → ((c : Cell) → In c (cells m) → c.place ≡ q → (t : Cell) × In t (cells m) × (t.place ≡ r) × IsLast (cells m) c t)
      → (h : Cell) → In h (cells m) → h.place ≡ p → (t : Cell) × In t (cells m) × (t.place ≡ r) × JustBefore (cells m) t h
  sibling_before p q r f last h i e =
      let k = prev_kid m (cells m) s h i q (ap (prev_of m) e ∙ f) in
      let b = k.3 in
      let t = last b.0 b.1 b.3 in
      (t.0, t.1, t.2, before_sibling (cells m) s.rising nest s.up k.0 h b.0 t.0 k.1 i b.1 t.1 k.2 b.2 b.4 b.5 t.3)

  -- or the parent
  pub parent_before : (p : ℕ) (o : Option Place) → prev_of m p ≡ None → option_map (λ (q : Place). q.0) o ≡ parent_of m p → (h : Cell) → In h (cells m) → h.place ≡ p
      → MatchOption o (num h ≡ 0) (λ q. (t : Cell) × In t (cells m) × (t.place ≡ q.0) × JustBefore (cells m) t h)
  parent_before p None f g h i e = no_parent m (cells m) s h i (ap (parent_of m) e ∙ sym g)
  parent_before p (Some q) f g h i e =
      let k = parent_row m (cells m) s h i q.0 (ap (parent_of m) e ∙ sym g) in
      (k.0, k.1, k.3, before_first (cells m) s.rising nest s.up k.0 h k.1 i k.2 (no_prev_kid m (cells m) s h k.0 i k.1 k.2 (ap (prev_of m) e ∙ f)))

-- ---- a search from the last row back, over some of the rows

module _ (xs : List Cell) (R : Cell → Type 0) (t : Test) (bound : ℕ) (same : (a b : Cell) → In a xs → In b xs → num a ≡ num b → a ≡ b) where
  pub back_start : (k : ℕ) (o : Option ℕ) → BeforeIn xs R k o → ((x : Cell) → In x xs → R x → k ≤ num x → ⊥) → Back xs R t bound o None
  back_start k o b none = (k, b, λ x i r l p. none x i r l)

  pub back_on : (p : ℕ) (found : Option ℕ) (b : Back xs R t bound (Some p) found) → bound < num b.1.0 → (o : Option ℕ) → BeforeIn xs R (num b.1.0) o → Back xs R t bound o (cond (passes t b.1.0.row.kind) (Some p) found)
  back_on p found b l o next = (num b.1.0, next, pick (passes t b.1.0.row.kind) refl found b.2)
    where
      h : Cell
      h = b.1.0

      pick : (yes : Bool) → passes t b.1.0.row.kind ≡ yes → (f : Option ℕ) → Found xs R t bound b.0 f → Found xs R t bound (num b.1.0) (cond yes (Some p) f)
      pick true e f g = (b.1.0, b.1.1, b.1.2, b.1.3, e, l, omega arith, λ x i r k q. k)
      pick false e None g = λ x i r k q. elim (cases_lt (num x) b.0) [
        | inl lo ↦ (
            let z = b.1.5 x i r lo in
            let is : x ≡ b.1.0 = same x b.1.0 i b.1.1 (omega arith) in
            absurd (false≢true (sym e ∙ ap (λ (y : Cell). passes t y.row.kind) (sym is) ∙ q)))
        | inr hi ↦ g x i r hi q
      ]
      pick false e (Some q) g = (
        g.0,
        g.1,
        g.2,
        g.3,
        g.4,
        g.5,
        (let a = b.1.4 in let z = g.6 in omega arith),
        λ x i r k v. elim (cases_lt (num x) b.0) [
          | inl lo ↦ (
              let z = b.1.5 x i r lo in
              let is : x ≡ b.1.0 = same x b.1.0 i b.1.1 (omega arith) in
              absurd (false≢true (sym e ∙ ap (λ (y : Cell). passes t y.row.kind) (sym is) ∙ v)))
          | inr hi ↦ g.7 x i r hi v
        ],
      )

-- what is found in the end
abbrev pub Answer : List Cell → (Cell → Type 0) → Test → ℕ → Option ℕ → Type 0
Answer xs R t bound None = (x : Cell) → In x xs → R x → bound < num x → passes t x.row.kind ≡ true → ⊥
Answer xs R t bound (Some p) = (d : Cell) × In d xs × (d.place ≡ p) × R d × (passes t d.row.kind ≡ true) × (bound < num d) × ((x : Cell) → In x xs → R x → bound < num x → passes t x.row.kind ≡ true → num d ≤ num x)

module _ (xs : List Cell) (R : Cell → Type 0) (t : Test) (bound : ℕ) where
  found_all : (edge : ℕ) (f : Option ℕ) → Found xs R t bound edge f → ((x : Cell) → In x xs → R x → bound < num x → edge ≤ num x) → Answer xs R t bound f
  found_all edge None g all = λ x i r l p. g x i r (all x i r l) p
  found_all edge (Some q) g all = (g.0, g.1, g.2, g.3, g.4, g.5, λ x i r l p. g.7 x i r (all x i r l) p)

  -- no row is left,
  pub back_end : (f : Option ℕ) → Back xs R t bound None f → Answer xs R t bound f
  back_end f b = found_all b.0 f b.2 (λ x i r l. elim (cases_lt (num x) b.0) [ inl lo ↦ absurd (b.1 x i r lo) | inr hi ↦ hi ])

  -- or the next one isn't above the bound
  pub back_stop : (p : ℕ) (f : Option ℕ) → (b : Back xs R t bound (Some p) f) → num b.1.0 ≤ bound → Answer xs R t bound f
  back_stop p f b low = found_all b.0 f b.2 (λ x i r l. elim (cases_lt (num x) b.0) [ inl lo ↦ (let z = b.1.5 x i r lo in absurd (omega arith)) | inr hi ↦ hi ])

-- ---- in the words of the clauses

module _ (xs : List Cell) (c : Cell) (s : Step) (bound : ℕ) (R : Cell → Type 0) (to : (d : Cell) → In d xs → R d → Lies xs s.axis c d) (from : (d : Cell) → In d xs → Lies xs s.axis c d → R d) where
  pub unreached : Answer xs R s.test bound None → Unreached xs c s bound
  unreached a = record { none = λ d r. a d r.among (from d r.among r.axis) r.behind r.passed }

  pub first_reached : (p : ℕ) → Answer xs R s.test bound (Some p) → FirstReached xs c s bound p
  first_reached p a = record {
    cell = a.0;
    reached = record { among = a.1; axis = to a.0 a.1 a.3; passed = a.4; behind = a.5 };
    place = a.2;
    least = λ d r. a.6 d r.among (from d r.among r.axis) r.behind r.passed;
  }

  pub answered : (o : Option Place) → Answer xs R s.test bound (option_map (λ (p : Place). p.0) o) → MatchOption o (Unreached xs c s bound) (λ p. FirstReached xs c s bound p.0)
  answered None a = unreached a
  answered (Some p) a = first_reached p.0 a

pub lies_child : (xs : List Cell) (axis : Axis) (c d : Cell) → axis ≡ Child → IsChild c d → Lies xs axis c d
lies_child xs axis c d e k = subst (λ a. Lies xs a c d) (sym e) k

pub child_lies : (xs : List Cell) (axis : Axis) (c d : Cell) → axis ≡ Child → Lies xs axis c d → IsChild c d
child_lies xs axis c d e k = subst (λ a. Lies xs a c d) e k

pub lies_below : (m : Store) → Shaped m → Nested (cells m) → (axis : Axis) (c d : Cell) → axis ≡ Descendant → In c (cells m) → In d (cells m) → Inside (cells m) c d → Lies (cells m) axis c d
lies_below m s n axis c d e i j k = subst (λ a. Lies (cells m) a c d) (sym e) (inside_rises (cells m) s.rising n s.up (num d) c d i j (omega arith) k)

pub below_lies : (m : Store) → Shaped m → Nested (cells m) → (axis : Axis) (c d : Cell) → axis ≡ Descendant → In c (cells m) → In d (cells m) → Lies (cells m) axis c d → Inside (cells m) c d
below_lies m s n axis c d e i j k =
    let r : Lies (cells m) Descendant c d = subst (λ a. Lies (cells m) a c d) e k in
    rises_inside (cells m) s.rising n s.up r.0 c d i j r.1

module _ (m : Store) (s : Shaped m) where
  pub low_less : (R : Cell → Type 0) (h : Cell) → In h (cells m) → (p : ℕ) → h.place ≡ p → (o : Option ℕ) → BeforeIn (cells m) R (num h) o → low_at (cells m) o < low_at (cells m) (Some p)
  low_less R h i p e None b = omega arith
  low_less R h i p e (Some q) b = let x = serial_at_place m s h i p e in let y = serial_at_place m s b.0 b.1 q b.2 in let z = b.4 in omega arith

  -- the last row below, from that of the subtree
  pub none_below : (n : Nested (cells m)) (top last : ℕ) → (last == top) ≡ true → ((c : Cell) → In c (cells m) → c.place ≡ top → (t : Cell) × In t (cells m) × (t.place ≡ last) × IsLast (cells m) c t)
      → (c : Cell) → In c (cells m) → c.place ≡ top → (x : Cell) → In x (cells m) → Inside (cells m) c x → ⊥
  none_below n top last f l c i e x j k =
      let t = l c i e in
      let is : t.0 ≡ c = same_place m s t.0 c top t.1 i (t.2 ∙ eqb-true last top f) e in
      let a = ap num is in
      let b = t.3.rest x j k in
      let d = k.behind in
      omega arith

  pub last_inside : (n : Nested (cells m)) (top last : ℕ) → (last == top) ≡ false → ((c : Cell) → In c (cells m) → c.place ≡ top → (t : Cell) × In t (cells m) × (t.place ≡ last) × IsLast (cells m) c t)
      → (c : Cell) → In c (cells m) → c.place ≡ top → (t : Cell) × In t (cells m) × (t.place ≡ last) × Inside (cells m) c t × ((x : Cell) → In x (cells m) → Inside (cells m) c x → num x ≤ num t)
  last_inside n top last f l c i e =
      let t = l c i e in (
        t.0,
        t.1,
        t.2,
        elim t.3.here [
          | inl g ↦ absurd (false≢true (sym f ∙ eq-eqb last top (sym t.2 ∙ ap (λ (x : Cell). x.place) (sym g) ∙ e)))
          | inr g ↦ g
        ],
        t.3.rest,
      )

  pub below_start : (c : Cell) → In c (cells m) → (o : Option Place)
      → MatchOption o ((x : Cell) → In x (cells m) → Inside (cells m) c x → ⊥) (λ p. (t : Cell) × In t (cells m) × (t.place ≡ p.0) × Inside (cells m) c t × ((x : Cell) → In x (cells m) → Inside (cells m) c x → num x ≤ num t))
      → (k : ℕ) × BeforeIn (cells m) (Inside (cells m) c) k (option_map (λ (p : Place). p.0) o) × ((x : Cell) → In x (cells m) → Inside (cells m) c x → k ≤ num x → ⊥)
  below_start c i None h = (zero, (λ x j k l. h x j k), (λ x j k l. h x j k))
  below_start c i (Some p) h = (suc (num h.0), (h.0, h.1, h.2, h.3, omega arith, λ x j k l. h.4 x j k), λ x j k l. let b = h.4 x j k in omega arith)

  -- the row before one that lies below c
  pub root_before : (c h : Cell) → In c (cells m) → In h (cells m) → Inside (cells m) c h → num h ≡ 0 → BeforeIn (cells m) (Inside (cells m) c) (num h) None
  root_before c h i j k z = let b = k.behind in absurd (omega arith)

  pub top_before : (c h t : Cell) → In c (cells m) → JustBefore (cells m) t h → c ≡ t → BeforeIn (cells m) (Inside (cells m) c) (num h) None
  top_before c h t i b e x j k l = let a = b.none x j l in let d = k.behind in let f = ap num e in omega arith

  pub row_before : (c h t : Cell) (p : ℕ) → In c (cells m) → In t (cells m) → t.place ≡ p → Inside (cells m) c h → JustBefore (cells m) t h → (c ≡ t → ⊥) → BeforeIn (cells m) (Inside (cells m) c) (num h) (Some p)
  row_before c h t p i j e k b n = (t, j, e, inner, b.low, λ x y w l. b.none x y l)
    where
      behind : num c < num t
      behind = elim (cases_lt (num c) (num t)) [
        | inl l ↦ l
        | inr l ↦ (let a = b.none c i k.behind in absurd (n (rising_same (cells m) s.rising c t i j (omega arith))))
      ]

      inner : Inside (cells m) c t
      inner = record { behind = behind; block = λ x y l o. let a = b.low in k.block x y l (omega arith) }
