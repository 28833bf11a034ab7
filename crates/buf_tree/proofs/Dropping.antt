-- Rows below a base that go where nothing keeps them, from the last one back.
use Rattle.std.proofs.Common.{◌≡◌, ◌==◌, ℕ, suc, ◌+◌, ◌<◌, ◌≤◌, true, false, not, List, [], ◌∷◌, ◌++◌, length, sym, ◌∙◌, ap, subst, inl, inr, ◌⊎◌, arith, Some, None, Option, append_assoc}
use Rattle.std.specs.Prelude.{option_map, IsSome, MatchOption}
use Rattle.std.specs.FinMap.{get}
use Rattle.std.proofs.lemmas.List.{append-nil}
use Rattle.std.proofs.lemmas.Bool.{and_parts, false≢true, eqb-true, eq-eqb, cases_Bool, cases_lt}
use Rattle.tree_laws.proofs.Lists.{In, In-append, In-filter, In-kept, any_in}
use Rattle.node_store.specs.declared.store.Place.{Place}
use Rattle.node_store.specs.Rows.{StoreRow, unlinked}
use Rattle.buf_tree.specs.Row.{Row}
use Rattle.buf_tree.specs.Rows.{IsSpare}
use Rattle.buf_tree.specs.Shape.{Store, Cell, num, cells, is_under, entry_in, Shape, Shaped}
use Rattle.buf_tree.specs.Purge.{is_gone, Keeps, Leaves}
use Rattle.buf_tree.specs.Recount.{Dropped}
use Rattle.buf_tree.specs.Sweep.{Shed}
use Rattle.buf_tree.specs.Walk.{Nested, Inside, Within, BeforeIn, low_at}
use Rattle.buf_tree.proofs.Shaping.{rising_same}
use Rattle.buf_tree.proofs.Purging.{leaves_none, not_spare, the, keeps_less, shape_less, leaves_less, cells_less, length_less, some_entry}
use Rattle.buf_tree.proofs.Seeking.{used_there, serial_at_place}
use Rattle.buf_tree.proofs.Sweeping.{within_low}
use Rattle.buf_tree.proofs.Sweeps.{Behind}

-- On the way back from m0 to m below the base c: of the rows from `edge` on those went that nothing keeps.
pub record Dropping (m0 m : Store) (c : Cell) (edge : ℕ) (g0 g : List ℕ) : Type 0 where
  pub left : List ℕ
  pub shape : Shaped m
  pub gone : g ≡ g0 ++ left
  pub leaves : Leaves (cells m0) (cells m) left
  pub high : (j : ℕ) → In j left → edge ≤ j
  pub kept : (d : Cell) → In d (cells m) → (edge ≤ num d) ⊎ (num d < num c) → Keeps (cells m) d

-- at the row at `at`: all from the edge on is done
pub record Drops (m0 m : Store) (place : ℕ) (at : Option ℕ) (g0 g : List ℕ) : Type 0 where
  pub base : Cell
  pub among : In base (cells m0)
  pub here : base.place ≡ place
  pub edge : ℕ
  pub drops : Dropping m0 m base edge g0 g
  pub top : num base < edge
  pub block : (x : Cell) → In x (cells m0) → num base < num x → num x < edge → Inside (cells m0) base x
  pub walk : Behind (cells m) base edge at

module _ (m0 : Store) (s0 : Shaped m0) (nest0 : Nested (cells m0)) (c : Cell) (g0 : List ℕ) where
  abbrev xs : List Cell
  xs = cells m0

  drop_start : (edge : ℕ) → ((d : Cell) → In d xs → (Within xs c d → ⊥) → Keeps xs d) → ((x : Cell) → In x xs → Within xs c x → num x < edge) → Dropping m0 m0 c edge g0 g0
  drop_start edge tidy last = record {
    left = [];
    shape = s0;
    gone = sym (append-nil g0);
    leaves = leaves_none xs;
    high = λ j i. absurd i;
    kept = λ d i b. tidy d i (λ w. elim b [
      | inl l ↦ (let a = last d i w in absurd (omega arith))
      | inr l ↦ (let a = within_low xs c d w in absurd (omega arith))
    ]);
  }

  module _ (m : Store) (edge : ℕ) (g : List ℕ) (w : Dropping m0 m c edge g0 g) where
    not_gone : (d : Cell) → num d < edge → is_gone w.left d ≡ false
    not_gone d l = elim (cases_Bool (is_gone w.left d)) [
      | inl e ↦ (
          let k = any_in (λ k. num d == k) w.left e in
          let b = w.high k.0 k.1 in
          let f = eqb-true (num d) k.0 k.2 in
          absurd (omega arith))
      | inr e ↦ e
    ]

    back : (x : Cell) → In x (cells m) → In x xs
    back x i = (In-filter (λ (d : Cell). not (is_gone w.left d)) x xs (subst (λ (zs : List Cell). In x zs) w.leaves.rows i)).0

    there : (x : Cell) → num x < edge → In x xs → In x (cells m)
    there x l i = subst (λ (zs : List Cell). In x zs) (sym w.leaves.rows) (In-kept (λ (d : Cell). not (is_gone w.left d)) x xs i (ap not (not_gone x l)))

    nested_now : Nested (cells m)
    nested_now b d i j k l = nest0 b d (back b i) (back d j) k l

    inside_now : (a b : Cell) → Inside xs a b → Inside (cells m) a b
    inside_now a b n = record { behind = n.behind; block = λ x i k l. n.block x (back x i) k l }

    -- at the row d, the last one before the edge
    module _ (d : Cell) (j : In d (cells m)) (low : num d < edge) (last : (x : Cell) → In x xs → num x < edge → num x ≤ num d) (inner : Inside xs c d) (p : ℕ) (at : d.place ≡ p) where
      d_or : (x : Cell) → In x (cells m) → num d ≤ num x → (x ≡ d) ⊎ (edge ≤ num x)
      d_or x v l = elim (cases_lt (num x) edge) [
        | inl a ↦ (let b = last x (back x v) a in inl (rising_same (cells m) w.shape.rising x d v j (omega arith)))
        | inr a ↦ inr a
      ]

      d_parent : num c ≤ d.row.parent
      d_parent = inner.block d (back d j) inner.behind (omega arith)

      stays : (e : StoreRow Row) → get m p ≡ Some e → (IsSpare e → ⊥) → Dropping m0 m c (num d) g0 g
      stays e is not_ = record {
        left = w.left;
        shape = w.shape;
        gone = w.gone;
        leaves = w.leaves;
        high = λ q v. let a = w.high q v in omega arith;
        kept = λ x v b. elim b [
          | inl l ↦ elim (d_or x v l) [
            | inl f ↦ subst (λ (z : Cell). Keeps (cells m) z) (sym f) (not_spare m (cells m) w.shape d j e (ap (get m) at ∙ is) not_)
            | inr f ↦ w.kept x v (inl f)
          ]
          | inr l ↦ w.kept x v (inr l)
        ];
      }

      goes : (e : StoreRow Row) → get m p ≡ Some e → IsSpare e → Dropping m0 (unlinked m p) c (num d) g0 (g ++ e.payload.serial ∷ [])
      goes e is spare = record {
        left = w.left ++ e.payload.serial ∷ [];
        shape = subst (λ (zs : List Cell). Shape (unlinked m p) zs) (sym (cells_less m w.shape p e is spare)) (shape_less m (cells m) w.shape p e is spare);
        gone = ap (λ z. z ++ e.payload.serial ∷ []) w.gone ∙ append_assoc g0 w.left (e.payload.serial ∷ []);
        leaves = subst (λ (zs : List Cell). Leaves xs zs (w.left ++ e.payload.serial ∷ [])) (sym (cells_less m w.shape p e is spare))
            (leaves_less m (cells m) w.shape p e is spare xs s0.rising s0.apart w.left w.leaves (λ q v. let a = w.high q v in let f = serial in omega arith));
        high = λ q v. elim (In-append q w.left (e.payload.serial ∷ []) v) [
          | inl b ↦ (let a = w.high q b in omega arith)
          | inr b ↦ elim b [ inl f ↦ (let y = serial in omega arith) | inr z ↦ absurd z ]
        ];
        kept = λ x v b.
            let y = In-filter (λ (z : Cell). not (z.place == p)) x (cells m) (subst (λ (zs : List Cell). In x zs) (cells_less m w.shape p e is spare) v) in
            subst (λ (zs : List Cell). Keeps zs x) (sym (cells_less m w.shape p e is spare))
            (keeps_less m (cells m) w.shape p e is spare x (above x y.0 b) (w.kept x y.0 (elim b [
              | inl l ↦ elim (d_or x y.0 l) [ inl f ↦ absurd (false≢true (ap not (sym (eq-eqb x.place p (ap (λ (z : Cell). z.place) f ∙ at))) ∙ y.1)) | inr f ↦ inl f ]
              | inr l ↦ inr l
            ])));
      }
        where
          row : (z : Cell) × In z (cells m) × (z.place ≡ p) × (e ≡ entry_in (cells m) z)
          row = the m (cells m) w.shape p e is spare

          row_is : row.0 ≡ d
          row_is = w.shape.apart row.0 d row.1 j (row.2 ∙ sym at)

          serial : e.payload.serial ≡ num d
          serial = ap (λ (x : StoreRow Row). x.payload.serial) row.3 ∙ ap num row_is

          above : (x : Cell) → In x (cells m) → (num d ≤ num x) ⊎ (num x < num c) → is_under (num x) row.0 ≡ true → ⊥
          above x v b u =
              let f = eqb-true _ _ (and_parts (not (num row.0 == 0)) (row.0.row.parent == num x) u).1 in
              let e = ap (λ (z : Cell). z.row.parent) row_is in
              let q = d_parent in
              let o = inner.behind in
              elim b [
                | inl l ↦ elim (w.shape.up d j) [ inl z ↦ omega arith | inr z ↦ (let y = z.2 in let t = z.3 in omega arith) ]
                | inr l ↦ omega arith
              ]

      shed : (e : StoreRow Row) → get m p ≡ Some e → (m' : Store) (g' : List ℕ) (len0 len : ℕ) → Shed e m m' p g g' len0 len → Dropping m0 m' c (num d) g0 g'
      shed e is m' g' len0 len (inl s) = subst (λ (z : Store). Dropping m0 z c (num d) g0 g') (sym s.1) (subst (λ (z : List ℕ). Dropping m0 (unlinked m p) c (num d) g0 z) (sym s.2) (goes e is s.0))
      shed e is m' g' len0 len (inr s) = subst (λ (z : Store). Dropping m0 z c (num d) g0 g') (sym s.1) (subst (λ (z : List ℕ). Dropping m0 m c (num d) g0 z) (sym s.2) (stays e is s.0))

-- a row went, or none
shed_count : (e : StoreRow Row) (m m' : Store) (p : ℕ) (g g' : List ℕ) (len0 len : ℕ) → Shaped m → get m p ≡ Some e → Shed e m m' p g g' len0 len → len + length (cells m') ≡ len0 + length (cells m)
shed_count e m m' p g g' len0 len s is (inl h) = let a = length_less m s p e is h.0 in let b = ap (λ (z : Store). length (cells z)) h.1 in let c = h.3 in omega arith
shed_count e m m' p g g' len0 len s is (inr h) = let b = ap (λ (z : Store). length (cells z)) h.1 in let c = h.3 in omega arith

module _ (m0 : Store) (s0 : Shaped m0) (nest0 : Nested (cells m0)) (place : ℕ) (g0 : List ℕ) where
  pub drops_start : ((c d : Cell) → In c (cells m0) → c.place ≡ place → In d (cells m0) → (Within (cells m0) c d → ⊥) → Keeps (cells m0) d) → (c : Cell) → In c (cells m0) → c.place ≡ place → (o : Option Place)
      → MatchOption o ((x : Cell) → In x (cells m0) → Inside (cells m0) c x → ⊥) (λ p. (t : Cell) × In t (cells m0) × (t.place ≡ p.0) × Inside (cells m0) c t × ((x : Cell) → In x (cells m0) → Inside (cells m0) c x → num x ≤ num t))
      → Drops m0 m0 place (option_map (λ (p : Place). p.0) o) g0 g0
  drops_start tidy c i e None h = record {
    base = c;
    among = i;
    here = e;
    edge = suc (num c);
    drops = drop_start m0 s0 nest0 c g0 (suc (num c)) (λ d j n. tidy c d i e j n) (λ x j b. elim b [ inl f ↦ (let y = ap num f in omega arith) | inr f ↦ absurd (h x j f) ]);
    top = omega arith;
    block = λ x j l b. absurd (omega arith);
    walk = λ x j l b. omega arith;
  }
  drops_start tidy c i e (Some p) h = record {
    base = c;
    among = i;
    here = e;
    edge = suc (num h.0);
    drops = drop_start m0 s0 nest0 c g0 (suc (num h.0)) (λ d j n. tidy c d i e j n) (λ x j b. elim b [ inl f ↦ (let y = ap num f in let z = h.3.behind in omega arith) | inr f ↦ (let z = h.4 x j f in omega arith) ]);
    top = (let z = h.3.behind in omega arith);
    block = λ x j l b. record { behind = l; block = λ y v a q. h.3.block y v a (omega arith) };
    walk = (h.0, h.1, h.2, h.3.behind, omega arith, λ x j l b. omega arith);
  }

  module _ (m : Store) (g : List ℕ) where
    pub drops_nested : (o : Option ℕ) → Drops m0 m place o g0 g → Nested (cells m)
    drops_nested o s = nested_now m0 s0 nest0 s.base g0 m s.edge g s.drops

    pub drops_used : (p : ℕ) → Drops m0 m place (Some p) g0 g → IsSome (get m p)
    drops_used p s = used_there m s.drops.shape s.walk.0 s.walk.1 p s.walk.2

    pub drops_shaped : (o : Option ℕ) → Drops m0 m place o g0 g → Shaped m
    drops_shaped o s = s.drops.shape

    -- at a row below the base
    module _ (p : ℕ) (s : Drops m0 m place (Some p) g0 g) where
      abbrev h : Cell
      h = s.walk.0

      i0 : In h (cells m0)
      i0 = back m0 s0 nest0 s.base g0 m s.edge g s.drops h s.walk.1

      inner : Inside (cells m0) s.base h
      inner = s.block h i0 s.walk.3 s.walk.4

      last : (x : Cell) → In x (cells m0) → num x < s.edge → num x ≤ num h
      last x i l = elim (cases_lt (num s.base) (num x)) [
        | inl b ↦ s.walk.5 x (there m0 s0 nest0 s.base g0 m s.edge g s.drops x l i) b l
        | inr b ↦ (let a = s.walk.3 in omega arith)
      ]

      block : (x : Cell) → In x (cells m0) → num s.base < num x → num x < num h → Inside (cells m0) s.base x
      block x i l b = let a = s.walk.4 in s.block x i l (omega arith)

      -- it may go, and the row before it is next
      module _ (m2 : Store) (g2 : List ℕ) (len0 len : ℕ) (sheds : (e : StoreRow Row) → get m p ≡ Some e → Shed e m m2 p g g2 len0 len) where
        entry : (e : StoreRow Row) × (get m p ≡ Some e)
        entry = some_entry (get m p) (drops_used p s)

        after : Dropping m0 m2 s.base (num h) g0 g2
        after = shed m0 s0 nest0 s.base g0 m s.edge g s.drops h s.walk.1 s.walk.4 last inner p s.walk.2 entry.0 entry.1 m2 g2 len0 len (sheds entry.0 entry.1)

        -- a row of m2 behind the base and before h is one of m, and lies below the base
        is_inside : (x : Cell) → In x (cells m2) → num s.base < num x → num x < num h → In x (cells m) × Inside (cells m) s.base x
        is_inside x i l b =
            let j = back m0 s0 nest0 s.base g0 m2 (num h) g2 after x i in
            let a = s.walk.4 in
            (there m0 s0 nest0 s.base g0 m s.edge g s.drops x (omega arith) j, inside_now m0 s0 nest0 s.base g0 m s.edge g s.drops s.base x (block x j l b))

        next : (o : Option ℕ) → BeforeIn (cells m) (Inside (cells m) s.base) (num h) o → Behind (cells m2) s.base (num h) o
        next None b = λ x i l k. let y = is_inside x i l k in b x y.0 y.1 k
        next (Some q) b = (
          b.0,
          there m0 s0 nest0 s.base g0 m2 (num h) g2 after b.0 b.4 (back m0 s0 nest0 s.base g0 m s.edge g s.drops b.0 b.1),
          b.2,
          b.3.behind,
          b.4,
          λ x i l k. let y = is_inside x i l k in b.5 x y.0 y.1 k,
        )

        pub drop_count : len + length (cells m2) ≡ len0 + length (cells m)
        drop_count = shed_count entry.0 m m2 p g g2 len0 len s.drops.shape entry.1 (sheds entry.0 entry.1)

        module _ (at : Option ℕ) (before : (c x : Cell) → In c (cells m) → In x (cells m) → c.place ≡ place → x.place ≡ p → Inside (cells m) c x → BeforeIn (cells m) (Inside (cells m) c) (num x) at) where
          walk : Behind (cells m2) s.base (num h) at
          walk = next at (before s.base h (there m0 s0 nest0 s.base g0 m s.edge g s.drops s.base s.top s.among) s.walk.1 s.here s.walk.2 (inside_now m0 s0 nest0 s.base g0 m s.edge g s.drops s.base h inner))

          pub drop_on : Drops m0 m2 place at g0 g2
          drop_on = record { base = s.base; among = s.among; here = s.here; edge = num h; drops = after; top = inner.behind; block = block; walk = walk }

          pub drop_less : low_at (cells m2) at < low_at (cells m) (Some p)
          drop_less = go at walk
            where
              go : (o : Option ℕ) → Behind (cells m2) s.base (num h) o → low_at (cells m2) o < low_at (cells m) (Some p)
              go None b = omega arith
              go (Some q) b =
                  let x = serial_at_place m s.drops.shape h s.walk.1 p s.walk.2 in
                  let y = serial_at_place m2 after.shape b.0 b.1 q b.2 in
                  let z = b.4 in
                  omega arith

    -- and at the end
    pub drops_end : Drops m0 m place None g0 g → Dropped m0 m place g0 g
    drops_end s = record {
      shape = s.drops.shape;
      there = used_there m s.drops.shape s.base base_in place s.here;
      left = (
        s.drops.left,
        s.drops.gone,
        record {
          leaves = s.drops.leaves;
          tidy = λ x i o. elim (cases_lt (num x) (num s.base)) [
            | inl l ↦ s.drops.kept x i (inr l)
            | inr l ↦ elim (cases_lt (num x) s.edge) [
              | inl a ↦ (
                  let is : x ≡ s.base = rising_same (cells m) s.drops.shape.rising x s.base i base_in (elim (cases_lt (num s.base) (num x)) [ inl b ↦ absurd (s.walk x i b a) | inr b ↦ omega arith ]) in
                  absurd (o (ap Some (sym s.here ∙ ap (λ (y : Cell). y.place) (sym is)))))
              | inr a ↦ s.drops.kept x i (inl a)
            ]
          ];
          low = λ x i o q v.
              let y : place ≡ x.place = cc in
              let is : x ≡ s.base = s.drops.shape.apart x s.base i base_in (sym y ∙ sym s.here) in
              let f = ap num is in
              let a = s.drops.high q v in
              let l = s.top in
              omega arith;
        },
      );
    }
      where
        base_in : In s.base (cells m)
        base_in = there m0 s0 nest0 s.base g0 m s.edge g s.drops s.base s.top s.among
