-- In document order through a base's subtree: a row loses the role where no other base keeps it, and the row behind it says again whether it is covered.
use Rattle.std.proofs.Common.{◌≡◌, ◌==◌, ℕ, suc, ◌<◌, ◌≤◌, Bool, true, false, cond, not, ◌&&◌, ◌||◌, List, [], ◌∷◌, map, refl, sym, ◌∙◌, ap, subst, inl, inr, ◌⊎◌, arith, Option}
use Rattle.std.specs.Prelude.{◌↔◌}
use Rattle.std.specs.FinSet as set
use Rattle.std.specs.FinSet.{len, retain}
use Rattle.std.proofs.lemmas.Bool.{false≢true, false_from_ne_true, eqb-true, eq-eqb, ne_eqb, cases_eq, cases_Bool, cases_lt}
use Rattle.gcx_model.specs.declared.item.Off.{Off}
use Rattle.gcx_model.specs.Tree.{Tree, Node}
use Rattle.base_laws.proofs.Bools.{same_bools}
use Rattle.base_laws.proofs.Members.{from_map, map_same}
use Rattle.tree_laws.proofs.Lists.{In}
use Rattle.node_store.specs.Rows.{changed_at, paid_by}
use Rattle.buf_tree.specs.Row.{Row}
use Rattle.buf_tree.specs.Rows.{covered_by, untaken}
use Rattle.buf_tree.specs.Shape.{Store, Cell, num, cells, Above, Shape, Shaped, with_at}
use Rattle.buf_tree.specs.Recount.{uncovered, CoversOne}
use Rattle.buf_tree.specs.Spread.{SpreadView, is_spread_in, roles_at, is_covered, seen_rows, TellsCovered}
use Rattle.buf_tree.specs.Sweep.{taken_by, LosesBy}
use Rattle.buf_tree.specs.Walk.{Nested, Inside, Within}
use Rattle.buf_tree.specs.Ways.{Tells, NodeOf, TreeOf, is_waiting, IsKept}
use Rattle.buf_tree.proofs.Changes.{g_num, g_parent, shape_changed}
use Rattle.buf_tree.proofs.Climbing.{tells_same}
use Rattle.buf_tree.proofs.CoversChild.{child_covered}
use Rattle.buf_tree.proofs.Lines.{within_trans}
use Rattle.buf_tree.proofs.RowsLost.{Now, now_alike, own_role, now_waits, was_now, is_now, now_at, rows_thinned, rows_back, rows_nested, covered_as}
use Rattle.buf_tree.proofs.SameNodes.{same_tree, same_kept, kept_same}
use Rattle.buf_tree.proofs.Shaping.{rising_same, cells_is}
use Rattle.buf_tree.proofs.Spreading.{above_bare, upward}
use Rattle.buf_tree.proofs.Sweeping.{within_low}
use Rattle.buf_tree.proofs.Taking.{and_at, bare, none_bare, one_bare}
use Rattle.buf_tree.proofs.Upto.{Alike, Thinned, tells_thinned}

-- From m0 to m below the base c: the rows before `edge` have lost the role where they are to, and those up to `seen` say
-- again whether they are covered, as those outside the base's subtree do.
pub record Counting (s : Option SpreadView) (m0 m : Store) (off : Off) (others : Bool) (c : Cell) (seen edge : ℕ) (lost : Cell → Bool) : Type 0 where
  pub shape : Shaped m
  pub rows : map uncovered (cells m) ≡ map uncovered (taken_by lost off.role.0 (cells m0))
  pub low : (d : Cell) → lost d ≡ true → num d < edge
  pub inner : (d : Cell) → In d (cells m0) → lost d ≡ true → Within (cells m0) c d
  pub right : (T : Tree) (loses : Cell → Bool) → TreeOf (cells m0) T → LosesBy (cells m0) T off others c loses → (d : Cell) → In d (cells m0) → num d < edge → lost d ≡ loses d
  pub covers : (y : Cell) → In y (cells m) → (num y ≤ seen) ⊎ (Inside (cells m0) c y → ⊥) → y.row.covered ≡ is_covered (is_spread_in s) (seen_rows s (taken_by lost off.role.0 (cells m0))) y
  pub outside : (y : Cell) → In y (cells m) → (num y ≡ num c → ⊥) → (Inside (cells m0) c y → ⊥) → In y (cells m0)

-- the row with this serial loses it too
abbrev pub lose_at : ℕ → Bool → (Cell → Bool) → Cell → Bool
lose_at k b lost = cond b (and_at k lost) lost

pub lose_other : (k : ℕ) (b : Bool) (lost : Cell → Bool) (d : Cell) → (num d ≡ k → ⊥) → lose_at k b lost d ≡ lost d
lose_other k false lost d n = refl
lose_other k true lost d n = ap (λ z. lost d || z) (ne_eqb (num d) k n) ∙ none (lost d)
  where
    none : (b : Bool) → (b || false) ≡ b
    none true = refl
    none false = refl

pub lose_here : (h : Cell) (b : Bool) (lost : Cell → Bool) → lost h ≡ false → lose_at (num h) b lost h ≡ b
lose_here h false lost n = n
lose_here h true lost n = ap (λ z. z || (num h == num h)) n ∙ eq-eqb (num h) (num h) refl

-- what lies below a row lies so by its serial alone
pub inside_as : (xs : List Cell) (c d e : Cell) → num d ≡ num e → Inside xs c d → Inside xs c e
inside_as xs c d e f n = record { behind = (let b = n.behind in omega arith); block = λ x i a b. n.block x i a (omega arith) }

-- and what is covered by its serial and its parent's
covered_is : (sp : ℕ → Bool) (rows : List Cell) (a b : Cell) → num a ≡ num b → a.row.parent ≡ b.row.parent → is_covered sp rows a ≡ is_covered sp rows b
covered_is sp rows a b e f = λ t. not (e t == 0) && not (len (retain (roles_at rows (f t)) sp) == 0)

always : (a : Bool) → (a && true) ≡ a
always true = refl
always false = refl

module _ (s : Option SpreadView) (m0 : Store) (s0 : Shaped m0) (nest0 : Nested (cells m0)) (off : Off) (others : Bool) (c : Cell) where
  abbrev xs : List Cell
  xs = cells m0

  abbrev k_ : ℕ
  k_ = off.role.0

  abbrev sp : ℕ → Bool
  sp = is_spread_in s

  abbrev rs : (Cell → Bool) → List Cell
  rs lost = seen_rows s (taken_by lost off.role.0 (cells m0))

  same_cell : (a b : Cell) → In a xs → In b xs → num a ≡ num b → a ≡ b
  same_cell a b i j e = rising_same xs s0.rising a b i j e

  -- at the base
  pub count_start : TellsCovered s (cells m0) → Counting s m0 m0 off others c (num c) (num c) (λ _. false)
  count_start cov = record {
    shape = s0;
    rows = ap (map uncovered) (sym (none_bare k_ xs));
    low = λ d e. absurd (false≢true e);
    inner = λ d i e. absurd (false≢true e);
    right = λ T loses tree by d i l. elim (cases_Bool (loses d)) [
      | inl e ↦ (let b = within_low xs c d ((by.each d i).0 e).within in absurd (omega arith))
      | inr e ↦ sym e
    ];
    covers = λ y i h. cov y i ∙ ap (λ (zs : List Cell). is_covered sp (seen_rows s zs) y) (sym (none_bare k_ xs));
    outside = λ y i n k. i;
  }

  module _ (m : Store) (seen edge : ℕ) (lost : Cell → Bool) (w : Counting s m0 m off others c seen edge lost) where
    abbrev ys : List Cell
    ys = cells m

    pub not_lost : (d : Cell) → edge ≤ num d → lost d ≡ false
    not_lost d l = elim (cases_Bool (lost d)) [ inl e ↦ (let b = w.low d e in absurd (omega arith)) | inr e ↦ e ]

    pub count_nested : Nested (cells m)
    count_nested = rows_nested lost k_ xs ys s0.rising w.shape.rising nest0 s0.up w.shape.up w.rows

    pub row_was : (y : Cell) → In y (cells m) → (x : Cell) × In x (cells m0) × Alike x y
    row_was y i = let x = was_now lost k_ xs ys s0.rising w.shape.rising nest0 s0.up w.shape.up w.rows y i in (x.0, x.1, now_alike lost k_ x.0 y x.2)

    pub row_is : (x : Cell) → In x (cells m0) → (y : Cell) × In y (cells m) × Now lost off.role.0 x y
    row_is x i = is_now lost k_ xs ys s0.rising w.shape.rising nest0 s0.up w.shape.up w.rows x i

    thinned : Thinned xs ys
    thinned = rows_thinned lost k_ xs ys s0.rising w.shape.rising nest0 s0.up w.shape.up w.rows

    back : (x : Cell) → In x xs → (y : Cell) × In y ys × Alike x y
    back = rows_back lost k_ xs ys s0.rising w.shape.rising nest0 s0.up w.shape.up w.rows

    waits : (off.own.0 ≡ off.role.0 → ⊥) → (x y : Cell) → In x xs → In y ys → Alike x y → is_waiting x.row off ≡ is_waiting y.row off
    waits apart x y i j a = now_waits lost k_ x y (now_at lost k_ xs ys s0.rising w.shape.rising nest0 s0.up w.shape.up w.rows x y i j a.serial) off apart

    -- the rows that contracts see
    pub now_seen : seen_rows s (cells m) ≡ seen_rows s (taken_by lost off.role.0 (cells m0))
    now_seen = above_bare sp ys (taken_by lost k_ xs) w.rows

  -- ---- at the row h

  module _ (m : Store) (lost : Cell → Bool) (h : Cell) (i : In h (cells m0)) (within : Within (cells m0) c h) (w : Counting s m0 m off others c (num h) (num h) lost) (p : ℕ) (at : h.place ≡ p) where
    h_not : lost h ≡ false
    h_not = not_lost m (num h) (num h) lost w h (omega arith)

    -- the row as it is now
    abbrev pub now_row : (y : Cell) × In y (cells m) × Now lost off.role.0 h y
    now_row = row_is m (num h) (num h) lost w h i

    pub now_place : now_row.0.place ≡ p
    now_place = sym (now_alike lost k_ h now_row.0 now_row.2).place ∙ at

    pub now_has_role : set.contains now_row.0.row.roles off.role.0 ≡ set.contains h.row.roles off.role.0
    now_has_role = own_role lost k_ h now_row.0 now_row.2 ∙ (ap (λ b. set.contains h.row.roles k_ && not b) h_not ∙ always (set.contains h.row.roles k_))

    module _ (apart : off.own.0 ≡ off.role.0 → ⊥) (r : ℕ) (few : r ≤ 1)
        (tells : (T : Tree) (n : Node) (d : Cell) → TreeOf (cells m) T → NodeOf (cells m) p n → In d (cells m) → d.place ≡ p → (r ≡ 1) ↔ ((set.contains d.row.roles off.role.0 ≡ true) × (others ≡ true → IsKept (cells m) T off n → ⊥))) where
      -- `withdraw` takes the role of h where h loses it
      right_here : (T : Tree) (loses : Cell → Bool) → TreeOf xs T → LosesBy xs T off others c loses → (r == 1) ≡ loses h
      right_here T loses tree by = same_bools (r == 1) (loses h) (λ e. to (eqb-true r 1 e)) (λ e. eq-eqb r 1 (from e))
        where
          node : (v : Node) × Tells xs h v
          node = by.told h i

          t : Thinned xs (cells m)
          t = thinned m (num h) (num h) lost w

          law : (r ≡ 1) ↔ ((set.contains now_row.0.row.roles off.role.0 ≡ true) × (others ≡ true → IsKept (cells m) T off node.0 → ⊥))
          law = tells T node.0 now_row.0 (same_tree xs (cells m) s0.rising t (back m (num h) (num h) lost w) T tree)
              (record { cell = now_row.0; among = now_row.1; place = now_place; tells = tells_thinned xs (cells m) s0.rising t h now_row.0 node.0 i now_row.1 (now_alike lost k_ h now_row.0 now_row.2) node.1 }) now_row.1 now_place

          to : r ≡ 1 → loses h ≡ true
          to e =
              let a = law.0 e in
              (by.each h i).1 (record {
                within = within;
                has = sym now_has_role ∙ a.0;
                unkept = λ o v u q. a.1 o (same_kept xs (cells m) s0.rising t (back m (num h) (num h) lost w) off (waits m (num h) (num h) lost w apart) T node.0 (subst (λ (x : Node). IsKept xs T off x) (tells_same xs s0.rising h v node.0 u node.1) q));
              })

          from : loses h ≡ true → r ≡ 1
          from e =
              let a = (by.each h i).0 e in
              law.1 (now_has_role ∙ a.has, λ o q. a.unkept o node.0 node.1 (kept_same xs (cells m) s0.rising t (back m (num h) (num h) lost w) off (waits m (num h) (num h) lost w apart) T node.0 q))

      abbrev as_taken : (q : Row) → ((untaken k_ q).serial ≡ q.serial) × ((untaken k_ q).parent ≡ q.parent)
      as_taken q = (refl, refl)

      abbrev taken : Store
      taken = changed_at (paid_by (untaken off.role.0)) p m

      cells_taken : cells taken ≡ map (with_at (untaken k_) p) (cells m)
      cells_taken = cells_is taken (map (with_at (untaken k_) p) (cells m)) (shape_changed (untaken k_) p as_taken m (cells m) w.shape)

      -- a row of the store behind it says what one says now, and is that one where it isn't h
      abbrev Behind : Store → Type 0
      Behind z = (d : Cell) → In d (cells z) → (y : Cell) × In y (cells m) × (num y ≡ num d) × (y.row.parent ≡ d.row.parent) × (y.row.covered ≡ d.row.covered) × ((num d ≡ num h → ⊥) → y ≡ d)

      abbrev Edited : Store → Bool → Type 0
      Edited z b = Shaped z × (map uncovered (cells z) ≡ map uncovered (taken_by (lose_at (num h) b lost) off.role.0 (cells m0))) × Behind z

      commute : (zs : List Cell) → map uncovered (map (with_at (untaken k_) p) zs) ≡ map (with_at (untaken k_) p) (map uncovered zs)
      commute [] = refl
      commute (z ∷ zs) = λ t. go (z.place == p) t ∷ commute zs t
        where
          go : (b : Bool) → uncovered (cond b (record { place = z.place; row = untaken off.role.0 z.row }) z) ≡ cond b (record { place = z.place; row = untaken off.role.0 (uncovered z).row }) (uncovered z)
          go true = refl
          go false = refl

      covers_same : (y : Cell) → y.row.covered ≡ (with_at (untaken k_) p y).row.covered
      covers_same y = go (y.place == p)
        where
          go : (b : Bool) → y.row.covered ≡ (cond b (record { place = y.place; row = untaken off.role.0 y.row }) y).row.covered
          go true = refl
          go false = refl

      untouched : (y : Cell) → In y (cells m) → (d : Cell) → with_at (untaken k_) p y ≡ d → (num d ≡ num h → ⊥) → y ≡ d
      untouched y j d e n = elim (cases_Bool (y.place == p)) [
        | inl f ↦ (
            let is : y ≡ now_row.0 = w.shape.apart y now_row.0 j now_row.1 (eqb-true y.place p f ∙ sym now_place) in
            absurd (n (sym (ap num e) ∙ (g_num (untaken k_) p as_taken y ∙ (ap num is ∙ sym (now_alike lost k_ h now_row.0 now_row.2).serial)))))
        | inr f ↦ sym (ap (λ b. cond b (record { place = y.place; row = untaken k_ y.row }) y) f) ∙ e
      ]

      edited : (b : Bool) → Edited (cond b taken m) b
      edited false = (w.shape, w.rows, λ d j. (d, j, refl, refl, refl, λ _. refl))
      edited true = (
        subst (λ (zs : List Cell). Shape taken zs) (sym cells_taken) (shape_changed (untaken k_) p as_taken m (cells m) w.shape),
        ap (map uncovered) cells_taken ∙ (commute (cells m) ∙ (ap (map (with_at (untaken k_) p)) w.rows ∙ (sym (commute (taken_by lost k_ xs)) ∙ ap (map uncovered) (sym one)))),
        λ d j.
            let y = from_map (with_at (untaken k_) p) d (cells m) (subst (λ (zs : List Cell). In d zs) cells_taken j) in (
              y.0,
              y.1,
              sym (g_num (untaken k_) p as_taken y.0) ∙ ap num y.2,
              sym (g_parent (untaken k_) p as_taken y.0) ∙ ap (λ (z : Cell). z.row.parent) y.2,
              covers_same y.0 ∙ ap (λ (z : Cell). z.row.covered) y.2,
              λ n. untouched y.0 y.1 d y.2 n,
            ),
      )
        where
          one : taken_by (and_at (num h) lost) k_ xs ≡ map (with_at (untaken k_) p) (taken_by lost k_ xs)
          one = one_bare lost k_ h h_not xs s0.rising s0.apart same_cell i ∙ ap (λ q. map (with_at (untaken k_) q) (taken_by lost k_ xs)) at

      -- what `withdraw` leaves
      pub took : (m' : Store) → m' ≡ cond (r == 1) (changed_at (paid_by (untaken off.role.0)) p m) m → Counting s m0 m' off others c (num h) (suc (num h)) (lose_at (num h) (r == 1) lost)
      took m' e = record {
        shape = ed.0;
        rows = ed.1;
        low = λ d f. elim (cases_eq (num d) (num h)) [
          | inl g ↦ omega arith
          | inr g ↦ (let b = w.low d (sym (lose_other (num h) (r == 1) lost d g) ∙ f) in omega arith)
        ];
        inner = λ d j f. elim (cases_eq (num d) (num h)) [
          | inl g ↦ subst (λ (z : Cell). Within xs c z) (sym (same_cell d h j i g)) within
          | inr g ↦ w.inner d j (sym (lose_other (num h) (r == 1) lost d g) ∙ f)
        ];
        right = λ T loses tree by d j l. elim (cases_eq (num d) (num h)) [
          | inl g ↦ (
              let is : d ≡ h = same_cell d h j i g in
              ap (lose_at (num h) (r == 1) lost) is ∙ (lose_here h (r == 1) lost h_not ∙ (right_here T loses tree by ∙ sym (ap loses is))))
          | inr g ↦ lose_other (num h) (r == 1) lost d g ∙ w.right T loses tree by d j (omega arith)
        ];
        covers = λ d j side.
            let y = ed.2 d j in
            let x = row_was m (num h) (num h) lost w y.0 y.1 in
            sym y.4
            ∙ (w.covers y.0 y.1 (elim side [ inl l ↦ inl (let f = y.2 in omega arith) | inr n ↦ inr (λ k. n (inside_as xs c y.0 d y.2 k)) ])
            ∙ (covered_is sp (rs lost) y.0 x.0 (sym x.2.serial) (sym x.2.parent)
            ∙ (covered_as s xs s0.rising nest0 s0.up k_ lost (lose_at (num h) (r == 1) lost) x.0 x.1 (λ a u n. sym (lose_other (num h) (r == 1) lost a (other d x.0 (x.2.serial ∙ y.2) side a u n)))
            ∙ covered_is sp (rs (lose_at (num h) (r == 1) lost)) x.0 d (x.2.serial ∙ y.2) (x.2.parent ∙ y.3))));
        outside = λ d j n k.
            let y = ed.2 d j in
            let is : y.0 ≡ d = y.5 (λ e. elim within [ inl f ↦ n (e ∙ sym (ap num f)) | inr q ↦ k (inside_as xs c h d (sym e) q) ]) in
            subst (λ (z : Cell). In z xs) is (w.outside y.0 y.1 (λ e. n (sym y.2 ∙ e)) (λ q. k (inside_as xs c y.0 d y.2 q)));
      }
        where
          ed : Edited m' (r == 1)
          ed = subst (λ (z : Store). Edited z (r == 1)) (sym e) (edited (r == 1))

          -- h isn't above such a row
          other : (d x : Cell) → num x ≡ num d → (num d ≤ num h) ⊎ (Inside xs c d → ⊥) → (a : Cell) → In a xs → Inside xs a x → num a ≡ num h → ⊥
          other d x f (inl l) a u n g = let b = n.behind in omega arith
          other d x f (inr no_) a u n g =
              let is : a ≡ h = same_cell a h u i g in
              no_ (inside_as xs c x d f (within_trans xs s0.rising nest0 s0.up c h x within (subst (λ (z : Cell). Inside xs z x) is n)))

  -- ---- the row g behind the one with serial `seen`, of the base's subtree too

  module _ (m : Store) (lost : Cell → Bool) (seen : ℕ) (w : Counting s m0 m off others c seen (suc seen) lost) (top : num c ≤ seen)
      (g : Cell) (i : In g (cells m0)) (inside : Inside (cells m0) c g) (behind : seen < num g) (least : (x : Cell) → In x (cells m0) → Inside (cells m0) c x → seen < num x → num g ≤ num x) where
    -- between them there is none
    pub none_between : (d : Cell) → In d (cells m0) → seen < num d → num g ≤ num d
    none_between d j l = elim (cases_lt (num d) (num g)) [
      | inl b ↦ least d j (record { behind = (let a = top in omega arith); block = λ x u v n. inside.block x u v (omega arith) }) l
      | inr b ↦ b
    ]

    -- of the rows as they are now neither
    now_between : (y : Cell) → In y (cells m) → seen < num y → num g ≤ num y
    now_between y j l =
        let x = row_was m seen (suc seen) lost w y j in
        let e = x.2.serial in
        let b = none_between x.0 x.1 (omega arith) in
        omega arith

    abbrev y : (y : Cell) × In y (cells m) × Now lost off.role.0 g y
    y = row_is m seen (suc seen) lost w g i

    y_alike : Alike g y.0
    y_alike = now_alike lost k_ g y.0 y.2

    y_is : (d : Cell) → In d (cells m) → num d ≡ num g → d ≡ y.0
    y_is d j e = rising_same (cells m) w.shape.rising d y.0 j y.1 (e ∙ y_alike.serial)

    -- the row above g
    parent : Above (cells m) y.0
    parent = elim (w.shape.up y.0 y.1) [
      | inl z ↦ (let a = inside.behind in let e = y_alike.serial in absurd (omega arith))
      | inr u ↦ u
    ]

    parent_told : parent.0.row.covered ≡ is_covered (is_spread_in s) (seen_rows s (cells m)) parent.0
    parent_told =
        w.covers parent.0 parent.1 (elim (cases_lt seen (num parent.0)) [
          | inl l ↦ (let b = now_between parent.0 parent.1 l in let e = y_alike.serial in let a = parent.3 in absurd (omega arith))
          | inr l ↦ inl l
        ])
        ∙ ap (λ (zs : List Cell). is_covered sp zs parent.0) (sym (now_seen m seen (suc seen) lost w))

    -- what `recover` leaves
    module _ (m' : Store) (one : CoversOne s m m' y.0) where
      abbrev q : ℕ
      q = y.0.place

      abbrev as_covered : (r : Row) → ((covered_by one.covered r).serial ≡ r.serial) × ((covered_by one.covered r).parent ≡ r.parent)
      as_covered r = (refl, refl)

      abbrev f : Cell → Cell
      f = with_at (covered_by one.covered) q

      shape_then : Shape m' (map f (cells m))
      shape_then = subst (λ (z : Store). Shape z (map f (cells m))) (sym one.rows) (shape_changed (covered_by one.covered) q as_covered m (cells m) w.shape)

      cells_then : cells m' ≡ map f (cells m)
      cells_then = cells_is m' (map f (cells m)) shape_then

      uncovered_same : (zs : List Cell) → map uncovered (map f zs) ≡ map uncovered zs
      uncovered_same [] = refl
      uncovered_same (z ∷ zs) = λ t. go (z.place == q) t ∷ uncovered_same zs t
        where
          go : (b : Bool) → uncovered (cond b (record { place = z.place; row = covered_by one.covered z.row }) z) ≡ uncovered z
          go true = refl
          go false = refl

      here : one.covered ≡ is_covered sp (rs lost) y.0
      here =
          child_covered s (cells m) (upward (cells m) w.shape.rising w.shape.up) w.shape.rising parent.0 parent.1 parent_told y.0 (sym parent.2) (λ z. let a = parent.3 in omega arith) one.covered
          (one.told parent.0 parent.1 (sym parent.2, parent.3))
          ∙ ap (λ (zs : List Cell). is_covered sp zs y.0) (now_seen m seen (suc seen) lost w)

      -- each row then
      covered_then : (z : Cell) → In z (cells m) → (num (f z) ≤ num g) ⊎ (Inside xs c (f z) → ⊥) → (f z).row.covered ≡ is_covered sp (rs lost) (f z)
      covered_then z j side = go (z.place == q) refl ∙ covered_is sp (rs lost) z (f z) (sym (g_num (covered_by one.covered) q as_covered z)) (sym (g_parent (covered_by one.covered) q as_covered z))
        where
          low : (b : Bool) → (z.place == q) ≡ b → b ≡ false → (num z ≤ seen) ⊎ (Inside xs c z → ⊥)
          low b e h = elim side [
            | inl l ↦ elim (cases_lt seen (num z)) [
              | inl u ↦ (
                  let a = now_between z j u in
                  let n = g_num (covered_by one.covered) q as_covered z in
                  let is : z ≡ y.0 = y_is z j (omega arith) in
                  absurd (false≢true (sym (e ∙ h) ∙ eq-eqb z.place q (ap (λ (v : Cell). v.place) is))))
              | inr u ↦ inl u
            ]
            | inr n ↦ inr (λ k. n (inside_as xs c z (f z) (sym (g_num (covered_by one.covered) q as_covered z)) k))
          ]

          go : (b : Bool) → (z.place == q) ≡ b → (cond b (record { place = z.place; row = covered_by one.covered z.row }) z).row.covered ≡ is_covered sp (rs lost) z
          go true e = here ∙ ap (λ (v : Cell). is_covered sp (rs lost) v) (w.shape.apart y.0 z y.1 j (sym (eqb-true z.place q e)))
          go false e = w.covers z j (low false e refl)

      pub recovers : Counting s m0 m' off others c (num g) (num g) lost
      recovers = record {
        shape = subst (λ (zs : List Cell). Shape m' zs) (sym cells_then) shape_then;
        rows = ap (map uncovered) cells_then ∙ (uncovered_same (cells m) ∙ w.rows);
        low = λ d e. let b = w.low d e in omega arith;
        inner = w.inner;
        right = λ T loses tree by d j l. w.right T loses tree by d j (elim (cases_lt seen (num d)) [
          | inl u ↦ (let b = none_between d j u in absurd (omega arith))
          | inr u ↦ omega arith
        ]);
        covers = λ d j side.
            let z = from_map f d (cells m) (subst (λ (zs : List Cell). In d zs) cells_then j) in
            subst (λ (v : Cell). v.row.covered ≡ is_covered sp (rs lost) v) z.2 (covered_then z.0 z.1 (subst (λ (v : Cell). (num v ≤ num g) ⊎ (Inside xs c v → ⊥)) (sym z.2) side));
        outside = λ d j n k.
            let z = from_map f d (cells m) (subst (λ (zs : List Cell). In d zs) cells_then j) in
            let e : num z.0 ≡ num d = sym (g_num (covered_by one.covered) q as_covered z.0) ∙ ap num z.2 in
            elim (cases_Bool (z.0.place == q)) [
              | inl b ↦ (
                  let is : z.0 ≡ y.0 = w.shape.apart z.0 y.0 z.1 y.1 (eqb-true z.0.place q b) in
                  absurd (k (inside_as xs c g d (y_alike.serial ∙ (sym (ap num is) ∙ e)) inside)))
              | inr b ↦ (
                  let is : z.0 ≡ d = sym (ap (λ v. cond v (record { place = z.0.place; row = covered_by one.covered z.0.row }) z.0) b) ∙ z.2 in
                  subst (λ (v : Cell). In v xs) is (w.outside z.0 z.1 (λ h. n (sym e ∙ h)) (λ u. k (inside_as xs c z.0 d e u))))
            ];
      }

  -- ---- at the end

  module _ (m : Store) (seen edge : ℕ) (lost : Cell → Bool) (w : Counting s m0 m off others c seen edge lost) (last : (x : Cell) → In x (cells m0) → Inside (cells m0) c x → num x ≤ seen) (top : num c ≤ seen) (high : seen < edge) where
    -- a row that lies before the edge, or outside the base's subtree
    pub before_or : (d : Cell) → In d (cells m0) → (num d < edge) ⊎ (Within (cells m0) c d → ⊥)
    before_or d i = elim (cases_lt (num d) edge) [
      | inl l ↦ inl l
      | inr l ↦ inr (λ n. elim n [ inl e ↦ (let f = ap num e in omega arith) | inr k ↦ (let b = last d i k in omega arith) ])
    ]

    lost_all : (T : Tree) (loses : Cell → Bool) → TreeOf xs T → LosesBy xs T off others c loses → (d : Cell) → In d xs → lost d ≡ loses d
    lost_all T loses tree by d i = elim (cases_lt (num d) edge) [
      | inl l ↦ w.right T loses tree by d i l
      | inr l ↦ elim (before_or d i) [
        | inl u ↦ absurd (omega arith)
        | inr n ↦ not_lost m seen edge lost w d l ∙ sym (false_from_ne_true (loses d) (λ e. n ((by.each d i).0 e).within))
      ]
    ]

    pub covers_all : TellsCovered s (cells m)
    covers_all y j =
        w.covers y j (elim (cases_lt seen (num y)) [
          | inl l ↦ inr (λ k. let x = row_was m seen edge lost w y j in let e = x.2.serial in let b = last x.0 x.1 (inside_as xs c y x.0 (sym e) k) in omega arith)
          | inr l ↦ inl l
        ])
        ∙ ap (λ (zs : List Cell). is_covered sp zs y) (sym (now_seen m seen edge lost w))

    pub rows_all : (T : Tree) (loses : Cell → Bool) → TreeOf (cells m0) T → LosesBy (cells m0) T off others c loses → map uncovered (cells m) ≡ map uncovered (taken_by loses off.role.0 (cells m0))
    rows_all T loses tree by = w.rows ∙ ap (map uncovered) (map_same (bare lost k_) (bare loses k_) xs (λ d i. ap (λ b. cond b (record { place = d.place; row = untaken k_ d.row }) d) (lost_all T loses tree by d i)))
