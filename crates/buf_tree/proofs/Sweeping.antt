-- A sweep from the last row below a base back.
use Rattle.std.proofs.Common.{◌≡◌, ◌==◌, ℕ, ◌+◌, ◌<◌, ◌≤◌, Bool, true, false, cond, not, ◌||◌, List, [], ◌∷◌, ◌++◌, length, map, refl, sym, ◌∙◌, ap, subst, inl, inr, ◌⊎◌, arith, Some, append_assoc}
use Rattle.std.specs.List.{filter}
use Rattle.std.specs.Prelude.{◌↔◌}
use Rattle.std.specs.FinMap.{get}
use Rattle.std.specs.FinSet as set
use Rattle.std.proofs.lemmas.List.{append-nil}
use Rattle.std.proofs.lemmas.Bool.{and_parts, or_cases, false≢true, eqb-true, eq-eqb, ne_eqb, cases_eq, cases_Bool, cases_lt}
use Rattle.gcx_model.specs.declared.item.Off.{Off}
use Rattle.gcx_model.specs.Tree.{Tree, Node, serial_of}
use Rattle.base_laws.proofs.Members.{in_map, from_map, map_same}
use Rattle.tree_laws.proofs.Lists.{In, In-append, In-filter, In-kept, any_in, filter_same}
use Rattle.node_store.specs.Rows.{StoreRow, changed_at, paid_by, unlinked}
use Rattle.buf_tree.specs.Row.{Row}
use Rattle.buf_tree.specs.Rows.{IsSpare, untaken}
use Rattle.buf_tree.specs.Shape.{Store, Cell, num, cells, is_under, entry_in, Shape, Shaped, with_at}
use Rattle.buf_tree.specs.Purge.{is_gone, Keeps, Tidy, Leaves}
use Rattle.buf_tree.specs.Walk.{Nested, Inside, Within}
use Rattle.buf_tree.specs.Ways.{Tells, NodeOf, TreeOf, IsKept}
use Rattle.buf_tree.specs.Sweep.{taken_by, LosesBy, Shed, Swept}
use Rattle.buf_tree.proofs.Shaping.{rising_same, cells_is}
use Rattle.buf_tree.proofs.Changes.{g_num, g_place, shape_changed}
use Rattle.buf_tree.proofs.Purging.{leaves_none, not_spare, the, keeps_less, shape_less, leaves_less, cells_less}
use Rattle.buf_tree.proofs.Seeking.{used_there}
use Rattle.buf_tree.proofs.Climbing.{tells_serial, tells_descends, tells_same}
use Rattle.buf_tree.proofs.Upto.{Upto, Alike, Thinned, tells_there, nested_thinned, thin, thin_tree, kept_same}
use Rattle.buf_tree.proofs.Taking.{bare, bare_alike, bare_not, was_bare, bare_rising, bare_apart, none_bare, none_counted, and_at, one_more, one_bare, leaves_changed, keeps_changed, length_map}

-- On the way back from m0 to m below the base c: the rows from `edge` on have lost the role where they are to, and of
-- the rows from `tidy` on those went that nothing keeps.
pub record Sweeping (m0 m : Store) (off : Off) (others : Bool) (c : Cell) (tidy edge : ℕ) (g0 g : List ℕ) (count : ℕ) : Type 0 where
  pub lost : Cell → Bool
  pub left : List ℕ
  pub shape : Shaped m
  pub gone : g ≡ g0 ++ left
  pub leaves : Leaves (taken_by lost off.role.0 (cells m0)) (cells m) left
  pub low : (d : Cell) → lost d ≡ true → edge ≤ num d
  pub high : (j : ℕ) → In j left → tidy ≤ j
  pub kept : (d : Cell) → In d (cells m) → (tidy ≤ num d) ⊎ (num d < num c) → Keeps (cells m) d
  pub taken : count ≡ length (filter lost (cells m0))
  pub right : (T : Tree) (loses : Cell → Bool) → TreeOf (cells m0) T → LosesBy (cells m0) T off others c loses → (d : Cell) → In d (cells m0) → edge ≤ num d → lost d ≡ loses d

pub within_low : (xs : List Cell) (c d : Cell) → Within xs c d → num c ≤ num d
within_low xs c d (inl e) = let f = ap num e in omega arith
within_low xs c d (inr k) = let f = k.behind in omega arith

-- the row h is the last one before the edge k
abbrev pub LastBefore : List Cell → Cell → ℕ → Type 0
LastBefore xs h k = (num h < k) × ((x : Cell) → In x xs → num x < k → num x ≤ num h)

module _ (m0 : Store) (s0 : Shaped m0) (nest0 : Nested (cells m0)) (off : Off) (others : Bool) (c : Cell) (g0 : List ℕ) where
  abbrev xs : List Cell
  xs = cells m0

  abbrev k_ : ℕ
  k_ = off.role.0

  same_cell : (a b : Cell) → In a xs → In b xs → num a ≡ num b → a ≡ b
  same_cell a b i j e = rising_same xs s0.rising a b i j e

  module _ (m : Store) (tidy edge : ℕ) (g : List ℕ) (n : ℕ) (w : Sweeping m0 m off others c tidy edge g0 g n) where
    not_lost : (d : Cell) → num d < edge → w.lost d ≡ false
    not_lost d l = elim (cases_Bool (w.lost d)) [ inl e ↦ (let b = w.low d e in absurd (omega arith)) | inr e ↦ e ]

    not_gone : (d : Cell) → num d < tidy → is_gone w.left d ≡ false
    not_gone d l = elim (cases_Bool (is_gone w.left d)) [
      | inl e ↦ (
          let k = any_in (λ k. num d == k) w.left e in
          let b = w.high k.0 k.1 in
          let f = eqb-true (num d) k.0 k.2 in
          absurd (omega arith))
      | inr e ↦ e
    ]

    pub now_thinned : Thinned xs (cells m)
    now_thinned = record {
      each = λ y i.
          let a = In-filter (λ (d : Cell). not (is_gone w.left d)) y (taken_by w.lost k_ xs) (subst (λ (zs : List Cell). In y zs) w.leaves.rows i) in
          let z = was_bare w.lost k_ y xs a.0 in
          (z.0, z.1, subst (λ (d : Cell). Alike z.0 d) z.2 (bare_alike w.lost k_ z.0));
      up = w.shape.up;
    }

    pub now_nested : Nested (cells m)
    now_nested = nested_thinned xs (cells m) s0.rising now_thinned nest0

    pub now_upto : edge ≤ tidy → Upto num edge xs (cells m)
    now_upto le = record {
      there = λ x l i.
          let is = bare_not w.lost k_ x (not_lost x l) in
          let a : In x (taken_by w.lost k_ xs) = subst (λ (d : Cell). In d (taken_by w.lost k_ xs)) is (in_map (bare w.lost k_) x xs i) in
          subst (λ (zs : List Cell). In x zs) (sym w.leaves.rows) (In-kept (λ (d : Cell). not (is_gone w.left d)) x (taken_by w.lost k_ xs) a (ap not (not_gone x (omega arith))));
      back = λ x l i.
          let a = In-filter (λ (d : Cell). not (is_gone w.left d)) x (taken_by w.lost k_ xs) (subst (λ (zs : List Cell). In x zs) w.leaves.rows i) in
          let z = was_bare w.lost k_ x xs a.0 in
          let f = (bare_alike w.lost k_ z.0).serial in
          let e = ap num z.2 in
          let is = bare_not w.lost k_ z.0 (not_lost z.0 (omega arith)) in
          subst (λ (d : Cell). In d xs) (sym is ∙ z.2) z.1;
    }

  -- at the last row
  pub sweep_start : (edge : ℕ) → Tidy xs → ((x : Cell) → In x xs → Within xs c x → num x < edge) → Sweeping m0 m0 off others c edge edge g0 g0 0
  sweep_start edge t last = record {
    lost = λ _. false;
    left = [];
    shape = s0;
    gone = sym (append-nil g0);
    leaves = subst (λ (zs : List Cell). Leaves zs xs []) (sym (none_bare k_ xs)) (leaves_none xs);
    low = λ d e. absurd (false≢true e);
    high = λ j i. absurd i;
    kept = λ d i h. t d i;
    taken = none_counted xs;
    right = λ T loses tree by d i l. elim (cases_Bool (loses d)) [
      | inl e ↦ (let b = last d i ((by.each d i).0 e).within in absurd (omega arith))
      | inr e ↦ sym e
    ];
  }

  -- ---- at the row h

  module _ (m : Store) (k : ℕ) (g : List ℕ) (n : ℕ) (w : Sweeping m0 m off others c k k g0 g n) (h : Cell) (i : In h (cells m)) (last : LastBefore xs h k) (below : Within xs c h) where
    i0 : In h xs
    i0 = (now_upto m k k g n w (omega arith)).back h last.0 i

    -- a row from h on is h or behind the edge
    here_or : (d : Cell) → In d xs → num h ≤ num d → (d ≡ h) ⊎ (k ≤ num d)
    here_or d j l = elim (cases_lt (num d) k) [
      | inl a ↦ (let b = last.1 d j a in inl (same_cell d h j i0 (omega arith)))
      | inr a ↦ inr a
    ]

    -- `withdraw` takes the role of h where h loses it
    module _ (p r : ℕ) (at : h.place ≡ p) (few : r ≤ 1)
        (tells : (T : Tree) (n : Node) (d : Cell) → TreeOf (cells m) T → NodeOf (cells m) p n → In d (cells m) → d.place ≡ p → (r ≡ 1) ↔ ((set.contains d.row.roles off.role.0 ≡ true) × (others ≡ true → IsKept (cells m) T off n → ⊥))) where
      loses_here : (T : Tree) (loses : Cell → Bool) → TreeOf xs T → LosesBy xs T off others c loses → (r ≡ 1) ↔ (loses h ≡ true)
      loses_here T loses tree by = (
        λ e.
            let a = law.0 e in
            (by.each h i0).1 (record {
              within = below;
              has = a.0;
              unkept = λ o v t q. a.1 o (same.0 (subst (λ (x : Node). IsKept xs T off x) (tells_same xs s0.rising h v node.0 t node.1) q));
            }),
        λ e. let a = (by.each h i0).0 e in law.1 (a.has, λ o q. a.unkept o node.0 node.1 (same.1 q)),
      )
        where
          node : (v : Node) × Tells xs h v
          node = by.told h i0

          low : serial_of node.0 < k
          low = let e = tells_serial xs h node.0 node.1 in let l = last.0 in omega arith

          upto : Upto num k xs (cells m)
          upto = now_upto m k k g n w (omega arith)

          thinned : Thinned xs (cells m)
          thinned = now_thinned m k k g n w

          same : IsKept xs T off node.0 ↔ IsKept (cells m) (thin (cells m) T) off node.0
          same = kept_same xs (cells m) s0.rising thinned k upto T tree off node.0 low (tells_descends xs h node.0 node.1)

          law : (r ≡ 1) ↔ ((set.contains h.row.roles off.role.0 ≡ true) × (others ≡ true → IsKept (cells m) (thin (cells m) T) off node.0 → ⊥))
          law = tells (thin (cells m) T) node.0 h (thin_tree xs (cells m) s0.rising thinned T tree) (record { cell = h; among = i; place = at; tells = tells_there k xs (cells m) upto h node.0 last.0 node.1 }) i at

      passed : (r ≡ 1 → ⊥) → Sweeping m0 m off others c k (num h) g0 g n
      passed never = record {
        lost = w.lost;
        left = w.left;
        shape = w.shape;
        gone = w.gone;
        leaves = w.leaves;
        low = λ d e. let a = w.low d e in let l = last.0 in omega arith;
        high = w.high;
        kept = w.kept;
        taken = w.taken;
        right = λ T loses tree by d j l. elim (here_or d j l) [
          | inl e ↦ ap w.lost e ∙ not_lost m k k g n w h last.0 ∙ sym (ap loses e ∙ not_loses T loses tree by)
          | inr e ↦ w.right T loses tree by d j e
        ];
      }
        where
          not_loses : (T : Tree) (loses : Cell → Bool) → TreeOf xs T → LosesBy xs T off others c loses → loses h ≡ false
          not_loses T loses tree by = elim (cases_Bool (loses h)) [ inl e ↦ absurd (never ((loses_here T loses tree by).1 e)) | inr e ↦ e ]

      abbrev keeps : (r : Row) → ((untaken k_ r).serial ≡ r.serial) × ((untaken k_ r).parent ≡ r.parent)
      keeps r = (refl, refl)

      abbrev taken_at : Store
      taken_at = changed_at (paid_by (untaken k_)) p m

      cells_taken : cells taken_at ≡ map (with_at (untaken k_) p) (cells m)
      cells_taken = cells_is taken_at (map (with_at (untaken k_) p) (cells m)) (shape_changed (untaken k_) p keeps m (cells m) w.shape)

      took : r ≡ 1 → Sweeping m0 taken_at off others c k (num h) g0 g (n + 1)
      took once = record {
        lost = and_at (num h) w.lost;
        left = w.left;
        shape = subst (λ (zs : List Cell). Shape taken_at zs) (sym cells_taken) (shape_changed (untaken k_) p keeps m (cells m) w.shape);
        gone = w.gone;
        leaves = subst (λ (zs : List Cell). Leaves (taken_by (and_at (num h) w.lost) k_ xs) zs w.left) (sym cells_taken)
            (subst (λ (zs : List Cell). Leaves zs (map (with_at (untaken k_) p) (cells m)) w.left) (sym rows)
            (leaves_changed (untaken k_) p keeps (taken_by w.lost k_ xs) (cells m) w.left apart w.leaves));
        low = λ d e. elim (or_cases (w.lost d) (num d == num h) e) [
          | inl a ↦ (let b = w.low d a in let l = last.0 in omega arith)
          | inr a ↦ (let b = eqb-true _ _ a in omega arith)
        ];
        high = w.high;
        kept = λ d j b.
            let x = from_map (with_at (untaken k_) p) d (cells m) (subst (λ (zs : List Cell). In d zs) cells_taken j) in
            let e = ap num x.2 in
            let f = g_num (untaken k_) p keeps x.0 in
            subst (λ (zs : List Cell). Keeps zs d) (sym cells_taken) (subst (λ (z : Cell). Keeps (map (with_at (untaken k_) p) (cells m)) z) x.2
            (keeps_changed (untaken k_) p keeps (cells m) x.0 (other x.0 x.1 (side (num d) (num x.0) (sym e ∙ f) b)) (w.kept x.0 x.1 (side (num d) (num x.0) (sym e ∙ f) b))));
        taken = ap (λ z. z + 1) w.taken ∙ sym (one_more w.lost h (not_lost m k k g n w h last.0) xs s0.rising i0);
        right = λ T loses tree by d j l. elim (here_or d j l) [
          | inl e ↦ ap (and_at (num h) w.lost) e ∙ ap (λ b. b || (num h == num h)) (not_lost m k k g n w h last.0) ∙ eq-eqb (num h) (num h) refl ∙ sym (ap loses e ∙ (loses_here T loses tree by).0 once)
          | inr e ↦ ap (λ b. w.lost d || b) (ne_eqb (num d) (num h) (λ z. let a = last.0 in absurd (omega arith))) ∙ none (w.lost d) ∙ w.right T loses tree by d j e
        ];
      }
        where
          none : (b : Bool) → (b || false) ≡ b
          none true = refl
          none false = refl

          side : (a b : ℕ) → a ≡ b → (k ≤ a) ⊎ (a < num c) → (k ≤ b) ⊎ (b < num c)
          side a b e (inl l) = inl (omega arith)
          side a b e (inr l) = inr (omega arith)

          rows : taken_by (and_at (num h) w.lost) k_ xs ≡ map (with_at (untaken k_) p) (taken_by w.lost k_ xs)
          rows = one_bare w.lost k_ h (not_lost m k k g n w h last.0) xs s0.rising s0.apart same_cell i0 ∙ ap (λ q. map (with_at (untaken k_) q) (taken_by w.lost k_ xs)) at

          -- what has gone isn't h
          apart : (d : Cell) → In d (taken_by w.lost k_ xs) → is_gone w.left d ≡ true → d.place ≡ p → ⊥
          apart d j e f =
              let z = was_bare w.lost k_ d xs j in
              let a = bare_alike w.lost k_ z.0 in
              let same : z.0 ≡ h = s0.apart z.0 h z.1 i0 (a.place ∙ ap (λ (x : Cell). x.place) z.2 ∙ f ∙ sym at) in
              let q = ap num same in
              let b = a.serial in
              let v = ap num z.2 in
              let l = last.0 in
              false≢true (sym (not_gone m k k g n w d (omega arith)) ∙ e)

          other : (d : Cell) → In d (cells m) → (k ≤ num d) ⊎ (num d < num c) → d.place ≡ p → ⊥
          other d j b e =
              let same : d ≡ h = w.shape.apart d h j i (e ∙ sym at) in
              let f = ap num same in
              let l = last.0 in
              let q = within_low xs c h below in
              elim b [ inl y ↦ omega arith | inr y ↦ omega arith ]

      -- what `withdraw` leaves
      pub withdrawn : (m' : Store) → m' ≡ cond (r == 1) taken_at m → Sweeping m0 m' off others c k (num h) g0 g (n + r)
      withdrawn m' e = elim (cases_eq r 1) [
        | inl y ↦ subst (λ (z : Store). Sweeping m0 z off others c k (num h) g0 g (n + r)) (sym (e ∙ ap (λ b. cond b taken_at m) (eq-eqb r 1 y))) (subst (λ z. Sweeping m0 taken_at off others c k (num h) g0 g z) (omega arith) (took y))
        | inr y ↦ subst (λ (z : Store). Sweeping m0 z off others c k (num h) g0 g (n + r)) (sym (e ∙ ap (λ b. cond b taken_at m) (ne_eqb r 1 y))) (subst (λ z. Sweeping m0 m off others c k (num h) g0 g z) (omega arith) (passed y))
      ]

      -- the row is still there, and no other is more or less
      pub still_there : (m' : Store) → m' ≡ cond (r == 1) taken_at m → (d : Cell) × In d (cells m') × (d.place ≡ p) × (num d ≡ num h)
      still_there m' e = elim (cases_eq r 1) [
        | inl y ↦ (
          with_at (untaken k_) p h,
          subst (λ (zs : List Cell). In (with_at (untaken k_) p h) zs) (sym cells_taken ∙ ap cells (sym (e ∙ ap (λ b. cond b taken_at m) (eq-eqb r 1 y)))) (in_map (with_at (untaken k_) p) h (cells m) i),
          g_place (untaken k_) p keeps h ∙ at,
          g_num (untaken k_) p keeps h,
        )
        | inr y ↦ (h, subst (λ (z : Store). In h (cells z)) (sym (e ∙ ap (λ b. cond b taken_at m) (ne_eqb r 1 y))) i, at, refl)
      ]

      pub as_many : (m' : Store) → m' ≡ cond (r == 1) taken_at m → length (cells m') ≡ length (cells m)
      as_many m' e = elim (cases_eq r 1) [
        | inl y ↦ ap (λ (z : Store). length (cells z)) (e ∙ ap (λ b. cond b taken_at m) (eq-eqb r 1 y)) ∙ ap length cells_taken ∙ length_map (with_at (untaken k_) p) (cells m)
        | inr y ↦ ap (λ (z : Store). length (cells z)) (e ∙ ap (λ b. cond b taken_at m) (ne_eqb r 1 y))
      ]

  -- ---- behind `withdraw`: the row goes where nothing keeps it

  module _ (m : Store) (k : ℕ) (g : List ℕ) (n : ℕ) (h : Cell) (w : Sweeping m0 m off others c k (num h) g0 g n) (i0 : In h xs) (last : LastBefore xs h k) (inner : Inside xs c h) (p : ℕ) (d : Cell) (j : In d (cells m)) (at : d.place ≡ p) (same : num d ≡ num h) where
    d_or : (x : Cell) → In x (cells m) → num h ≤ num x → (x ≡ d) ⊎ (k ≤ num x)
    d_or x v l =
        let z = (now_thinned m k (num h) g n w).each x v in
        let e = z.2.serial in
        elim (cases_lt (num x) k) [
          | inl a ↦ (let b = last.1 z.0 z.1 (omega arith) in inl (rising_same (cells m) w.shape.rising x d v j (omega arith)))
          | inr a ↦ inr a
        ]

    -- its parent is the base or lies below it
    d_parent : num c ≤ d.row.parent
    d_parent =
        let z = (now_thinned m k (num h) g n w).each d j in
        let is : z.0 ≡ h = same_cell z.0 h z.1 i0 (z.2.serial ∙ same) in
        let e = ap (λ (x : Cell). x.row.parent) is in
        let f = z.2.parent in
        let b = inner.block h i0 inner.behind (omega arith) in
        omega arith

    stays : (e : StoreRow Row) → get m p ≡ Some e → (IsSpare e → ⊥) → Sweeping m0 m off others c (num h) (num h) g0 g n
    stays e is not_ = record {
      lost = w.lost;
      left = w.left;
      shape = w.shape;
      gone = w.gone;
      leaves = w.leaves;
      low = w.low;
      high = λ q v. let a = w.high q v in let l = last.0 in omega arith;
      kept = λ x v b. elim b [
        | inl l ↦ elim (d_or x v l) [
          | inl f ↦ subst (λ (z : Cell). Keeps (cells m) z) (sym f) (not_spare m (cells m) w.shape d j e (ap (get m) at ∙ is) not_)
          | inr f ↦ w.kept x v (inl f)
        ]
        | inr l ↦ w.kept x v (inr l)
      ];
      taken = w.taken;
      right = w.right;
    }

    goes : (e : StoreRow Row) → get m p ≡ Some e → IsSpare e → Sweeping m0 (unlinked m p) off others c (num h) (num h) g0 (g ++ e.payload.serial ∷ []) n
    goes e is spare = record {
      lost = w.lost;
      left = w.left ++ e.payload.serial ∷ [];
      shape = subst (λ (zs : List Cell). Shape (unlinked m p) zs) (sym (cells_less m w.shape p e is spare)) (shape_less m (cells m) w.shape p e is spare);
      gone = ap (λ z. z ++ e.payload.serial ∷ []) w.gone ∙ append_assoc g0 w.left (e.payload.serial ∷ []);
      leaves = subst (λ (zs : List Cell). Leaves (taken_by w.lost k_ xs) zs (w.left ++ e.payload.serial ∷ [])) (sym (cells_less m w.shape p e is spare))
          (leaves_less m (cells m) w.shape p e is spare (taken_by w.lost k_ xs) (bare_rising w.lost k_ xs s0.rising) (bare_apart w.lost k_ xs s0.apart) w.left w.leaves
          (λ q v. let a = w.high q v in let l = last.0 in let f = serial in omega arith));
      low = w.low;
      high = λ q v. elim (In-append q w.left (e.payload.serial ∷ []) v) [
        | inl b ↦ (let a = w.high q b in let l = last.0 in omega arith)
        | inr b ↦ elim b [ inl f ↦ (let y = serial in omega arith) | inr z ↦ absurd z ]
      ];
      kept = λ x v b.
          let y = In-filter (λ (z : Cell). not (z.place == p)) x (cells m) (subst (λ (zs : List Cell). In x zs) (cells_less m w.shape p e is spare) v) in
          subst (λ (zs : List Cell). Keeps zs x) (sym (cells_less m w.shape p e is spare))
          (keeps_less m (cells m) w.shape p e is spare x (above x y.0 b) (w.kept x y.0 (elim b [
            | inl l ↦ elim (d_or x y.0 l) [ inl f ↦ absurd (false≢true (ap not (sym (eq-eqb x.place p (ap (λ (z : Cell). z.place) f ∙ at))) ∙ y.1)) | inr f ↦ inl f ]
            | inr l ↦ inr l
          ])));
      taken = w.taken;
      right = w.right;
    }
      where
        row : (z : Cell) × In z (cells m) × (z.place ≡ p) × (e ≡ entry_in (cells m) z)
        row = the m (cells m) w.shape p e is spare

        row_is : row.0 ≡ d
        row_is = w.shape.apart row.0 d row.1 j (row.2 ∙ sym at)

        serial : e.payload.serial ≡ num h
        serial = ap (λ (x : StoreRow Row). x.payload.serial) row.3 ∙ ap num row_is ∙ same

        above : (x : Cell) → In x (cells m) → (num h ≤ num x) ⊎ (num x < num c) → is_under (num x) row.0 ≡ true → ⊥
        above x v b u =
            let f = eqb-true _ _ (and_parts (not (num row.0 == 0)) (row.0.row.parent == num x) u).1 in
            let e = ap (λ (z : Cell). z.row.parent) row_is in
            let q = d_parent in
            let o = inner.behind in
            elim b [
              | inl l ↦ elim (w.shape.up d j) [ inl z ↦ omega arith | inr z ↦ (let y = z.2 in let t = z.3 in omega arith) ]
              | inr l ↦ omega arith
            ]

    -- what `drop_spare` leaves
    pub shed : (e : StoreRow Row) → get m p ≡ Some e → (m' : Store) (g' : List ℕ) (len0 len : ℕ) → Shed e m m' p g g' len0 len → Sweeping m0 m' off others c (num h) (num h) g0 g' n
    shed e is m' g' len0 len (inl s) = subst (λ (z : Store). Sweeping m0 z off others c (num h) (num h) g0 g' n) (sym s.1) (subst (λ (z : List ℕ). Sweeping m0 (unlinked m p) off others c (num h) (num h) g0 z n) (sym s.2) (goes e is s.0))
    shed e is m' g' len0 len (inr s) = subst (λ (z : Store). Sweeping m0 z off others c (num h) (num h) g0 g' n) (sym s.1) (subst (λ (z : List ℕ). Sweeping m0 m off others c (num h) (num h) g0 z n) (sym s.2) (stays e is s.0))

  -- ---- at the end

  module _ (m : Store) (k : ℕ) (g : List ℕ) (n : ℕ) (w : Sweeping m0 m off others c k (num c) g0 g n) (i0 : In c xs) (last : LastBefore xs c k) (d : Cell) (j : In d (cells m)) (at : d.place ≡ c.place) (same : num d ≡ num c) where
    pub ended : (p : ℕ) → c.place ≡ p → (T : Tree) (loses : Cell → Bool) → TreeOf xs T → LosesBy xs T off others c loses → Swept m0 m p loses k_ g0 g n
    ended p e T loses tree by = record {
      shape = w.shape;
      there = used_there m w.shape d j p (at ∙ e);
      left = (
        w.left,
        w.gone,
        record {
          leaves = subst (λ (zs : List Cell). Leaves zs (cells m) w.left) (map_same (bare w.lost k_) (bare loses k_) xs (λ x i. ap (λ b. cond b (record { place = x.place; row = untaken k_ x.row }) x) (all x i))) w.leaves;
          tidy = λ x i o. elim (cases_lt (num x) (num c)) [
            | inl l ↦ w.kept x i (inr l)
            | inr l ↦ (
                let z = (now_thinned m k (num c) g n w).each x i in
                let f = z.2.serial in
                elim (cases_lt (num x) k) [
                  | inl a ↦ (
                      let b = last.1 z.0 z.1 (omega arith) in
                      let is : x ≡ d = rising_same (cells m) w.shape.rising x d i j (omega arith) in
                      absurd (o (ap Some (sym e ∙ sym at ∙ ap (λ (y : Cell). y.place) (sym is)))))
                  | inr a ↦ w.kept x i (inl a)
                ])
          ];
          low = λ x i o q v.
              let y : p ≡ x.place = cc in
              let is : x ≡ d = w.shape.apart x d i j (sym y ∙ sym (at ∙ e)) in
              let f = ap num is in
              let a = w.high q v in
              let l = last.0 in
              omega arith;
        },
      );
      taken = w.taken ∙ ap length (filter_same w.lost loses xs all);
    }
      where
        all : (x : Cell) → In x xs → w.lost x ≡ loses x
        all x i = elim (cases_lt (num x) (num c)) [
          | inl l ↦ not_lost m k (num c) g n w x l ∙ sym (before x i l)
          | inr l ↦ w.right T loses tree by x i l
        ]
          where
            before : (x : Cell) → In x xs → num x < num c → loses x ≡ false
            before x i l = elim (cases_Bool (loses x)) [
              | inl f ↦ (let b = within_low xs c x ((by.each x i).0 f).within in absurd (omega arith))
              | inr f ↦ f
            ]
