-- A row made in the store, for a buffer with these fields: what the calls of its parts ask for, and what contracts say of it then.
use Rattle.std.proofs.Common.{◌≡◌, ◌==◌, ℕ, ◌+◌, ◌<◌, ◌≤◌, Bool, true, false, cond, not, ◌&&◌, ◌||◌, List, [], ◌∷◌, ◌++◌, length, refl, sym, ◌∙◌, ap, subst, inl, inr, ◌⊎◌, arith, max, Some, None, Option}
use Rattle.std.specs.Prelude.{◌↔◌, IsSome, is_some, option_map}
use Rattle.std.specs.FinMap.{get, len}
use Rattle.std.specs.Ordering.{nat_cmp}
use Rattle.std.specs.FinSet.{FinSet, contains, empty, retain, union, contains-empty}
use Rattle.std.proofs.lemmas.List.{append-nil, length-map}
use Rattle.std.proofs.lemmas.Bool.{true≢false, false≢true, ne_eqb}
use Rattle.gcx_base.specs.declared.kind.Kind.{Kind}
use Rattle.gcx_model.specs.Past.{IsNode, token_for}
use Rattle.tree_laws.proofs.Lists.{In}
use Rattle.node_store.specs.Rows.{StoreRow, appended}
use Rattle.buf_tree.specs.declared.ahead.Ahead.{Ahead}
use Rattle.buf_tree.specs.PassedCalls.{OpenedWith, MayOpenWith, MayOpenKept, StandsWith, row_with}
use Rattle.buf_tree.specs.Row.{Row}
use Rattle.buf_tree.specs.Rows.{IsDead, is_bare, below_row, covered_by}
use Rattle.buf_tree.specs.Shape.{Store, Cell, num, cells, at_place}
use Rattle.buf_tree.specs.Spread.{SpreadView, SpreadsAs, is_spread_in, is_covered, roles_at, seen_rows, TellsCovered}
use Rattle.buf_tree.specs.Tops.{KeptOf, KeepsSpread, OpensAs, OwnApart}
use Rattle.buf_tree.specs.View.{View, Innermost, Kept, capped, num_in, level_in}
use Rattle.buf_tree.proofs.CoversChild.{child_covered}
use Rattle.buf_tree.proofs.EditsSeen.{innermost_kept}
use Rattle.buf_tree.proofs.Keeping.{alive_new, kept_opened, cells_opened, more_rows, free_place}
use Rattle.buf_tree.proofs.Lifting.{seen_is, seen_apart, seen_from}
use Rattle.buf_tree.proofs.OpenedViews as views
use Rattle.buf_tree.proofs.PushedSeen.{pushed_covers}
use Rattle.buf_tree.proofs.Reading.{row_at}
use Rattle.buf_tree.proofs.Seeking.{used_there}
use Rattle.buf_tree.proofs.Shaping.{at_place_is}
use Rattle.buf_tree.proofs.SignedViews.{view_of}
use Rattle.buf_tree.proofs.SpreadTells.{own_apart}
use Rattle.buf_tree.proofs.Spreading.{in_retain, in_union, same_roles, Upward, upward, spread_cell, from_above, uncovered_from, from_uncovered}

-- where a row is covered, or has a spread role, roles are spread
some_spread : (s : Option SpreadView) (rs : List Cell) (a : Cell) → a.row.covered ≡ is_covered (is_spread_in s) rs a → (a.row.covered ≡ true) ⊎ ((k : ℕ) × (is_spread_in s k ≡ true) × (contains a.row.roles k ≡ true)) → is_some s ≡ true
some_spread (Some w) rs a own e = refl
some_spread None rs a own (inr k) = absurd (false≢true k.1)
some_spread None rs a own (inl e) = absurd (true≢false (sym e ∙ (own ∙ from_uncovered (is_spread_in None) rs a nothing)))
  where
    off : (b : Bool) → (b && false) ≡ false
    off true = refl
    off false = refl

    none : retain (roles_at rs a.row.parent) (is_spread_in None) ≡ empty
    none = same_roles (retain (roles_at rs a.row.parent) (is_spread_in None)) empty (λ q. in_retain (roles_at rs a.row.parent) (is_spread_in None) q ∙ (off (contains (roles_at rs a.row.parent) q) ∙ sym (contains-empty nat_cmp q)))

    nothing : from_above (is_spread_in None) rs a ≡ empty
    nothing = go (num a == 0)
      where
        go : (b : Bool) → cond b empty (retain (roles_at rs a.row.parent) (is_spread_in None)) ≡ empty
        go true = refl
        go false = none

-- the store stays as it was
pub covers_still : (s : Option SpreadView) (m m1 : Store) → m1 ≡ m → TellsCovered s (cells m) → TellsCovered s (cells m1)
covers_still s m m1 e h = subst (λ (x : Store). TellsCovered s (cells x)) (sym e) h

-- v is what contracts see of the buffer
module _ (s : Option SpreadView) (m0 : Store) (g0 : List ℕ) (waiting : List Ahead) (cap0 held nodes taken0 most0 : ℕ) (loans0 : List ℕ) (v : View) (is : view_of s (cells m0) g0 waiting nodes taken0 most0 loans0 ≡ v)
    (kept : Kept m0 g0 cap0 held nodes) (cov : TellsCovered s (cells m0)) (q : ℕ) (inner_now : Innermost v.rows q) where
  abbrev was : View
  was = view_of s (cells m0) g0 waiting nodes taken0 most0 loans0

  up : Upward [] (cells m0)
  up = upward (cells m0) kept.shape.rising kept.shape.up

  inner : Innermost (seen_rows s (cells m0)) q
  inner = subst (λ (z : View). Innermost z.rows q) (sym is) inner_now

  -- with the table as it was contracts see the same
  pub view_as : (s1 : Option SpreadView) → s1 ≡ s → v ≡ view_of s1 (cells m0) g0 waiting nodes taken0 most0 loans0
  view_as s1 e = sym is ∙ ap (λ (x : Option SpreadView). view_of x (cells m0) g0 waiting nodes taken0 most0 loans0) (sym e)

  -- the row of the innermost open node, as it is kept
  here : (c : Cell) × In c (cells m0) × (spread_cell (is_spread_in s) (seen_rows s (cells m0)) c ≡ inner.cell)
  here = seen_from s (cells m0) up inner.cell inner.among

  place_here : here.0.place ≡ q
  place_here = ap (λ (z : Cell). z.place) here.2 ∙ inner.place

  pub there : IsSome (get m0 q)
  there = used_there m0 kept.shape here.0 here.1 q place_here

  at_q : at_place q was.rows ≡ Some inner.cell
  at_q = ap (λ k. at_place k was.rows) (sym inner.place) ∙ at_place_is was.rows (seen_apart s (cells m0) up kept.shape.apart) inner.cell inner.among

  module _ (above : Row) (paid : option_map (λ (e : StoreRow Row). e.payload) (get m0 q) ≡ Some above) where
    row_here : here.0.row ≡ above
    row_here = row_at m0 (cells m0) q kept.shape refl here.0 here.1 place_here above paid

    below : above.serial ≡ num inner.cell
    below = ap (λ (z : Row). z.serial) (sym row_here) ∙ ap num here.2

    serial_was : above.serial ≡ num_in (at_place q was.rows)
    serial_was = below ∙ sym (ap num_in at_q)

    level_was : above.level ≡ level_in (at_place q was.rows)
    level_was = ap (λ (z : Row). z.level) (sym row_here) ∙ (ap (λ (z : Cell). z.row.level) here.2 ∙ sym (ap level_in at_q))

    -- it lies there and so deep as contracts see it
    pub serial_here : above.serial ≡ num_in (at_place q v.rows)
    serial_here = serial_was ∙ ap (λ (z : View). num_in (at_place q z.rows)) is

    pub level_here : above.level ≡ level_in (at_place q v.rows)
    level_here = level_was ∙ ap (λ (z : View). level_in (at_place q z.rows)) is

    -- Its new child in the store m1.
    module _ (row : Row) (covered : Bool) (kind : Kind) (R : FinSet nat_cmp) (serial : ℕ) (row_is : row ≡ covered_by covered (below_row above.serial above.level serial kind R)) (low : (c : Cell) → In c (cells m0) → num c < serial)
        (law : (covered ≡ true) ↔ KeepsSpread s above) (p : ℕ) (free : get m0 p ≡ None) (m1 : Store) (now : m1 ≡ appended m0 q p row) where
      abbrev pub child : Cell
      child = record { place = p; row = row }

      parent_is : row.parent ≡ num here.0
      parent_is = ap (λ (z : Row). z.parent) row_is ∙ ap (λ (z : Row). z.serial) (sym row_here)

      serial_is : row.serial ≡ serial
      serial_is = ap (λ (z : Row). z.serial) row_is

      law_here : (covered ≡ true) ↔ ((here.0.row.covered ≡ true) ⊎ ((k : ℕ) × (is_spread_in s k ≡ true) × (contains here.0.row.roles k ≡ true)))
      law_here =
          let w : (covered ≡ true) ↔ KeepsSpread s here.0.row = subst (λ (z : Row). (covered ≡ true) ↔ KeepsSpread s z) (sym row_here) law in (
            (λ h. (w.0 h).1),
            (λ e. w.1 (some_spread s (seen_rows s (cells m0)) here.0 (cov here.0 here.1) e, e)),
          )

      pub child_covers : row.covered ≡ is_covered (is_spread_in s) (seen_rows s (cells m0)) child
      child_covers =
          ap (λ (z : Row). z.covered) row_is
          ∙ child_covered s (cells m0) up kept.shape.rising here.0 here.1 (cov here.0 here.1) child parent_is (λ z. let l = low here.0 here.1 in let e = serial_is in absurd (omega arith)) covered law_here

      module _ (rows : cells m1 ≡ cells m0 ++ record { place = p; row = row } ∷ []) where
        pub covers_then : TellsCovered s (cells m1)
        covers_then = subst (λ (zs : List Cell). TellsCovered s zs) (sym rows)
            (pushed_covers s (cells m0) up kept.shape.up child cov (here.0, here.1, sym parent_is, (let l = low here.0 here.1 in let e = serial_is in omega arith)) child_covers)

  -- ---- a node that is opened with these roles

  module _ (kind : Kind) (node : IsNode kind) (roles : FinSet nat_cmp) where
    -- the bases' own roles aren't spread
    pub own_here : MayOpenWith v (token_for kind) roles → (w : SpreadView) → s ≡ Some w → OwnApart w.tops
    own_here may w e = elim (subst (λ (z : View). MayOpenWith z (token_for kind) roles) (sym is) may) [
      | inl n ↦ (let bad : None ≡ Some w = sym n ∙ e in absurd (cc))
      | inr x ↦ own_apart x.0 x.1.is_past w (subst (λ (z : Option SpreadView). SpreadsAs z x.0.plan) e x.1.spread)
    ]

    -- where it is known what is kept at it, or told by the rows
    module _ (R : FinSet nat_cmp) (bare : Bool) (bare_is : bare ≡ is_bare kind roles) where
      pub opens_known : (K : FinSet nat_cmp) → MayOpenKept v (token_for kind) roles K → R ≡ cond (is_some s) K roles → OpensAs v q kind bare roles R
      opens_known K may_now e = subst (λ (z : View). OpensAs z q kind bare roles R) is (record {
        gone = bare_is;
        may = elim may [ inl n ↦ inl n | inr x ↦ inr (x.0, x.1, x.2, x.3) ];
        keeps = subst (λ (S : FinSet nat_cmp). KeptOf s (cells m0) q kind nodes roles S) (sym e) (views.kept_known s (cells m0) g0 waiting nodes taken0 most0 loans0 kept.shape.rising kept.shape.up kept.shape.apart q inner kind node roles K may);
      })
        where
          may : MayOpenKept (view_of s (cells m0) g0 waiting nodes taken0 most0 loans0) (token_for kind) roles K
          may = subst (λ (z : View). MayOpenKept z (token_for kind) roles K) (sym is) may_now

      pub opens_told : MayOpenWith v (token_for kind) roles → ((k : ℕ) → KeptOf s (cells m0) q kind k roles R) → (s1 : Option SpreadView) → s1 ≡ s → OpensAs (view_of s1 (cells m0) g0 waiting nodes taken0 most0 loans0) q kind bare roles R
      opens_told may_now keeps s1 e = subst (λ (z : View). OpensAs z q kind bare roles R) (view_as s1 e) (subst (λ (z : View). OpensAs z q kind bare roles R) is (record {
        gone = bare_is;
        may = subst (λ (z : View). MayOpenWith z (token_for kind) roles) (sym is) may_now;
        keeps = keeps nodes;
      }))

  module _ (kind : Kind) (node : IsNode kind) (bare : Bool) (roles R : FinSet nat_cmp) (opens_now : OpensAs v q kind bare roles R) (ahead : ℕ) where
    opens : OpensAs was q kind bare roles R
    opens = subst (λ (z : View). OpensAs z q kind bare roles R) (sym is) opens_now

    -- gone at once
    module _ (gone_now : bare ≡ true) (g1 : List ℕ) (taken1 : ℕ) (gone : g1 ≡ g0 ++ nodes ∷ []) (counted : taken1 ≡ capped (taken0 + ahead)) where
      abbrev now_bare : View
      now_bare = view_of s (cells m0) g1 waiting (nodes + 1) taken1 most0 loans0

      bare_was : OpenedWith was now_bare q None kind roles ahead
      bare_was = record {
        rows = refl;
        gone = gone;
        held = sym (ap not (sym opens.gone ∙ gone_now));
        free = λ d i e. absurd (cc);
        waiting = refl;
        nodes = refl;
        taken = counted;
        most = refl;
        spread = refl;
      }

      pub bare_opened : OpenedWith v now_bare q None kind roles ahead
      bare_opened = subst (λ (z : View). OpenedWith z now_bare q None kind roles ahead) is bare_was

      pub bare_stands : StandsWith v now_bare kind roles
      bare_stands = subst (λ (z : View). StandsWith z now_bare kind roles) is
          (views.stands_bare s (cells m0) g0 waiting nodes taken0 most0 loans0 kept.shape.rising kept.shape.up kept.shape.apart q inner kind node roles g1 taken1 ahead loans0 bare_was)

    -- or its row is there, with what is kept of its roles
    module _ (stays : bare ≡ false) (above : Row) (paid : option_map (λ (e : StoreRow Row). e.payload) (get m0 q) ≡ Some above) (row : Row) (covered : Bool)
        (row_is : row ≡ covered_by covered (below_row above.serial above.level nodes kind R)) (law : (covered ≡ true) ↔ KeepsSpread s above) (p : ℕ) (free : get m0 p ≡ None) (m1 : Store) (now : m1 ≡ appended m0 q p row)
        (g1 : List ℕ) (cap : ℕ) (gone : g1 ≡ g0) (room : length g0 + (held + 1) ≤ cap) where
      not_bare : is_bare kind roles ≡ false
      not_bare = sym opens.gone ∙ stays

      rows_then : cells m1 ≡ cells m0 ++ record { place = p; row = row } ∷ []
      rows_then = cells_opened m0 m1 (record (view_of s (cells m0) g0 waiting nodes taken0 most0 loans0) { rows = cells m0 }) q p row above g0 cap0 held nodes refl kept (innermost_kept s (cells m0) up q inner) free now (ap (λ (z : Row). z.serial) row_is) paid
          (ap (λ (z : Row). z.parent) row_is)

      covers_child : row.covered ≡ is_covered (is_spread_in s) (seen_rows s (cells m0)) (record { place = p; row = row })
      covers_child = child_covers above paid row covered kind R nodes row_is kept.below law p free m1 now

      from_parent : union R (retain (roles_at (seen_rows s (cells m0)) above.serial) (is_spread_in s)) ≡ roles
      from_parent = views.roles_are s (cells m0) g0 waiting nodes taken0 most0 loans0 kept.shape.rising kept.shape.up kept.shape.apart q inner kind node roles R opens.keeps opens.may above.serial above.level p covered (below above paid)

      alive : IsDead row → ⊥
      alive dead = alive_new row kind roles (ap (λ (z : Row). z.is_open) row_is) (dead.1 ∙ sym roles_none) not_bare dead
        where
          child_num : (num (record { place = p; row = row }) == 0) ≡ false
          child_num = ne_eqb row.serial 0 (λ z. let l = kept.below here.0 here.1 in let e = ap (λ (x : Row). x.serial) row_is in absurd (omega arith))

          kept_none : R ≡ empty
          kept_none = sym (ap (λ (z : Row). z.roles) row_is) ∙ dead.1

          above_none : from_above (is_spread_in s) (seen_rows s (cells m0)) (record { place = p; row = row }) ≡ empty
          above_none = uncovered_from (is_spread_in s) (seen_rows s (cells m0)) (record { place = p; row = row }) (sym covers_child ∙ dead.2)

          parent_none : retain (roles_at (seen_rows s (cells m0)) above.serial) (is_spread_in s) ≡ empty
          parent_none =
              sym (ap (λ (k : ℕ). retain (roles_at (seen_rows s (cells m0)) k) (is_spread_in s)) (ap (λ (z : Row). z.parent) row_is))
              ∙ (sym (ap (λ b. cond b empty (retain (roles_at (seen_rows s (cells m0)) row.parent) (is_spread_in s))) child_num) ∙ above_none)

          both_none : union (empty {R = nat_cmp}) empty ≡ empty
          both_none = same_roles (union (empty {R = nat_cmp}) empty) empty (λ k. in_union (empty {R = nat_cmp}) empty k ∙ ap (λ b. b || contains (empty {R = nat_cmp}) k) (contains-empty nat_cmp k))

          roles_none : roles ≡ empty
          roles_none = sym from_parent ∙ ((λ t. union (kept_none t) (parent_none t)) ∙ both_none)

      pub kept_born : Kept m1 g1 cap (held + 1) (nodes + 1)
      kept_born = subst (λ (z : List ℕ). Kept m1 z cap (held + 1) (nodes + 1)) (sym gone)
          (kept_opened m0 m1 (record (view_of s (cells m0) g0 waiting nodes taken0 most0 loans0) { rows = cells m0 }) q p row above g0 g0 cap0 cap held nodes refl kept (innermost_kept s (cells m0) up q inner) free now (ap (λ (z : Row). z.serial) row_is) paid
          (ap (λ (z : Row). z.parent) row_is) room alive)

      pub covers_born : TellsCovered s (cells m1)
      covers_born = covers_then above paid row covered kind R nodes row_is kept.below law p free m1 now rows_then

      module _ (taken1 most1 : ℕ) (loans1 : List ℕ) (counted : taken1 ≡ capped (taken0 + ahead)) (most_is : most1 ≡ max most0 (len m1)) where
        abbrev now_born : View
        now_born = view_of s (cells m1) g1 waiting (nodes + 1) taken1 most1 loans1

        rows_born : seen_rows s (cells m1) ≡ seen_rows s (cells m0) ++ record { place = p; row = row_with was q kind roles } ∷ []
        rows_born =
            ap (seen_rows s) (rows_then ∙ ap (λ (r : Row). cells m0 ++ record { place = p; row = r } ∷ []) row_is)
            ∙ (views.seen_new s (cells m0) g0 waiting nodes taken0 most0 loans0 kept.shape.rising kept.shape.up kept.shape.apart q inner kind node roles R opens.keeps opens.may above.serial above.level p covered (below above paid)
            ∙ (λ t. seen_rows s (cells m0) ++ record { place = p; row = below_row (serial_was above paid t) (level_was above paid t) nodes kind roles } ∷ []))

        most_born : most1 ≡ max most0 (length (seen_rows s (cells m0)) + 1)
        most_born =
            most_is
            ∙ ap (max most0) (more_rows m1 (cells m0) (record { place = p; row = row }) kept_born.shape rows_then ∙ ap (λ n. n + 1) (sym (ap length (seen_is s (cells m0) up) ∙ length-map (cells m0) (spread_cell (is_spread_in s) (seen_rows s (cells m0))))))

        born_was : OpenedWith was now_born q (Some p) kind roles ahead
        born_was = record {
          rows = rows_born;
          gone = gone ∙ sym (append-nil g0);
          held = sym (ap not not_bare);
          free = λ d i e.
              let x = seen_from s (cells m0) up d i in
              free_place m0 (cells m0) p refl kept.shape free x.0 x.1 (ap (λ (z : Cell). z.place) x.2 ∙ sym (some_place p d.place e));
          waiting = refl;
          nodes = refl;
          taken = counted;
          most = most_born;
          spread = refl;
        }
          where
            some_place : (a b : ℕ) → Some a ≡ Some b → a ≡ b
            some_place a b e = cc

        rows_full : cells m1 ≡ cells m0 ++ record { place = p; row = covered_by covered (below_row above.serial above.level nodes kind R) } ∷ []
        rows_full = rows_then ∙ ap (λ (r : Row). cells m0 ++ record { place = p; row = r } ∷ []) row_is

        stands_was : StandsWith was now_born kind roles
        stands_was =
            subst (λ (ys : List Cell). OpenedWith was (view_of s ys g1 waiting (nodes + 1) taken1 most1 loans1) q (Some p) kind roles ahead → StandsWith was (view_of s ys g1 waiting (nodes + 1) taken1 most1 loans1) kind roles) (sym rows_full)
            (subst (λ (zs : List ℕ). OpenedWith was (view_of s (cells m0 ++ record { place = p; row = covered_by covered (below_row above.serial above.level nodes kind R) } ∷ []) zs waiting (nodes + 1) taken1 most1 loans1) q (Some p) kind roles ahead
            → StandsWith was (view_of s (cells m0 ++ record { place = p; row = covered_by covered (below_row above.serial above.level nodes kind R) } ∷ []) zs waiting (nodes + 1) taken1 most1 loans1) kind roles) (sym gone)
            (views.stands_row s (cells m0) g0 waiting nodes taken0 most0 loans0 kept.shape.rising kept.shape.up kept.shape.apart q inner kind node roles R opens.keeps opens.may above.serial above.level p covered (below above paid)
            (subst (λ (ys : List Cell). Upward [] ys) rows_full (upward (cells m1) kept_born.shape.rising kept_born.shape.up)) taken1 ahead most1 loans1))
            born_was

        pub born_opened : OpenedWith v now_born q (Some p) kind roles ahead
        born_opened = subst (λ (z : View). OpenedWith z now_born q (Some p) kind roles ahead) is born_was

        pub born_stands : StandsWith v now_born kind roles
        born_stands = subst (λ (z : View). StandsWith z now_born kind roles) is stands_was
