-- The row of a passed element that is made late, for a buffer with these fields: what contracts say of it then.
use Rattle.std.proofs.Common.{◌≡◌, ℕ, ◌+◌, ◌≤◌, ◌<◌, Bool, true, false, cond, List, [], ◌∷◌, ◌++◌, length, max, refl, sym, ◌∙◌, ap, subst, inl, inr, Some, None, Option, arith}
use Rattle.std.specs.Prelude.{◌↔◌, option_map}
use Rattle.std.specs.Ordering.{nat_cmp}
use Rattle.std.specs.FinMap as map
use Rattle.std.specs.FinMap.{get}
use Rattle.std.specs.FinSet.{empty, contains, retain, contains-empty}
use Rattle.std.proofs.lemmas.Bool.{and_parts, and_from, or_right, true≢false, false≢true, ne_eqb, false_from_ne_true}
use Rattle.gcx_base.specs.declared.kind.Kind.TheVariants.{Element}
use Rattle.gcx_model.specs.Tree.{Node, Root, Under}
use Rattle.gcx_model.specs.Held.{held, is_held, live}
use Rattle.gcx_model.specs.Past.{Past, IsPast}
use Rattle.tree_laws.proofs.Lists.{In, In-filter, In-left, In-right}
use Rattle.tree_laws.proofs.Matches.{Numbered-same}
use Rattle.past_laws.proofs.Bases.{is_grown}
use Rattle.spread_laws.specs.Tops.{is_spread}
use Rattle.spread_laws.proofs.Tops.{live_by_kept}
use Rattle.node_store.specs.Rows.{StoreRow, appended}
use Rattle.buf_tree.specs.declared.ahead.Ahead.{Ahead}
use Rattle.buf_tree.specs.Loose.{Passed, last_open, passed_cell, cells_passed, with_passed}
use Rattle.buf_tree.specs.PassedCalls.{OpenedPassed, MayRest, RestsLoosely}
use Rattle.buf_tree.specs.Row.{Row}
use Rattle.buf_tree.specs.Rows.{below_row, covered_by}
use Rattle.buf_tree.specs.Shape.{Store, Cell, num, cells, CellsRise, at_place}
use Rattle.buf_tree.specs.Spread.{SpreadView, SpreadsAs, is_spread_in, roles_at, is_covered, seen_rows, TellsCovered}
use Rattle.buf_tree.specs.Stands.{Seen, seen, told, StandsFor}
use Rattle.buf_tree.specs.Tops.{KeepsSpread}
use Rattle.buf_tree.specs.View.{View, Innermost, Kept, num_in, level_in}
use Rattle.buf_tree.proofs.BornViews.{serial_here, level_here, child_covers, covers_then}
use Rattle.buf_tree.proofs.EditsSeen.{innermost_kept}
use Rattle.buf_tree.proofs.Keeping.{free_place, more_rows}
use Rattle.buf_tree.proofs.KeptRows.{has_live_role}
use Rattle.buf_tree.proofs.LateRows.{alive_open, cells_late, kept_late, rests_loosely}
use Rattle.buf_tree.proofs.Lifting.{seen_apart, seen_from, seen_in, seen_rising}
use Rattle.buf_tree.proofs.OwnPlaces.{last_is_innermost}
use Rattle.buf_tree.proofs.PassedRows.{places_of, places_length}
use Rattle.buf_tree.proofs.PushedSeen.{pushed_seen}
use Rattle.buf_tree.proofs.SeenReading.{as_many}
use Rattle.buf_tree.proofs.Shaping.{at_place_is}
use Rattle.buf_tree.proofs.SignedViews.{view_of}
use Rattle.buf_tree.proofs.SpreadTells.{spreads}
use Rattle.buf_tree.proofs.Spreading.{Roles, in_retain, same_roles, roles_self, Upward, upward, spread_cell, empty_union, from_uncovered}
use Rattle.buf_tree.proofs.Standing.{pair_left, parent_told}

module _ (s : Option SpreadView) (m0 : Store) (g0 : List ℕ) (waiting : List Ahead) (cap count nodes taken0 most0 : ℕ) (loans0 : List ℕ) (v : View) (is : view_of s (cells m0) g0 waiting nodes taken0 most0 loans0 ≡ v)
    (kept : Kept m0 g0 cap count nodes) (cov : TellsCovered s (cells m0)) (q : ℕ) (inner : Innermost v.rows q) (x : Passed) (behind : (c : Cell) → In c v.rows → num c < x.serial) (passed : x.serial < v.nodes) (may : MayRest v x) where
  abbrev ks : List Cell
  ks = cells m0

  abbrev was : View
  was = view_of s (cells m0) g0 waiting nodes taken0 most0 loans0

  abbrev rs : List Cell
  rs = seen_rows s (cells m0)

  abbrev sp : ℕ → Bool
  sp = is_spread_in s

  up : Upward [] (cells m0)
  up = upward (cells m0) kept.shape.rising kept.shape.up

  -- the row of the innermost open node
  top : Innermost (seen_rows s (cells m0)) q
  top = subst (λ (z : View). Innermost z.rows q) (sym is) inner

  at_top : at_place q rs ≡ Some top.cell
  at_top = ap (λ k. at_place k rs) (sym top.place) ∙ at_place_is rs (seen_apart s ks up kept.shape.apart) top.cell top.among

  rising : CellsRise rs
  rising = seen_rising s ks up kept.shape.rising

  behind_was : (c : Cell) → In c rs → num c < x.serial
  behind_was c i = behind c (subst (λ (z : View). In c z.rows) is i)

  low : x.serial < nodes
  low = let n = ap (λ (z : View). z.nodes) is in omega (arith, n, passed)

  last_was : last_open rs ≡ Some top.cell
  last_was = last_is_innermost rs q rising top

  -- no spread role comes from the row above it
  spread_of : (past : Past) → IsPast past → (z : Option SpreadView) → SpreadsAs z past.plan → (k : ℕ) → is_spread_in z k ≡ true → is_spread past.plan k ≡ true
  spread_of past p None h k e = absurd (false≢true e)
  spread_of past p (Some w) h k e = sym (spreads past p w h k) ∙ e

  none_from : (k : ℕ) → is_spread_in s k ≡ true → contains top.cell.row.roles k ≡ true → ⊥
  none_from k e h = elim (subst (λ (z : View). MayRest z x) (sym is) may) [
    | inl f ↦ false≢true (ap (λ (z : Option SpreadView). is_spread_in z k) (sym f) ∙ e)
    | inr l ↦ by_past l.0 l.1 (l.2 (places_of (x ∷ l.0)) (places_length (x ∷ l.0)))
  ]
    where
      by_past : (xs : List Passed) (past : Past) → StandsFor (with_passed (places_of (x ∷ xs)) (x ∷ xs) was) past → ⊥
      by_past xs past st = under new.0 new.1 new.2
        where
          new : (n : Node) × In n (held past.plan past.tree past.acts) × (seen (passed_cell (num_in (last_open rs)) (level_in (last_open rs)) x.serial x) ≡ told past n)
          new = pair_left seen (told past) (rs ++ cells_passed (places_of (x ∷ xs)) (x ∷ xs) rs) (held past.plan past.tree past.acts) st.rows (passed_cell (num_in (last_open rs)) (level_in (last_open rs)) x.serial x)
              (In-right _ rs (cells_passed (places_of (x ∷ xs)) (x ∷ xs) rs) (inl refl))

          old : (m : Node) × In m (held past.plan past.tree past.acts) × (seen top.cell ≡ told past m)
          old = pair_left seen (told past) (rs ++ cells_passed (places_of (x ∷ xs)) (x ∷ xs) rs) (held past.plan past.tree past.acts) st.rows top.cell (In-left top.cell rs (cells_passed (places_of (x ∷ xs)) (x ∷ xs) rs) top.among)

          inside : (n : Node) → In n (held past.plan past.tree past.acts) → In n past.tree.nodes
          inside n i = (In-filter (is_held past.plan past.tree past.acts) n past.tree.nodes i).0

          live_above : live past.plan past.tree past.acts old.0 k ≡ true
          live_above = sym (ap (λ (z : Seen). contains z.roles k) old.2 ∙ has_live_role past st.is_past old.0 k) ∙ h

          under : (n : Node) → In n (held past.plan past.tree past.acts) → seen (passed_cell (num_in (last_open rs)) (level_in (last_open rs)) x.serial x) ≡ told past n → ⊥
          under Root i f = let a = ap (λ (z : Seen). z.serial) f in let b = behind_was top.cell top.among in omega arith
          under (Under p t kd) i f =
              let a = ap (λ (z : Seen). z.serial) f in
              let b = behind_was top.cell top.among in
              let par = parent_told (below_row (num_in (last_open rs)) (level_in (last_open rs)) x.serial (Element x.name) empty) p t kd (λ z. omega arith) a (ap (λ (z : Seen). z.parent) f) in
              let same : p ≡ old.0 = Numbered-same 0 past.tree.nodes (is_grown past st.is_past).numbered p old.0 ((is_grown past st.is_past).upward p t kd (inside (Under p t kd) i)) (inside old.0 old.1)
              (sym par ∙ (ap num_in last_was ∙ ap (λ (z : Seen). z.serial) old.2)) in
              let live_here = (live_by_kept past st.is_past k).1 p t kd (inside (Under p t kd) i)
              ∙ or_right _ _ (and_from _ _ (spread_of past st.is_past s st.spread k e) (subst (λ (z : Node). live past.plan past.tree past.acts z k ≡ true) (sym same) live_above)) in
              true≢false (sym live_here ∙ (sym (has_live_role past st.is_past (Under p t kd) k) ∙ (sym (ap (λ (z : Seen). contains z.roles k) f) ∙ contains-empty nat_cmp k)))

  from_none : (k : ℕ) → k ≡ num top.cell → retain (roles_at rs k) sp ≡ empty
  from_none k e =
      ap (λ (z : ℕ). retain (roles_at rs z) sp) e
      ∙ (ap (λ (S : Roles). retain S sp) (roles_self rs rising top.cell top.among)
      ∙ same_roles _ _ (λ j. in_retain top.cell.row.roles sp j ∙ (false_from_ne_true _ (λ h. let a = and_parts (contains top.cell.row.roles j) (sp j) h in none_from j a.1 a.0) ∙ sym (contains-empty nat_cmp j))))

  inner_x : x.serial ≡ 0 → ⊥
  inner_x e = let b = behind_was top.cell top.among in omega arith

  uncovered_at : (c : Cell) → num c ≡ x.serial → c.row.parent ≡ num top.cell → is_covered sp rs c ≡ false
  uncovered_at c e f = from_uncovered sp rs c (ap (λ b. cond b empty (retain (roles_at rs c.row.parent) sp)) (ne_eqb (num c) 0 (λ z. inner_x (sym e ∙ z))) ∙ from_none c.row.parent f)

  behind_kept : (d : Cell) → In d ks → num d < x.serial
  behind_kept d i = behind_was (spread_cell sp rs d) (seen_in s ks up d i)

  module _ (above : Row) (paid : option_map (λ (e : StoreRow Row). e.payload) (get m0 q) ≡ Some above) (covered : Bool) (law : (covered ≡ true) ↔ KeepsSpread s above)
      (row : Row) (row_is : row ≡ covered_by covered (below_row above.serial above.level x.serial (Element x.name) empty)) (p : ℕ) (free : get m0 p ≡ None) (m1 : Store) (now : m1 ≡ appended m0 q p row) where
    serial_top : above.serial ≡ num top.cell
    serial_top = serial_here s m0 g0 waiting cap count nodes taken0 most0 loans0 v is kept cov q inner above paid ∙ (sym (ap (λ (z : View). num_in (at_place q z.rows)) is) ∙ ap num_in at_top)

    level_top : above.level ≡ top.cell.row.level
    level_top = level_here s m0 g0 waiting cap count nodes taken0 most0 loans0 v is kept cov q inner above paid ∙ (sym (ap (λ (z : View). level_in (at_place q z.rows)) is) ∙ ap level_in at_top)

    covered_not : covered ≡ false
    covered_not =
        sym (ap (λ (z : Row). z.covered) row_is)
        ∙ (child_covers s m0 g0 waiting cap count nodes taken0 most0 loans0 v is kept cov q inner above paid row covered (Element x.name) empty x.serial row_is behind_kept law p free m1 now
        ∙ uncovered_at (record { place = p; row = row }) (ap (λ (z : Row). z.serial) row_is) (ap (λ (z : Row). z.parent) row_is ∙ serial_top))

    abbrev c : Cell
    c = passed_cell (num_in (last_open rs)) (level_in (last_open rs)) p x

    c_is : record { place = p; row = row } ≡ c
    c_is =
        ap (λ (r : Row). record { place = p; row = r }) (row_is ∙ ap (λ b. covered_by b (below_row above.serial above.level x.serial (Element x.name) empty)) covered_not)
        ∙ (λ t. record { place = p; row = below_row ((serial_top ∙ sym (ap num_in last_was)) t) ((level_top ∙ sym (ap level_in last_was)) t) x.serial (Element x.name) empty })

    behind_row : (d : Cell) → In d ks → num d < row.serial
    behind_row d i = let b = behind_kept d i in let e = ap (λ (r : Row). r.serial) row_is in omega (arith, b, e)

    abbrev flat : View
    flat = record was { rows = cells m0 }

    inner_kept : Innermost (cells m0) q
    inner_kept = innermost_kept s (cells m0) up q top

    cells_row : cells m1 ≡ ks ++ record { place = p; row = row } ∷ []
    cells_row = cells_late m0 m1 flat q p row above g0 cap count nodes refl kept inner_kept free now behind_row paid (ap (λ (r : Row). r.parent) row_is)

    cells_then : cells m1 ≡ ks ++ c ∷ []
    cells_then = cells_row ∙ ap (λ (z : Cell). ks ++ z ∷ []) c_is

    pub kept_then : (g1 : List ℕ) (cap1 : ℕ) → length g1 + (count + 1) ≤ cap1 → Kept m1 g1 cap1 (count + 1) nodes
    kept_then g1 cap1 room =
        kept_late m0 m1 flat q p row above g0 cap count nodes refl kept inner_kept free now behind_row paid (ap (λ (r : Row). r.parent) row_is) g1 cap1 room (let e = ap (λ (r : Row). r.serial) row_is in omega (arith, e, low)) (alive_open row (ap (λ (r : Row). r.is_open) row_is))

    pub covers_late : TellsCovered s (cells m1)
    covers_late = covers_then s m0 g0 waiting cap count nodes taken0 most0 loans0 v is kept cov q inner above paid row covered (Element x.name) empty x.serial row_is behind_kept law p free m1 now cells_row

    rows_then : seen_rows s (ks ++ c ∷ []) ≡ rs ++ c ∷ []
    rows_then =
        pushed_seen s ks up kept.shape.up c
        ∙ ap (λ (S : Roles). rs ++ record { place = p; row = record c.row { roles = S; covered = false } } ∷ []) (empty_union sp empty (retain (roles_at rs c.row.parent) sp) refl (from_none c.row.parent (ap num_in last_was)))

    as_seen : length (cells m0) ≡ length (seen_rows s (cells m0))
    as_seen = as_many s ks up

    module _ (g1 : List ℕ) (gone : g1 ≡ g0) (most1 : ℕ) (loans1 : List ℕ) (most : most1 ≡ max most0 (map.len m1)) where
      abbrev then_ : View
      then_ = view_of s (ks ++ c ∷ []) g0 waiting nodes taken0 most1 loans1

      opened_was : OpenedPassed was then_ p x
      opened_was = record {
        rows = rows_then;
        gone = refl;
        free = λ d i e. let y = seen_from s ks up d i in free_place m0 ks p refl kept.shape free y.0 y.1 (ap (λ (z : Cell). z.place) y.2 ∙ e);
        waiting = refl;
        nodes = refl;
        taken = refl;
        most =
            let k = kept_then g0 (length g0 + (count + 1)) (omega arith) in
            most ∙ (ap (max most0) (more_rows m1 ks c k.shape cells_then) ∙ ap (λ n. max most0 (n + 1)) as_seen);
        spread = refl;
      }

      moved : then_ ≡ view_of s (cells m1) g1 waiting nodes taken0 most1 loans1
      moved = λ t. view_of s (sym cells_then t) (sym gone t) waiting nodes taken0 most1 loans1

      pub opened_then : OpenedPassed v (view_of s (cells m1) g1 waiting nodes taken0 most1 loans1) p x
      opened_then = subst (λ (z : View). OpenedPassed v z p x) moved (subst (λ (z : View). OpenedPassed z then_ p x) is opened_was)

      pub rests_then : RestsLoosely v (view_of s (cells m1) g1 waiting nodes taken0 most1 loans1) x
      rests_then = subst (λ (z : View). RestsLoosely v z x) moved (subst (λ (z : View). RestsLoosely z then_ x) is (rests_loosely was then_ p x opened_was refl))
