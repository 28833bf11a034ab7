-- A node closed and a role taken back, for a buffer with these fields: what the calls of the parts ask for, and what contracts say of it then; and statements that wait no more.
use Rattle.std.proofs.Common.{◌≡◌, ◌+◌, ℕ, true, false, List, [], length, map, refl, sym, ◌∙◌, ap, subst, arith, Some, None, Option}
use Rattle.std.specs.List.{flat_map}
use Rattle.std.specs.Ordering.{nat_cmp}
use Rattle.std.specs.FinMap.{get}
use Rattle.std.specs.FinSet.{contains, from_list}
use Rattle.std.proofs.lemmas.List.{drop_all}
use Rattle.gcx_model.specs.Held.{held}
use Rattle.gcx_model.specs.Past.{Past, awaited}
use Rattle.gcx_model.specs.Tree.{Node}
use Rattle.node_store.specs.Rows.{StoreRow, changed_at, paid_by}
use Rattle.buf_tree.specs.declared.ahead.Ahead.{Ahead}
use Rattle.buf_tree.specs.Calls.{Closed, HasRole, Left, Untaken}
use Rattle.buf_tree.specs.Purge.{Cleared}
use Rattle.buf_tree.specs.Row.{Row}
use Rattle.buf_tree.specs.Rows.{shut_row, untaken}
use Rattle.buf_tree.specs.Shape.{Store, cells, with_at}
use Rattle.buf_tree.specs.Spread.{SpreadView, is_spread_in, kept_roles, TellsCovered}
use Rattle.buf_tree.specs.Stands.{StandsFor, StandsClosed, past_told}
use Rattle.buf_tree.specs.View.{View, Innermost, Kept, Ready, capped}
use Rattle.buf_tree.proofs.Changes.{g_num}
use Rattle.buf_tree.proofs.EditsSeen.{innermost_kept, role_kept}
use Rattle.buf_tree.proofs.Feeding.{stands_closed}
use Rattle.buf_tree.proofs.Keeping.{ready_shut, cells_shut, role_there, ready_untaken, cells_untaken, left_by_purge}
use Rattle.buf_tree.proofs.KeptStands.{kept_nums}
use Rattle.buf_tree.proofs.LeftSeen.{left_shut, left_untaken, keeps_closed}
use Rattle.buf_tree.proofs.Lifting.{rising_map, seen_apart, seen_rising}
use Rattle.buf_tree.proofs.SignedViews.{view_of}
use Rattle.buf_tree.proofs.Spreading.{Upward, upward}

-- v is what contracts see of it
module _ (s : Option SpreadView) (m0 : Store) (g0 : List ℕ) (waiting : List Ahead) (cap held nodes taken0 most0 : ℕ) (loans0 : List ℕ) (v : View) (is : view_of s (cells m0) g0 waiting nodes taken0 most0 loans0 ≡ v)
    (kept : Kept m0 g0 cap held nodes) (cov : TellsCovered s (cells m0)) (p : ℕ) where
  abbrev was : View
  was = view_of s (cells m0) g0 waiting nodes taken0 most0 loans0

  up : Upward [] (cells m0)
  up = upward (cells m0) kept.shape.rising kept.shape.up

  -- the node at the place closed
  module _ (m1 : Store) (f : m1 ≡ changed_at (paid_by shut_row) p m0) (inner : Innermost v.rows p) where
    inner_was : Innermost was.rows p
    inner_was = subst (λ (z : View). Innermost z.rows p) (sym is) inner

    pub ready_closed : Ready m1 p g0 cap held nodes
    ready_closed = ready_shut m0 m1 (cells m0) p g0 cap held nodes refl f kept (innermost_kept s (cells m0) up p inner_was)

    module _ (m2 : Store) (g1 : List ℕ) (cleared : Cleared m1 m2 g0 g1) (most1 : ℕ) (loans1 : List ℕ) where
      abbrev now_closed : View
      now_closed = view_of s (cells m2) g1 waiting nodes taken0 most1 loans1

      left_kept : Left (record was { rows = cells m0 }) (record now_closed { rows = cells m2 }) (map (with_at shut_row p) (cells m0))
      left_kept = left_by_purge (record was { rows = cells m0 }) (record now_closed { rows = cells m2 }) m1 m2 (map (with_at shut_row p) (cells m0)) (cells_shut m0 m1 (cells m0) p refl f kept.shape) refl cleared

      both_closed : Left was now_closed (map (with_at shut_row p) was.rows) × TellsCovered s (cells m2)
      both_closed = left_shut was now_closed p refl refl (kept.shape.rising, kept.shape.up) (cleared.shape.rising, cleared.shape.up) cov left_kept

      pub covers_closed : TellsCovered s (cells m2)
      covers_closed = both_closed.1

      module _ (still : most1 ≡ most0) where
        closed_was : Closed was now_closed p
        closed_was = record { leaves = both_closed.0; waiting = refl; nodes = refl; taken = refl; most = still; spread = refl }

        pub closed_then : Closed v now_closed p
        closed_then = subst (λ (z : View). Closed z now_closed p) is closed_was

        pub stands_then : v.waiting ≡ [] → StandsClosed v now_closed
        stands_then idle = subst (λ (z : View). StandsClosed z now_closed) is (λ past st m.
            stands_closed was now_closed p (seen_rising s (cells m0) up kept.shape.rising)
            (rising_map (with_at shut_row p) (g_num shut_row p (λ r. (refl, refl))) was.rows (seen_rising s (cells m0) up kept.shape.rising))
            (seen_apart s (cells m0) up kept.shape.apart)
            inner_was (ap (λ (z : View). z.waiting) is ∙ idle) closed_was past st m
            (keeps_closed s past st.is_past m p (cells m0) (cells m2) now_closed.rows up st.rows st.kept left_kept.left left_kept.purged
            (kept_nums s (cells m2) (upward (cells m2) cleared.shape.rising cleared.shape.up))))

  -- a role that isn't spread taken back from it
  module _ (k : ℕ) (role : HasRole v.rows p k) (plain : is_spread_in v.spread k ≡ false) where
    plain_was : is_spread_in s k ≡ false
    plain_was = ap (λ (z : View). is_spread_in z.spread k) is ∙ plain

    role_was : HasRole (cells m0) p k
    role_was = role_kept s (cells m0) up p k plain_was (subst (λ (z : View). HasRole z.rows p k) (sym is) role)

    pub role_kept_there : (e : StoreRow Row) × (get m0 p ≡ Some e) × (contains e.payload.roles k ≡ true)
    role_kept_there = role_there m0 (cells m0) p k kept.shape refl role_was

    module _ (m1 : Store) (f : m1 ≡ changed_at (paid_by (untaken k)) p m0) where
      pub ready_taken : Ready m1 p g0 cap held nodes
      ready_taken = ready_untaken m0 m1 (cells m0) p k g0 cap held nodes refl f kept role_was

      module _ (m2 : Store) (g1 : List ℕ) (cleared : Cleared m1 m2 g0 g1) (taken1 most1 : ℕ) (loans1 : List ℕ) where
        abbrev now_taken : View
        now_taken = view_of s (cells m2) g1 waiting nodes taken1 most1 loans1

        both_taken : Left was now_taken (map (with_at (untaken k) p) was.rows) × TellsCovered s (cells m2)
        both_taken = left_untaken was now_taken p refl refl (kept.shape.rising, kept.shape.up) (cleared.shape.rising, cleared.shape.up) cov k plain_was
            (left_by_purge (record was { rows = cells m0 }) (record now_taken { rows = cells m2 }) m1 m2 (map (with_at (untaken k) p) (cells m0)) (cells_untaken m0 m1 (cells m0) p k refl f kept.shape) refl cleared)

        pub covers_taken : TellsCovered s (cells m2)
        covers_taken = both_taken.1

        pub taken_then : taken1 ≡ capped (taken0 + 1) → most1 ≡ most0 → Untaken v now_taken p k
        taken_then counted still = subst (λ (z : View). Untaken z now_taken p k) is (record { leaves = both_taken.0; waiting = refl; nodes = refl; taken = counted; most = still; spread = refl })

-- where all actions so far count as before the last token, none waits
pub stands_told : (v w : View) → w ≡ record v { waiting = [] } → (past : Past) → StandsFor v past → StandsFor w (past_told past)
stands_told v w e past h = subst (λ (z : View). StandsFor z (past_told past)) (sym e) (record {
  is_past = record { core = h.is_past.core; good = h.is_past.good; placed = h.is_past.placed; grown = h.is_past.grown; stated = h.is_past.stated; within = omega arith };
  spread = h.spread;
  rows = h.rows;
  kept = h.kept ∙ (λ t. map (λ n. from_list {R = nat_cmp} (sym (same v.spread n) t)) (held past.plan past.tree past.acts));
  waiting = sym (ap (flat_map (awaited past.tree)) (drop_all (length past.acts) past.acts (omega arith)));
  nodes = h.nodes;
})
  where
    same : (s : Option SpreadView) (n : Node) → kept_roles s (past_told past) n ≡ kept_roles s past n
    same None n = refl
    same (Some x) n = refl
