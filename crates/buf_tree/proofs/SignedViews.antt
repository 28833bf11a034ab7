-- A statement that is carried out, for a buffer with these fields: what the calls of its parts ask for, and what contracts say of it then.
use Rattle.std.proofs.Common.{◌≡◌, ℕ, ◌+◌, Bool, List, [], ◌∷◌, ◌++◌, refl, sym, ◌∙◌, ap, subst, Some, None, Option}
use Rattle.std.specs.Prelude.{option_map, IsSome}
use Rattle.std.specs.FinMap.{get}
use Rattle.gcx_model.specs.declared.item.Off.{Off}
use Rattle.gcx_model.specs.ItemView.{off_tree}
use Rattle.gcx_model.specs.Placed.{offs_in}
use Rattle.gcx_model.specs.Past.{Past, past_acted}
use Rattle.gcx_model.specs.Run.{Offed}
use Rattle.tree_laws.proofs.Lists.{In}
use Rattle.node_store.specs.Rows.{StoreRow, changed_at, paid_by}
use Rattle.buf_tree.specs.Row.{Row}
use Rattle.buf_tree.specs.declared.ahead.Ahead.{Ahead}
use Rattle.buf_tree.specs.Calls.{Signed}
use Rattle.buf_tree.specs.Recount.{Recounting}
use Rattle.buf_tree.specs.Rows.{signed_for}
use Rattle.buf_tree.specs.Shape.{Store, Cell, cells, Shaped}
use Rattle.buf_tree.specs.Spread.{SpreadView, is_alone_in, seen_rows, TellsCovered}
use Rattle.buf_tree.specs.Stands.{StandsFor, StandsSigned, Due, IsAhead, IsBehind}
use Rattle.buf_tree.specs.View.{View, Kept, capped, serial_at}
use Rattle.buf_tree.specs.Withdraw.{Taking, TakingFrom, TakenBack, SpreadBack, Withdrawn, TellsKeepers, top_for}
use Rattle.buf_tree.proofs.Acting as acting
use Rattle.buf_tree.proofs.ActingSpread as spread
use Rattle.buf_tree.proofs.Lifting.{seen_from}
use Rattle.buf_tree.proofs.Reading.{row_at}
use Rattle.buf_tree.proofs.Spreading.{upward}
use Rattle.buf_tree.proofs.Withdrawing.{withdrawn_by}

-- what contracts see of a buffer with these fields
abbrev pub view_of : Option SpreadView → List Cell → (gone : List ℕ) → List Ahead → (nodes taken most : ℕ) → (loans : List ℕ) → View
view_of s kept gone waiting nodes taken most loans = record { rows = seen_rows s kept; kept = kept; spread = s; gone = gone; waiting = waiting; nodes = nodes; taken = taken; most = most; loans = loans }

-- the row of the place, as it is kept
module _ (s : Option SpreadView) (m0 : Store) (g0 : List ℕ) (waiting : List Ahead) (cap held nodes taken0 most0 : ℕ) (loans0 : List ℕ) (p : ℕ) (off : Off) (kept : Kept m0 g0 cap held nodes) (cov : TellsCovered s (cells m0)) (due : Due (view_of s (cells m0) g0 waiting nodes taken0 most0 loans0) p off) where
  pub there_due : IsSome (get m0 p)
  there_due = spread.there m0 (changed_at (paid_by (signed_for off.role.0)) p m0) (view_of s (cells m0) g0 waiting nodes taken0 most0 loans0) p off refl refl g0 cap held nodes kept cov refl due

  -- it lies as deep as contracts see it
  pub level_due : (r : Row) → option_map (λ (e : StoreRow Row). e.payload) (get m0 p) ≡ Some r → r.level ≡ due.cell.row.level
  level_due r e =
      let x = seen_from s (cells m0) (upward (cells m0) kept.shape.rising kept.shape.up) due.cell due.among in
      ap (λ (z : Row). z.level) (sym (row_at m0 (cells m0) p kept.shape refl x.0 x.1 (ap (λ (z : Cell). z.place) x.2 ∙ due.place) r e)) ∙ ap (λ (z : Cell). z.row.level) x.2

module _ (s : Option SpreadView) (m0 m1 : Store) (g0 : List ℕ) (waiting : List Ahead) (cap held nodes taken0 most0 : ℕ) (loans0 : List ℕ) (p : ℕ) (off : Off) (kept : Kept m0 g0 cap held nodes) (cov : TellsCovered s (cells m0))
    (f : m1 ≡ changed_at (paid_by (signed_for off.role.0)) p m0) (due : Due (view_of s (cells m0) g0 waiting nodes taken0 most0 loans0) p off) where
  abbrev v : View
  v = view_of s (cells m0) g0 waiting nodes taken0 most0 loans0

  pub kept_signed : Kept m1 g0 cap held nodes
  kept_signed = spread.kept1 m0 m1 v p off refl refl g0 cap held nodes kept cov f due

  pub covers_signed : TellsCovered s (cells m1)
  covers_signed = spread.covers1 m0 m1 v p off refl refl g0 cap held nodes kept cov f due

  module _ (others : Bool) (law : TellsKeepers (is_alone_in s off.base.0) (cells m0) p off others) where
    pub taking_signed : TakingFrom (top_for s off) (cells m1) p off others
    taking_signed = spread.taking_from m0 m1 v p off refl refl g0 cap held nodes kept cov f due others law due.past due.stands due.stated

    module _ (m2 : Store) (s2 : Shaped m2) (g1 : List ℕ) (count : ℕ) (plain : top_for s off ≡ None → (t : Taking (cells m1) p off others) → TakenBack m1 m2 t.loses off.role.0 g0 g1 count)
        (top : (o : Off) → top_for s off ≡ Some o → (t : Recounting (cells m1) p o others) → SpreadBack s m1 m2 t.loses off.role.0 g0 g1 count) (taken1 most1 most2 : ℕ) (loans1 loans2 : List ℕ)
        (counted : taken1 ≡ capped (taken0 + count)) (as_most : most1 ≡ most0) (still : most2 ≡ most1) (lent : loans2 ≡ loans1) where
      done_for : (past : Past) (st : StandsFor v past) (stated : In (off_tree off) (offs_in past.plan.body)) → spread.Done m0 m1 v p off refl refl g0 cap held nodes kept cov f due others law past st stated m2 s2 g0 g1 count
      done_for past st stated = spread.done m0 m1 v p off refl refl g0 cap held nodes kept cov f due others law past st stated m2 s2 g0 g1 count plain top

      pub covers_then : TellsCovered s (cells m2)
      covers_then = (done_for due.past due.stands due.stated).1

      module _ (waits : List Ahead) where
        abbrev u : View
        u = view_of s (cells m1) g0 waits nodes taken0 most1 loans1

        abbrev w : View
        w = view_of s (cells m2) g1 waits nodes taken1 most2 loans2

        withdrawn : (past : Past) (st : StandsFor v past) (stated : In (off_tree off) (offs_in past.plan.body)) → Withdrawn u w (spread.loses m0 m1 v p off refl refl g0 cap held nodes kept cov f due others law past st stated) off.role.0
        withdrawn past st stated = withdrawn_by s waits nodes m1 m2 g0 g1 (spread.loses m0 m1 v p off refl refl g0 cap held nodes kept cov f due others law past st stated) off.role.0 count taken0 taken1 most1 most2 loans1 loans2
            (done_for past st stated).0
            counted still lent

        pub signed_then : (v' : View) → v ≡ v' → Signed v' w off.role.0
        signed_then v' is =
            subst (λ (x : View). Signed x w off.role.0) is
            (acting.due_signed (spread.seen0 m0 m1 v p off refl refl g0 cap held nodes kept cov f due) (spread.seen1 m0 m1 v p off refl refl g0 cap held nodes kept cov f due) v p off (spread.rows0 m0 m1 v p off refl refl g0 cap held nodes kept cov f due) g0 cap held nodes
            (spread.kept0 m0 m1 v p off refl refl g0 cap held nodes kept cov f due)
            refl due u w
            (sym (spread.is1 m0 m1 v p off refl refl g0 cap held nodes kept cov f due))
            withdrawn refl refl refl as_most refl)

      -- it takes effect at once
      stands_behind : IsBehind v p off → StandsSigned v (view_of s (cells m2) g1 waiting nodes taken1 most2 loans2) p off
      stands_behind b past st stated =
          acting.due_behind (spread.seen0 m0 m1 v p off refl refl g0 cap held nodes kept cov f due) (spread.seen1 m0 m1 v p off refl refl g0 cap held nodes kept cov f due) v p off (spread.rows0 m0 m1 v p off refl refl g0 cap held nodes kept cov f due) g0 cap held nodes
          (spread.kept0 m0 m1 v p off refl refl g0 cap held nodes kept cov f due)
          refl due (u waiting) (w waiting)
          (sym (spread.is1 m0 m1 v p off refl refl g0 cap held nodes kept cov f due))
          (withdrawn waiting) refl refl refl b past st stated
          (spread.keeps_as m0 m1 v p off refl refl g0 cap held nodes kept cov f due others law past st stated m2 s2 g0 g1 count (done_for past st stated) (w waiting) refl refl refl)

      pub stands_signed : (v' : View) → v ≡ v' → IsBehind v' p off → StandsSigned v' (view_of s (cells m2) g1 waiting nodes taken1 most2 loans2) p off
      stands_signed v' is b = subst (λ (x : View). IsBehind x p off → StandsSigned x (view_of s (cells m2) g1 waiting nodes taken1 most2 loans2) p off) is stands_behind b

      -- or it waits
      stands_ahead : (a : Ahead) (ws : List Ahead) → ws ≡ waiting ++ a ∷ [] → a.level ≡ due.cell.row.level → a.off ≡ off → IsAhead v p off → StandsSigned v (view_of s (cells m2) g1 ws nodes taken1 most2 loans2) p off
      stands_ahead a ws e l o b past st stated =
          subst (λ (zs : List Ahead). StandsFor (view_of s (cells m2) g1 zs nodes taken1 most2 loans2) (past_acted (Offed (off_tree off) (serial_at p v.rows)) past)) (sym e)
          (acting.due_ahead (spread.seen0 m0 m1 v p off refl refl g0 cap held nodes kept cov f due) (spread.seen1 m0 m1 v p off refl refl g0 cap held nodes kept cov f due) v p off (spread.rows0 m0 m1 v p off refl refl g0 cap held nodes kept cov f due) g0 cap held nodes
          (spread.kept0 m0 m1 v p off refl refl g0 cap held nodes kept cov f due)
          refl due
          (u (waiting ++ a ∷ []))
          (w (waiting ++ a ∷ []))
          (sym (spread.is1 m0 m1 v p off refl refl g0 cap held nodes kept cov f due))
          (withdrawn (waiting ++ a ∷ []))
          a refl refl refl l o b past st stated
          (spread.keeps_as m0 m1 v p off refl refl g0 cap held nodes kept cov f due others law past st stated m2 s2 g0 g1 count (done_for past st stated) (w (waiting ++ a ∷ [])) refl refl refl))

      pub stands_waiting : (a : Ahead) (ws : List Ahead) → ws ≡ waiting ++ a ∷ [] → a.level ≡ due.cell.row.level → a.off ≡ off → (v' : View) → v ≡ v' → IsAhead v' p off
          → StandsSigned v' (view_of s (cells m2) g1 ws nodes taken1 most2 loans2) p off
      stands_waiting a ws e l o v' is b = subst (λ (x : View). IsAhead x p off → StandsSigned x (view_of s (cells m2) g1 ws nodes taken1 most2 loans2) p off) is (stands_ahead a ws e l o) b
