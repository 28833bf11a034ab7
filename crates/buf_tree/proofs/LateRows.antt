-- A node that is only counted, and a row that is made late.
use Rattle.std.proofs.Common.{◌≡◌, ℕ, suc, ◌+◌, ◌<◌, ◌≤◌, true, List, [], ◌∷◌, ◌++◌, length, map, refl, sym, ◌∙◌, ap, subst, arith, Some, None, Option}
use Rattle.std.specs.Prelude.{option_map}
use Rattle.std.specs.FinMap.{get}
use Rattle.std.proofs.lemmas.Bool.{true≢false}
use Rattle.gcx_model.specs.Members.{In}
use Rattle.node_store.specs.Rows.{StoreRow, appended}
use Rattle.buf_tree.specs.Row.{Row}
use Rattle.buf_tree.specs.Rows.{IsDead}
use Rattle.buf_tree.specs.Shape.{Store, Cell, num, cells}
use Rattle.buf_tree.specs.View.{View, Kept, Innermost}
use Rattle.gcx_model.specs.Held.{held}
use Rattle.buf_tree.specs.Spread.{SpreadView, SpreadsAs}
use Rattle.buf_tree.specs.Stands.{seen, StandsFor, awaited_by}
use Rattle.buf_tree.specs.Loose.{Passed, cells_passed, with_passed}
use Rattle.buf_tree.specs.PassedCalls.{OpenedPassed, RestsLoosely}
use Rattle.buf_tree.proofs.Keeping.{kept_opened, cells_opened}
use Rattle.buf_tree.proofs.KeptStands.{kept_set}
use Rattle.buf_tree.proofs.PassedRows.{settles_one}

-- the number of nodes may be any that is above the rows
pub kept_below : (m : Store) (gone : List ℕ) (cap count nodes more : ℕ) → ((c : Cell) → In c (cells m) → num c < more) → Kept m gone cap count nodes → Kept m gone cap count more
kept_below m gone cap count nodes more low k = record { shape = k.shape; tidy = k.tidy; held = k.held; room = k.room; below = low; ordered = k.ordered }

pub alive_open : (row : Row) → row.is_open ≡ true → IsDead row → ⊥
alive_open row o dead = true≢false (sym o ∙ dead.0)

module _ (m m' : Store) (v : View) (q p : ℕ) (row above : Row) (gone0 : List ℕ) (cap0 count nodes : ℕ) (e : cells m ≡ v.rows) (k : Kept m gone0 cap0 count nodes) (i : Innermost v.rows q) (free : get m p ≡ None) (now : m' ≡ appended m q p row)
    (behind : (c : Cell) → In c v.rows → num c < row.serial) (h : option_map (λ (x : StoreRow Row). x.payload) (get m q) ≡ Some above) (par : row.parent ≡ above.serial) where
  kept_then : Kept m gone0 cap0 count row.serial
  kept_then = kept_below m gone0 cap0 count nodes row.serial (λ d j. behind d (subst (λ (zs : List Cell). In d zs) e j)) k

  pub cells_late : cells m' ≡ v.rows ++ record { place = p; row = row } ∷ []
  cells_late = cells_opened m m' v q p row above gone0 cap0 count row.serial e kept_then i free now refl h par

  pub kept_late : (gone : List ℕ) (cap : ℕ) → length gone + (count + 1) ≤ cap → row.serial < nodes → (IsDead row → ⊥) → Kept m' gone cap (count + 1) nodes
  kept_late gone cap room low alive =
      let new : Kept m' gone cap (count + 1) (row.serial + 1) = kept_opened m m' v q p row above gone0 gone cap0 cap count row.serial e kept_then i free now refl h par room alive in
      kept_below m' gone cap (count + 1) (row.serial + 1) nodes (λ d j. let l = new.below d j in omega arith) new

-- the others are passed below the row
pub rests_loosely : (v w : View) (p : ℕ) (x : Passed) → OpenedPassed v w p x → w.kept ≡ v.kept ++ cells_passed (p ∷ []) (x ∷ []) v.rows → RestsLoosely v w x
rests_loosely v w p x c kept xs past h places e =
    let s : StandsFor (with_passed (p ∷ places) (x ∷ xs) v) past = h (p ∷ places) (ap suc e) in
    record {
      is_past = s.is_past;
      spread = subst (λ (z : Option SpreadView). SpreadsAs z past.plan) (sym c.spread) s.spread;
      rows = ap (λ (u : View). map seen u.rows) same ∙ s.rows;
      kept = subst (λ (z : Option SpreadView). map (λ c. c.row.roles) (with_passed places xs w).kept ≡ map (kept_set z past) (held past.plan past.tree past.acts)) (sym c.spread)
          (ap (λ (u : View). map (λ (d : Cell). d.row.roles) u.kept) same ∙ s.kept);
      waiting = ap (map awaited_by) c.waiting ∙ s.waiting;
      nodes = c.nodes ∙ s.nodes;
    }
  where
    same : with_passed places xs (record v { rows = w.rows; kept = w.kept }) ≡ with_passed (p ∷ places) (x ∷ xs) v
    same = (λ t. with_passed places xs (record v { rows = c.rows t; kept = kept t })) ∙ sym (settles_one v x xs p places)
