use Rattle.std.proofs.Common.{sym, ◌∙◌, ◌+◌, ◌-◌, ◌^◌, min, ap, Some, ℕ}
use Rattle.std.specs.Prelude.{option_map}
use Rattle.node_store.specs.declared.store.Place.{Place}
use Rattle.buf_tree.specs.Shape.{cells}
use Rattle.buf_tree.specs.Walk.{Inside}
use Rattle.buf_tree.proofs.Kin.{row_of_place}
use Rattle.buf_tree.proofs.Going.{high_less}
use Rattle.buf_tree.proofs.Climbing.{used_start}
use Rattle.buf_tree.proofs.Entries.{counted_start, counted_on}
use Rattle.buf_tree.proofs.Passing.{all_start, all_on, used_behind}
use Rattle.buf_tree.proofs.Seeking.{cell_row}
use Rattle.buf_tree.proofs.buffer.count_entries.Goals as goal

pub rows-init : goal.rows-init
rows-init g c =
    let d = row_of_place _ _ c.requires.shape _ c.requires.there in
    record {
      used = λ p e. used_start _ _ p c.requires.there e;
      within = all_start _ c.requires.shape c.requires.nested c.args.root.0;
      counted = counted_start _ d.0 _ d.1 d.2 (c.requires.first d.0 d.1 d.2);
    }

pub after-at-requires-clause-within : goal.after-at-requires-clause-within
after-at-requires-clause-within g c x h i j e f = c.rows.invariant.within x h i j e (ap (option_map (λ (p : Place). p.0)) c.in-Some.is ∙ ap (λ (q : ℕ). Some q) (sym f))

pub rows-smaller : goal.rows-smaller
rows-smaller g c =
    let d = row_of_place _ _ c.requires.shape _ c.requires.there in
    let h = row_of_place _ _ c.requires.shape _ (c.rows.invariant.used _ (ap (option_map (λ (p : Place). p.0)) c.in-Some.is)) in
    rw c.in-Some.is (high_less _ c.requires.shape (Inside (cells (g.N.NodeStore.rows c.args.nodes.now)) d.0) h.0 h.1 _ h.2 _ (c.after-at.ensures d.0 h.0 d.1 h.1 d.2 h.2))

pub rows-preserved : goal.rows-preserved
rows-preserved g c =
    let d = row_of_place _ _ c.requires.shape _ c.requires.there in
    let v = rw c.in-Some.is at c.rows.invariant.counted in
    let b = c.after-at.ensures d.0 v.0 d.1 v.1 d.2 v.2 in
    record {
      used = used_behind _ c.requires.shape _ _ _ b;
      within = all_on _ c.requires.shape c.requires.nested d.0 v.0 c.args.root.0 _ d.1 d.2 b;
      counted = counted_on _ c.requires.shape.rising d.0 (c.requires.first d.0 d.1 d.2) _ _ v _ (cell_row _ c.requires.shape v.0 v.1 _ v.2 _ c.payload.ensures) _
          (c.saturating_add-entries.ensures ∙ ap (λ n. min (c.rows.entries + n) (2 ^ 64 - 1)) c.entries.ensures) _ b;
    }

pub returns : goal.returns
returns g c = rw c.in_default.is at c.rows.invariant.counted
