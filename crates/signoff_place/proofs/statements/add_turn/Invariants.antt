use Rattle.std.proofs.Common.{◌≡◌, ◌++◌, ℕ, map, take, length}
use Rattle.gcx_model.specs.PlanView.{role_row_tree}
use Rattle.signoff_place.specs.Ends.{ends_of}
use Rattle.signoff_place.specs.Spread.{all_stated, ends_at, tables}
use Rattle.signoff_place.proofs.statements.add_turn.Given as goal

abbrev pub invariant-loop-i : goal.invariant-loop-i
invariant-loop-i l = record {
  lists : (x : ℕ) → ends_of l.ends x ≡ ends_of l.fn.ends x ++ ends_at l.own (all_stated (tables l.known) 0 (map role_row_tree (take l.i l.roles))) x;
  count : length l.ends ≡ length l.fn.ends;
}
