use Rattle.std.proofs.Common.{◌≡◌, ◌≤◌, false, vec_capacity}
use Rattle.std.proofs.Math.ListN.{replicate}
use Rattle.buf_tree.proofs.upward.begin.Given as goal

abbrev pub invariant-loop-step : goal.invariant-loop-step
invariant-loop-step l = record { flags : l.flags.items ≡ replicate l._step false; room : vec_capacity l.fn.flags ≤ vec_capacity l.flags }
