use Rattle.std.proofs.Common.{◌≡◌, None}
use Rattle.std.proofs.Math.ListN.{replicate}
use Rattle.buf_tree.proofs.spread.no_tops.Given as goal

abbrev pub invariant-loop-role : goal.invariant-loop-role
invariant-loop-role l = l.tops.items ≡ replicate l._role None
