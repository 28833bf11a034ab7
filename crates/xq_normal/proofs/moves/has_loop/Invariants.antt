use Rattle.std.proofs.Common.{◌≡◌, drop}
use Rattle.gcx_model.specs.Normal.{has_loop}
use Rattle.xq_normal.proofs.Behind.{body_in}
use Rattle.xq_normal.proofs.moves.has_loop.Given as goal

abbrev pub invariant-loop-item : goal.invariant-loop-item
invariant-loop-item l = has_loop (body_in (drop l.item-index l.item-items)) ≡ has_loop (body_in l.item-items)
