use Rattle.std.proofs.Common.{◌≡◌, ◌+◌, take}
use Rattle.proj_tree.specs.Depths.{capped, descendants}
use Rattle.proj_tree.proofs.depth.depth_behind.Given as goal

abbrev pub invariant-loop-step : goal.invariant-loop-step
invariant-loop-step l = l.reached ≡ capped (l.depth + descendants (take l.step-index l.steps))
