use Rattle.std.proofs.Common.{ℕ, ◌-◌, List}
use Rattle.matcher.specs.Frames.{UpFrom}
use Rattle.matcher.proofs.upward.origins.Given as goal

abbrev pub invariant-loop-done : goal.invariant-loop-done
invariant-loop-done l = (out : List ℕ) → UpFrom l.states l.frames (l.steps - l.done) l.number l.levels.items out → UpFrom l.states l.frames l.steps l.end l.fn.targets.items out
