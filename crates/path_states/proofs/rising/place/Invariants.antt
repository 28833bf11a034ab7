use Rattle.std.proofs.Common.{ℕ, ◌≤◌, length, drop}
use Rattle.gcx_model.specs.Members.{In}
use Rattle.path_states.proofs.rising.place.Given as goal

abbrev pub invariant-loop-place : goal.invariant-loop-place
invariant-loop-place l = (l.place ≤ length l.numbers) × ((y : ℕ) → In y (drop l.place l.numbers) → l.number ≤ y)

abbrev pub decreases-loop-place : goal.decreases-loop-place
decreases-loop-place l = l.place
