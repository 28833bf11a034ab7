use Rattle.std.proofs.Common.{ℕ, ◌≤◌, ◌<◌, take}
use Rattle.gcx_model.specs.Members.{In}
use Rattle.matcher.proofs.upward.greatest.Given as goal

abbrev pub invariant-loop-level : goal.invariant-loop-level
invariant-loop-level l = ((k : ℕ) → In k (take l.level-index l.levels) → k ≤ l.greatest) × ((k : ℕ) → k < l.greatest → In l.greatest l.levels)
