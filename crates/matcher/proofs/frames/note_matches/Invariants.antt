use Rattle.std.proofs.Common.{◌≡◌, ℕ, ◌<◌}
use Rattle.matcher.specs.Stacks.{IsIn, Noted}
use Rattle.matcher.proofs.frames.note_matches.Given as goal

abbrev pub invariant-loop-i : goal.invariant-loop-i
invariant-loop-i l = Noted l.fn.contexts l.contexts (λ (j r : ℕ). (IsIn l.fn.range j × (j < l.i)) × (l.role ≡ r))
