use Rattle.std.proofs.Common.{take}
use Rattle.matcher.specs.Parts.{IsUnmatched}
use Rattle.matcher.proofs.frames.has_unmatched.Given as goal

abbrev pub invariant-loop-context : goal.invariant-loop-context
invariant-loop-context l = IsUnmatched (take l.context-index l.contexts) l.role → ⊥
