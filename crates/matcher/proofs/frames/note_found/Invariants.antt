use Rattle.std.proofs.Common.{take}
use Rattle.matcher.specs.Stacks.{FoundNoted}
use Rattle.matcher.proofs.frames.note_found.Given as goal

abbrev pub invariant-loop-found : goal.invariant-loop-found
invariant-loop-found l = FoundNoted l.nodes (take l.found-index l.found) l.fn.contexts l.contexts
