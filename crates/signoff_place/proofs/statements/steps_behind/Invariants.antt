use Rattle.std.proofs.Common.{◌≡◌, take}
use Rattle.signoff_place.proofs.statements.steps_behind.Given as goal

abbrev pub invariant-loop-earlier : goal.invariant-loop-earlier
invariant-loop-earlier l = l.steps ≡ take l.earlier-index l.parent
