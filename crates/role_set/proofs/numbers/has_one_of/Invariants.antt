use Rattle.role_set.proofs.Meeting.{Apart}
use Rattle.role_set.proofs.numbers.has_one_of.Given as goal

abbrev pub invariant-loop-number : goal.invariant-loop-number
invariant-loop-number l = Apart l.number-index l.numbers l.roles.items
