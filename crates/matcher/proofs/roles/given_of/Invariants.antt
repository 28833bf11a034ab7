use Rattle.std.proofs.Common.{◌≡◌, map, take}
use Rattle.path_states.specs.Lists.{Climbs}
use Rattle.matcher.proofs.roles.given_of.Given as goal

abbrev pub invariant-loop-number : goal.invariant-loop-number
invariant-loop-number l = Climbs l.numbers → map (λ r. r.0) l.given ≡ take l.number-index l.numbers
