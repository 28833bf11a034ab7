use Rattle.std.proofs.Common.{◌≡◌, take}
use Rattle.path_states.specs.Lists.{From, Gains, Climbs}
use Rattle.path_states.proofs.rising.rise_all.Given as goal

abbrev pub invariant-loop-number : goal.invariant-loop-number
invariant-loop-number l = Gains l.fn.numbers.items l.numbers.items (From (take l.number-index l.more) (λ x y. x ≡ y)) × (Climbs l.fn.numbers.items → Climbs l.numbers.items)
