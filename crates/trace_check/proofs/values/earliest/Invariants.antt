use Rattle.std.proofs.Common.{◌≡◌, map, drop}
use Rattle.gcx_model.specs.Values.{compare}
use Rattle.time_laws.specs.Times.{sooner, earliest}
use Rattle.trace_check.specs.Settling.{timed_in}
use Rattle.trace_check.proofs.values.earliest.Given as goal

abbrev pub invariant-loop-left : goal.invariant-loop-left
invariant-loop-left l =
    sooner l.found (earliest (compare l.rel) (drop l.left-index (map timed_in l.lefts)) (map timed_in l.rights))
    ≡ earliest (compare l.rel) (map timed_in l.lefts) (map timed_in l.rights)
