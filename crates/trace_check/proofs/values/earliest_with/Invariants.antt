use Rattle.std.proofs.Common.{◌≡◌, map, drop}
use Rattle.gcx_model.specs.Values.{compare}
use Rattle.time_laws.specs.Times.{sooner, earliest_with}
use Rattle.trace_check.specs.Settling.{timed_in}
use Rattle.trace_check.proofs.values.earliest_with.Given as goal

abbrev pub invariant-loop-right : goal.invariant-loop-right
invariant-loop-right l =
    sooner l.first (earliest_with (compare l.rel) (timed_in l.left) (drop l.right-index (map timed_in l.others)))
    ≡ sooner l.fn.found (earliest_with (compare l.rel) (timed_in l.left) (map timed_in l.others))
