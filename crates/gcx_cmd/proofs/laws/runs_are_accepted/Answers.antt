use Rattle.gcx_base.specs.Limits.{full_limits}
use Rattle.gcx_io.specs.Writing.{joined}
use Rattle.gcx_model.specs.Normal.{normal}
use Rattle.gcx_model.specs.Placed.{plan_of}
use Rattle.trace_check.proofs.Accepted.{traces_are_accepted}
use Rattle.gcx_cmd.proofs.laws.runs_are_accepted.Goals as goal

pub returns : goal.returns
returns c = λ ahead q d a b r ts seen.
    let w = r.ends.2 in (
      w.trace,
      w.told,
      traces_are_accepted (plan_of (normal r.x)) full_limits (joined r.pieces) w.traced.0 ts w.trace w.traced.1 w.traced.2 seen,
    )
