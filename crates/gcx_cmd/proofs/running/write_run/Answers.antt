use Rattle.std.proofs.Common.{refl, ap}
use Rattle.std.specs.declared.result.Result.TheVariants.{Err}
use Rattle.gcx_words.specs.declared.command.Command.TheVariants.{Run}
use Rattle.gcx_cmd.proofs.Ran.{runs_if}
use Rattle.gcx_cmd.proofs.Stops.{keeps_stopped, run_stops}
use Rattle.gcx_cmd.proofs.running.write_run.Goals as goal

pub returns-in-Err : goal.returns-in-Err
returns-in-Err g c = record {
  does = ((
    keeps_stopped _ _ _ _ _ (Run c.args.tracing c.args.ahead c.args.query.now c.args.document.now) c.args.query.now c.in-Err.refused refl
        c.in-Err.ensures.stops c.read_query.ensures.keeps (λ is. c.in-Err.ensures.cause (ap Err is)) c.in-Err.ensures.memory,
    run_stops _ _ _ _ _ c.args.tracing c.args.ahead c.args.query.now c.args.document.now c.in-Err.refused c.in-Err.ensures.stops,
  ));
}

pub returns : goal.returns
returns g c = record {
  does = (runs_if c.args.tracing c.args.ahead c.args.query.now c.args.document.now _ _ _ _ c.in-Ok.ensures.accepted.0 c.in-Ok.ensures.accepted.1
      c.read_query.ensures.keeps c.run_document.ensures.keeps c.run_document.result c.run_document.ensures.emptied c.run_document.ensures.cause
      c.run_document.ensures.memory c.run_document.ensures.counts.0 c.run_document.ensures.counts.1 (c.run_document.ensures.runs _ c.in-Ok.ensures.plan));
}
