use Rattle.std.proofs.Common.{refl, ap}
use Rattle.std.specs.declared.result.Result.TheVariants.{Err}
use Rattle.gcx_words.specs.declared.command.Command.TheVariants.{Peak}
use Rattle.gcx_cmd.proofs.Peaks.{printed_if, unmeasured_if}
use Rattle.gcx_cmd.proofs.Stops.{keeps_stopped, peak_stops}
use Rattle.gcx_cmd.proofs.peak.write_peak.Goals as goal

pub returns-in-Err : goal.returns-in-Err
returns-in-Err g c = record {
  does = (λ err. (
    keeps_stopped _ _ _ _ _ (Peak c.args.query.now c.args.document.now) c.args.query.now c.in-Err.refused refl c.in-Err.ensures.stops
        c.read_query.ensures.keeps (λ is. c.in-Err.ensures.cause (ap Err is)) c.in-Err.ensures.memory,
    peak_stops _ _ _ _ _ c.args.query.now c.args.document.now c.in-Err.refused c.in-Err.ensures.stops,
  ));
}

pub returns-in-Ok-measure_document : goal.returns-in-Ok-measure_document
returns-in-Ok-measure_document g c = record {
  does = (λ err.
      printed_if c.args.query.now c.args.document.now _ _ _ _ c.in-Ok.ensures.accepted.0 c.in-Ok.ensures.accepted.1 c.read_query.ensures.keeps
      c.measure_document.ensures.keeps err _ _ c.in-Ok-measure_document.report (c.in-Ok-measure_document.ensures.measures _ c.in-Ok.ensures.plan)
      (c.in-Ok-measure_document.ensures.emptied refl) _ _ c.print_report.result c.print_report.ensures.later c.print_report.ensures.prints);
}

pub returns : goal.returns
returns g c = record {
  does = (λ err.
      unmeasured_if c.args.query.now c.args.document.now _ _ _ _ c.in-Ok.ensures.accepted.0 c.in-Ok.ensures.accepted.1 c.read_query.ensures.keeps
      c.measure_document.ensures.keeps err _ _ _ c.in-Err-measure_document.stopped (c.in-Err-measure_document.ensures.measures _ c.in-Ok.ensures.plan)
      (λ is. c.in-Err-measure_document.ensures.cause (ap Err is)) c.in-Err-measure_document.ensures.memory);
}
