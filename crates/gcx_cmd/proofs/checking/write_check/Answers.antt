use Rattle.std.proofs.Common.{refl, ap}
use Rattle.std.specs.declared.result.Result.TheVariants.{Err}
use Rattle.gcx_words.specs.declared.command.Command.TheVariants.{Check}
use Rattle.gcx_cmd.proofs.Checks.{come, has_document, judged_if, unjudged_if, unread_if}
use Rattle.gcx_cmd.proofs.Stops.{check_stops, keeps_stopped}
use Rattle.gcx_cmd.proofs.checking.write_check.Goals as goal

pub judge-requires-clause-tokens : goal.judge-requires-clause-tokens
judge-requires-clause-tokens g c = come _ _ _ c.in-Ok-read_document_tokens.tokens c.in-Ok-read_document_tokens.ensures.reads

pub returns-in-Err : goal.returns-in-Err
returns-in-Err g c = record {
  does = (λ err store. (
    keeps_stopped _ _ _ _ _ (Check c.args.query.now c.args.document.now c.args.trace.now) c.args.query.now c.in-Err.refused refl c.in-Err.ensures.stops
        c.read_query.ensures.keeps (λ is. c.in-Err.ensures.cause (ap Err is)) c.in-Err.ensures.memory,
    check_stops _ _ _ _ _ c.args.query.now c.args.document.now c.args.trace.now c.in-Err.refused c.in-Err.ensures.stops,
  ));
}

pub returns-in-Err-read_document_tokens : goal.returns-in-Err-read_document_tokens
returns-in-Err-read_document_tokens g c = record {
  does = (λ err store.
      unread_if c.args.query.now c.args.document.now c.args.trace.now _ _ _ _ c.in-Ok.ensures.accepted.0 c.in-Ok.ensures.accepted.1 c.read_query.ensures.keeps
      c.read_document_tokens.ensures.keeps _ err store c.in-Err-read_document_tokens.stopped c.in-Err-read_document_tokens.ensures.reads
      (λ is. c.in-Err-read_document_tokens.ensures.cause (ap Err is)) c.in-Err-read_document_tokens.ensures.memory);
}

pub returns-in-Ok-judge : goal.returns-in-Ok-judge
returns-in-Ok-judge g c = record {
  does = (λ err store.
      let has = has_document c.args.query.now c.args.document.now c.args.trace.now _ _ _ _ c.in-Ok.ensures.accepted.0 c.in-Ok.ensures.accepted.1 c.read_query.ensures.keeps
      c.read_document_tokens.ensures.keeps c.in-Ok-read_document_tokens.tokens c.in-Ok-read_document_tokens.ensures.reads in
      judged_if c.args.query.now c.args.document.now c.args.trace.now _ _ _ _ _ has c.judge.ensures.keeps _ _ err store _ c.in-Ok.ensures.plan.is_plan
      c.in-Ok-judge.lines c.in-Ok-judge.ensures.judges c.print_lines.result c.print_lines.ensures.later c.print_lines.ensures.prints);
}

pub returns : goal.returns
returns g c = record {
  does = (λ err store.
      let has = has_document c.args.query.now c.args.document.now c.args.trace.now _ _ _ _ c.in-Ok.ensures.accepted.0 c.in-Ok.ensures.accepted.1 c.read_query.ensures.keeps
      c.read_document_tokens.ensures.keeps c.in-Ok-read_document_tokens.tokens c.in-Ok-read_document_tokens.ensures.reads in
      unjudged_if c.args.query.now c.args.document.now c.args.trace.now _ _ _ _ _ has c.judge.ensures.keeps _ err store _ c.in-Ok.ensures.plan.is_plan
      c.in-Err-judge.stopped c.in-Err-judge.ensures.judges (λ is. c.in-Err-judge.ensures.cause (ap Err is)) c.in-Err-judge.ensures.memory);
}
