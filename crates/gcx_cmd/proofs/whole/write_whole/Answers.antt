use Rattle.std.proofs.Common.{◌≡◌, ℕ, List, refl, ap, ◌∙◌, subst}
use Rattle.std.specs.declared.result.Result.TheVariants.{Err}
use Rattle.gcx_model.specs.Answer.{answer}
use Rattle.gcx_model.specs.Query.{query_trees}
use Rattle.gcx_words.specs.declared.command.Command.TheVariants.{Whole}
use Rattle.gcx_cmd.specs.Writes.{WritesText}
use Rattle.gcx_cmd.proofs.Stops.{keeps_stopped, whole_stops}
use Rattle.gcx_cmd.proofs.Wholes.{answered_if, lacks_answer, unread_if}
use Rattle.gcx_cmd.proofs.whole.write_whole.Goals as goal

pub returns-in-Err : goal.returns-in-Err
returns-in-Err g c = record {
  does = (λ err store. (
    keeps_stopped _ _ _ _ _ (Whole c.args.query.now c.args.document.now) c.args.query.now c.in-Err.refused refl c.in-Err.ensures.stops
        c.read_query.ensures.keeps (λ is. c.in-Err.ensures.cause (ap Err is)) c.in-Err.ensures.memory,
    whole_stops _ _ _ _ _ c.args.query.now c.args.document.now c.in-Err.refused c.in-Err.ensures.stops,
  ));
}

pub returns-in-Err-read_document : goal.returns-in-Err-read_document
returns-in-Err-read_document g c = record {
  does = (λ err store.
      unread_if c.args.query.now c.args.document.now _ _ _ _ c.in-Ok.ensures.accepted.0 c.in-Ok.ensures.accepted.1 c.read_query.ensures.keeps
      c.read_document.ensures.keeps _ err store c.in-Err-read_document.stopped c.in-Err-read_document.ensures.reads
      (λ is. c.in-Err-read_document.ensures.cause (ap Err is)) c.in-Err-read_document.ensures.memory);
}

pub returns-in_default : goal.returns-in_default
returns-in_default g c = record {
  does = (λ err store.
      lacks_answer c.args.query.now c.args.document.now _ _ _ _ c.in-Ok.ensures.accepted.0 c.in-Ok.ensures.accepted.1 c.read_query.ensures.keeps
      c.read_document.ensures.keeps c.in-Ok-read_document.tree c.in-Ok-read_document.ensures.reads (g.O.Sink.seen c.args.out.now) (g.O.Sink.seen c.args.out.now) err store);
}

pub returns : goal.returns
returns g c = record {
  does = (λ err store.
      let w = c.in-Ok-read_document.ensures.reads in
      let text = answer (query_trees c.in-Ok.accepted.query) w.says.whole.document in
      let is : c.deref.result.now ≡ text = c.deref.ensures.value ∙ c.in-Ok-answer_whole.ensures w.says.whole.document w.says.whole.tree_is in
      let writes : WritesText c.write_text.result (g.O.Sink.seen c.args.out.now) (g.O.Sink.seen c.write_text.new.out) text =
      subst (λ (l : List ℕ). WritesText c.write_text.result (g.O.Sink.seen c.args.out.now) (g.O.Sink.seen c.write_text.new.out) l) is c.write_text.ensures.writes in
      answered_if c.args.query.now c.args.document.now _ _ _ _ c.in-Ok.ensures.accepted.0 c.in-Ok.ensures.accepted.1 c.read_query.ensures.keeps
      c.read_document.ensures.keeps c.in-Ok-read_document.tree w _ _ err store c.write_text.result c.write_text.ensures.later writes);
}
