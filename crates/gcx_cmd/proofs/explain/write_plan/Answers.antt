use Rattle.std.proofs.Common.{◌≡◌, ℕ, List, refl, ap, ◌∙◌, subst}
use Rattle.std.specs.declared.result.Result.TheVariants.{Err}
use Rattle.gcx_words.specs.declared.command.Command.TheVariants.{Explain}
use Rattle.gcx_cmd.proofs.Explained.{explained_if, explain_lacks}
use Rattle.gcx_cmd.proofs.Stops.{explain_stops, keeps_stopped}
use Rattle.gcx_model.specs.Query.{query_trees}
use Rattle.signoff_place.specs.Explained.{explained}
use Rattle.gcx_cmd.specs.Texts.{explain_text}
use Rattle.gcx_cmd.specs.Writes.{WritesText}
use Rattle.gcx_cmd.proofs.explain.write_plan.Goals as goal

pub returns-in-Err : goal.returns-in-Err
returns-in-Err g c = record {
  does = (λ err store. (
    keeps_stopped _ _ _ _ _ (Explain c.args.query.now) c.args.query.now c.in-Err.refused refl c.in-Err.ensures.stops c.read_query.ensures.keeps
        (λ is. c.in-Err.ensures.cause (ap Err is)) c.in-Err.ensures.memory,
    explain_stops _ _ _ _ _ c.args.query.now c.in-Err.refused c.in-Err.ensures.stops,
  ));
}

pub returns-in-Ok-explain : goal.returns-in-Ok-explain
returns-in-Ok-explain g c = record {
  does = (λ err store.
      let text = explain_text (query_trees c.in-Ok.accepted.query) in
      let is : c.as_bytes.result.now ≡ text = c.as_bytes.ensures.bytes ∙ c.in-Ok-explain.ensures ∙ ap explained c.in-Ok.ensures.plan.is_plan in
      let writes : WritesText c.write_text.result (g.O.Sink.seen c.args.out.now) (g.O.Sink.seen c.write_text.new.out) text =
      subst (λ (l : List ℕ). WritesText c.write_text.result (g.O.Sink.seen c.args.out.now) (g.O.Sink.seen c.write_text.new.out) l) is c.write_text.ensures.writes in
      explained_if c.args.query.now _ _ _ _ err store _ c.in-Ok.ensures.accepted.0 c.in-Ok.ensures.accepted.1 c.read_query.ensures.keeps
      c.write_text.result c.write_text.ensures.later writes);
}

pub returns : goal.returns
returns g c = record {
  does = (λ err store.
      explain_lacks c.args.query.now _ _ (g.O.Sink.seen c.args.out.now) (g.O.Sink.seen c.args.out.now) err store _ c.in-Ok.ensures.accepted.0 c.in-Ok.ensures.accepted.1 c.read_query.ensures.keeps);
}
