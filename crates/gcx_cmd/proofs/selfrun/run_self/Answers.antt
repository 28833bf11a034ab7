use Rattle.std.proofs.Common.{◌≡◌, refl, ◌∙◌, ap}
use Rattle.engine.specs.declared.report.Ended.TheVariants as end
use Rattle.gcx_io.specs.SureSource.{SureSourceState}
use Rattle.gcx_model.specs.Query.{query_trees}
use Rattle.gcx_cmd.proofs.Measures.{self_runs}
use Rattle.gcx_cmd.proofs.Queries.{placed_by}
use Rattle.gcx_cmd.proofs.selfrun.run_self.Goals as goal
use Rattle.gcx_cmd.proofs.selfrun.run_self.Goals.{in-Ok-matches, in_default-matches}

pub run_plan-report-requires-clause-placed : goal.run_plan-report-requires-clause-placed
run_plan-report-requires-clause-placed c = placed_by c.in-Ok.accepted c.in-Ok.ensures.told.plan_is

pub returns : goal.returns
returns c =
    let told = c.in-Ok.ensures.told in
    let q = query_trees c.in-Ok.accepted.query in
    let report = c.run_plan-report.result in
    let ok : report.ended ≡ end.Ok = elim c.match-matches.branch [
      | in-Ok-matches w ↦ w.in-Ok-matches.is
      | in_default-matches w ↦ let no : ⊥ = let a = c.if-not-matches.false in let b = w.matches-is in cc in absurd no
    ] in
    self_runs c.args.seed c.args.count c.new-source.result.left q report _ _ _ _ _ _ _ c.bytes.result.now told.accepts told.only
    (ap (λ (s : SureSourceState). s.left) c.new-source.ensures ∙ c.in_ok-bytes.ensures) refl c.in_ok-answer.ensures.empty c.bytes.ensures ok
    (c.run_plan-report.ensures.runs q told.plan_is)
