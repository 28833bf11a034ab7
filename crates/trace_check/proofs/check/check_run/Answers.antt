use Rattle.std.proofs.Common.{List, ℕ, map, subst}
use Rattle.gcx_model.specs.Demand.{Line, trace_lines}
use Rattle.gcx_model.specs.PlanView.{plan_tree}
use Rattle.doc_reader.specs.Standing.{said_of}
use Rattle.trace_check.specs.Judging.{JudgesSource}
use Rattle.trace_check.proofs.Compared.{yes_lines}
use Rattle.trace_check.proofs.check.check_run.Goals as goal

pub returns-in-Ok-clause-lines : goal.returns-in-Ok-clause-lines
returns-in-Ok-clause-lines g c =
    let lines : List Line = trace_lines (plan_tree c.args.plan.now) (map said_of c.args.tokens.items) in
    let text : List ℕ = c.in-Ok.text.items in
    let judged : JudgesSource text c.compare.result (g.D.Source.seen c.args.trace.now) (g.D.Source.seen c.compare.new.trace)
    = subst (λ (t : List ℕ). JudgesSource t c.compare.result (g.D.Source.seen c.args.trace.now) (g.D.Source.seen c.compare.new.trace)) c.deref.ensures.value c.compare.ensures.judged in
    yes_lines c.line_ends_law.ensures lines text c.compare.result (g.D.Source.seen c.args.trace.now) (g.D.Source.seen c.compare.new.trace) c.in-Ok.ensures judged
