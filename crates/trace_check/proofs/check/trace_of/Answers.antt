use Rattle.std.proofs.Common.{[], map}
use Rattle.gcx_model.specs.PlanView.{plan_tree}
use Rattle.doc_reader.specs.Standing.{said_of}
use Rattle.trace_check.proofs.TokensTold.{trace_told}
use Rattle.trace_check.proofs.check.trace_of.Goals as goal

pub returns : goal.returns
returns c =
    let plan = plan_tree c.args.plan.now in
    let ts = map said_of c.args.tokens.items in
    let core = c.requires.placed in
    trace_told core.0 core.1 plan core.2 ts c.in_ok-course.course c.requires.tokens c.in_ok-course.ensures [] c.in_ok-text.text.items (c.in_ok-text.ensures plan ts c.in_ok-course.ensures)
