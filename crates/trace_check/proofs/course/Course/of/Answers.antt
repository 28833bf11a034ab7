use Rattle.std.proofs.Common.{List, map, ◌∙◌, ap}
use Rattle.gcx_model.specs.PlanView.{plan_tree}
use Rattle.gcx_model.specs.Tree.{TreeToken}
use Rattle.doc_reader.specs.Standing.{said_of}
use Rattle.trace_check.specs.Acting.{what_shown}
use Rattle.trace_check.proofs.Assembled.{is_course, timed_grown, timed_some}
use Rattle.trace_check.proofs.course.Course.of.Goals as goal

pub acts_of-requires : goal.acts_of-requires
acts_of-requires c =
    let ts : List TreeToken = map said_of c.args.tokens.items in
    record { grown = timed_grown ts c.in_ok-timed.timed c.in_ok-timed.ensures; some = timed_some ts c.in_ok-timed.timed c.in_ok-timed.ensures }

pub given_of-requires : goal.given_of-requires
given_of-requires c =
    let ts : List TreeToken = map said_of c.args.tokens.items in
    record { grown = timed_grown ts c.in_ok-timed.timed c.in_ok-timed.ensures; some = timed_some ts c.in_ok-timed.timed c.in_ok-timed.ensures }

pub of-requires-2-clause-grown : goal.of-requires-2-clause-grown
of-requires-2-clause-grown c = timed_grown (map said_of c.args.tokens.items) c.in_ok-timed.timed c.in_ok-timed.ensures

pub returns : goal.returns
returns c = is_course (plan_tree c.args.plan.now) (map said_of c.args.tokens.items) _ c.in_ok-timed.ensures c.in_ok-acts.ensures.acts c.in_ok-given.ensures
    (λ all e. c.in_ok-leaving.ensures all (ap (map what_shown) c.deref.ensures.value ∙ e))
