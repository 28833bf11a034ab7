use Rattle.gcx_model.specs.ItemView.{body_tree}
use Rattle.gcx_model.specs.PlanView.{plan_tree}
use Rattle.trace_check.specs.Timing.{clock_in}
use Rattle.trace_check.proofs.OffsThere.{first_acts, offs_there}
use Rattle.trace_check.proofs.running.acts_of.Goals as goal

pub run-requires-clause-memo : goal.run-requires-clause-memo
run-requires-clause-memo c = c.new-memo.ensures c.args.timed.now

pub returns-clause-acts : goal.returns-clause-acts
returns-clause-acts c =
    first_acts (clock_in c.args.timed.now) c.args.timed.now.tree c.requires.grown (body_tree c.args.plan.now.body) c.new-scope.result.items c.new-scope.ensures.items
    c.new-acts.result.acts.items c.run.new.self.acts.items c.in_ok-run.field-0 c.new-acts.ensures c.in_ok-run.ensures.acts

pub returns-clause-there : goal.returns-clause-there
returns-clause-there c =
    offs_there (clock_in c.args.timed.now) c.args.timed.now.tree c.requires.grown c.requires.some (plan_tree c.args.plan.now) c.run.new.self.acts.items
    (first_acts (clock_in c.args.timed.now) c.args.timed.now.tree c.requires.grown (body_tree c.args.plan.now.body) c.new-scope.result.items c.new-scope.ensures.items
    c.new-acts.result.acts.items c.run.new.self.acts.items c.in_ok-run.field-0 c.new-acts.ensures c.in_ok-run.ensures.acts)
