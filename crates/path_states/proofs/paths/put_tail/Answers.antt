use Rattle.std.proofs.Common.{◌++◌, List, subst}
use Rattle.std.proofs.lemmas.List.{take_all}
use Rattle.gcx_base.specs.declared.steps.Step.{Step}
use Rattle.path_states.specs.Growing.{Reached, path_at}
use Rattle.path_states.proofs.Sprouting.{reach_start, tail_more}
use Rattle.path_states.proofs.paths.put_tail.Goals as goal

pub loop-step-init : goal.loop-step-init
loop-step-init c = λ paths ways. reach_start c.args.tree.now.items paths ways c.args.var

pub loop-step-preserved : goal.loop-step-preserved
loop-step-preserved c = λ paths ways l g. tail_more c.loop-step.tree.items c.put.new.tree.items paths ways c.loop-step.end c.in_ok-end.end (path_at paths c.args.var) c.args.tail.now c.loop-step.step-index c.step-item.result c.loop-step-test.true c.step-item.is (c.loop-step.invariant paths ways l g) c.in_ok-end.ensures.grows c.in_ok-end.ensures.number

pub returns : goal.returns
returns c = λ paths ways l g. subst (λ (z : List Step). Reached c.loop-step.tree.items paths ways c.loop-step.end (path_at paths c.args.var ++ z)) (take_all c.loop-step.step-index c.args.tail.now c.loop-step-test.false) (c.loop-step.invariant paths ways l g)
