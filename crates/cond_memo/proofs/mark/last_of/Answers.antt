use Rattle.std.proofs.Common.{List, sym, subst}
use Rattle.gcx_base.specs.declared.steps.Axis.TheVariants.{Descendant}
use Rattle.gcx_base.specs.declared.steps.Step.{Step}
use Rattle.gcx_base.specs.declared.steps.Test.{Test}
use Rattle.cond_memo.specs.Marks.{Fits}
use Rattle.cond_memo.proofs.MarkTrees.{fits_more, not_empty}
use Rattle.cond_memo.proofs.mark.last_of.Goals as goal

pub returns-in_ok-test-in-Some : goal.returns-in_ok-test-in-Some
returns-in_ok-test-in-Some c =
    let last = c.in-Some.last.now in
    let front = c.in-Some.front.now in
    subst (λ (t : Test). Fits c.args.steps.now (record { axis = Descendant; test = t })) (sym c.in_ok-test-in-Some.ensures)
    (subst (λ (xs : List Step). Fits xs (record { axis = Descendant; test = last.test })) (sym c.in-Some.ensures.cases.0)
    (fits_more last front (not_empty front c.is_empty.result c.is_empty.ensures c.if-is_empty.false)))
