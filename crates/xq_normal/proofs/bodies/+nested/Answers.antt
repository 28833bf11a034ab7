use Rattle.std.proofs.Common.{◌≡◌, suc, ap, arith, length, sym, ◌∙◌, add-one}
use Rattle.std.proofs.lemmas.Result.{IfOk-weaker}
use Rattle.gcx_model.specs.Core.{For}
use Rattle.gcx_model.specs.declared.item.Item.TheViews as item
use Rattle.gcx_model.specs.ItemView.{body_tree, item_tree}
use Rattle.gcx_model.specs.Normal.{nest, one}
use Rattle.gcx_model.proofs.Folds.{fold_For}
use Rattle.xq_normal.proofs.bodies.+nested.Goals as goal

pub nested-requires : goal.nested-requires
nested-requires t c =
    let e = ap length c.in-Some.ensures.cases.0 in
    let d = c.decreases in
    (omega arith, omega arith)

pub returns-in_ok-step-in-Some : goal.returns-in_ok-step-in-Some
returns-in_ok-step-in-Some t c =
    let made : item_tree (item.For (record { 0 = c.args.var }) c.args.from c.in_ok-step-in-Some.step c.in_ok-body-in-Some.body) ≡ For c.args.var c.args.from.0 c.in-Some.step.now (nest c.args.var c.in-Some.rest.now (suc c.args.var) (λ y. body_tree c.args.body)) =
    fold_For (record { 0 = c.args.var }) c.args.from c.in_ok-step-in-Some.step c.in_ok-body-in-Some.body
    ∙ (ap (λ s. For c.args.var c.args.from.0 s (body_tree c.in_ok-body-in-Some.body)) c.in_ok-step-in-Some.ensures
    ∙ ap (λ d. For c.args.var c.args.from.0 c.in-Some.step.now d) (c.in_ok-body-in-Some.ensures ∙ ap (λ k. nest c.args.var c.in-Some.rest.now k (λ y. body_tree c.args.body)) (add-one c.args.var))) in
    IfOk-weaker c.single.result _ _
    (λ loops e. e ∙ (ap one made ∙ ap (λ ss. nest c.args.from.0 ss c.args.var (λ y. body_tree c.args.body)) (sym c.in-Some.ensures.cases.0)))
    c.single.ensures
