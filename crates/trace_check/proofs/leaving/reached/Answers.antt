use Rattle.std.proofs.Common.{◌≡◌, ◌∙◌, ap}
use Rattle.gcx_model.specs.Held.{gives}
use Rattle.gcx_model.specs.ItemView.{role_kind}
use Rattle.gcx_model.specs.Paths.{hits}
use Rattle.trace_check.specs.Reaching.{numbers_of}
use Rattle.trace_check.proofs.Gives.{gives_by}
use Rattle.trace_check.proofs.Numbers.{number_of}
use Rattle.trace_check.proofs.Reached.{if_ok}
use Rattle.trace_check.proofs.leaving.reached.Goals as goal

pub returns : goal.returns
returns c = if_ok c.reach.result _ _ c.reach.ensures (λ ranges h n i.
    let found : c.in_ok-nodes.nodes.items ≡ numbers_of c.args.tree.now (hits c.args.node c.args.off.now.rel)
    = c.in_ok-nodes.ensures.numbers
    ∙ (ap (λ k. numbers_of c.args.tree.now (hits k c.items.result.now)) (number_of c.args.tree.now c.requires.grown c.args.node c.requires.there)
    ∙ ap (λ rel. numbers_of c.args.tree.now (hits c.args.node rel)) c.items.ensures) in
    h (hits c.args.node c.args.off.now.rel) found n i
    ∙ (gives_by c.args.tree.now c.requires.grown c.args.node c.args.off.now.rel c.items-2.result.now (role_kind c.args.off.now.kind) n i
    ∙ ap (λ tail. gives c.args.tree.now c.args.node c.args.off.now.rel tail (role_kind c.args.off.now.kind) n) c.items-2.ensures))
