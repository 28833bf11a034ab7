use Rattle.std.proofs.Common.{◌≡◌, ◌∙◌, ap, sym}
use Rattle.gcx_model.specs.ItemView.{role_kind}
use Rattle.gcx_model.specs.Tree.{serial_of}
use Rattle.trace_check.specs.Reaching.{is_among, is_first_of, is_within_some, numbers_of, role_reaches, stepped_on}
use Rattle.trace_check.proofs.Reached.{among_set, firsts_set, if_ok, within_set}
use Rattle.trace_check.proofs.reach.reach.Goals as goal

pub returns-in-Own : goal.returns-in-Own
returns-in-Own c = if_ok c.each.result _ _ c.each.ensures (λ ranges h f e n i.
    h (serial_of n)
    ∙ (ap (λ ns. is_among ns (serial_of n)) (c.deref.ensures.value ∙ e)
    ∙ (among_set c.args.tree.now c.requires f n i ∙ ap (λ k. role_reaches c.args.tree.now f c.args.tail.now (role_kind k) n) (sym c.in-Own.is))))

pub returns-in-First : goal.returns-in-First
returns-in-First c = if_ok c.firsts.result _ _ c.firsts.ensures (λ ranges h f e n i.
    h n i
    ∙ (ap (λ ns. is_first_of c.args.tree.now ns c.args.tail.now n) (c.deref-in-First.ensures.value ∙ e)
    ∙ (firsts_set c.args.tree.now c.requires f c.args.tail.now n ∙ ap (λ k. role_reaches c.args.tree.now f c.args.tail.now (role_kind k) n) (sym c.in-First.is))))

pub returns-in_ok-tops-in-Whole : goal.returns-in_ok-tops-in-Whole
returns-in_ok-tops-in-Whole c = if_ok c.subtrees.result _ _ c.subtrees.ensures (λ ranges h f e n i.
    let found : c.deref-in-Whole.result.now ≡ numbers_of c.args.tree.now (stepped_on c.args.tail.now f) = c.deref-in-Whole.ensures.value ∙ c.in_ok-tops-in-Whole.ensures f e in
    h (stepped_on c.args.tail.now f) found n i
    ∙ (ap (λ ns. is_within_some ns n) found
    ∙ (within_set c.args.tree.now c.requires (stepped_on c.args.tail.now f) n i ∙ ap (λ k. role_reaches c.args.tree.now f c.args.tail.now (role_kind k) n) (sym c.in-Whole.is))))
