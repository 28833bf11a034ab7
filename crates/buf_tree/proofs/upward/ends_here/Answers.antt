use Rattle.std.proofs.Common.{arith, sym, ◌∙◌, ap}
use Rattle.gcx_model.specs.ItemView.{role_kind}
use Rattle.buf_tree.proofs.Ways.{any_default}
use Rattle.buf_tree.proofs.Reaching.{ends_not, ends_own, ends_whole, ends_first}
use Rattle.buf_tree.proofs.upward.ends_here.Goals as goal

pub returns-then-not-index-clause-ends : goal.returns-then-not-index-clause-ends
returns-then-not-index-clause-ends g c T a n tree u v up f =
    ends_not _ c.requires.shape T tree a n c.args.off.now.tail c.args.trail.now.tails.items (tree.told _ a u) (tree.told _ n v) up (role_kind c.args.off.now.kind) f
    (sym (any_default c.args.trail.now.tails.items 0 _ (omega (arith, c.requires.count))) ∙ sym c.index.ensures ∙ c.if-not-index.true)

pub returns-in-Own-clause-ends : goal.returns-in-Own-clause-ends
returns-in-Own-clause-ends g c T a n tree u v up f =
    ends_own _ c.requires.shape T tree a n c.args.off.now.tail c.args.trail.now.tails.items (tree.told _ a u) (tree.told _ n v) up (role_kind c.args.off.now.kind) (ap role_kind c.in-Own.is) f
    (sym (any_default c.args.trail.now.tails.items 0 _ (omega (arith, c.requires.count))) ∙ sym c.index.ensures ∙ c.if-not-index.false)

pub returns-in-Whole-clause-ends : goal.returns-in-Whole-clause-ends
returns-in-Whole-clause-ends g c T a n tree u v up f =
    ends_whole _ c.requires.shape T tree a n c.args.off.now.tail c.args.trail.now.tails.items (tree.told _ a u) (tree.told _ n v) up (role_kind c.args.off.now.kind) (ap role_kind c.in-Whole.is) f
    (sym (any_default c.args.trail.now.tails.items 0 _ (omega (arith, c.requires.count))) ∙ sym c.index.ensures ∙ c.if-not-index.false)

pub returns-in-First-clause-ends : goal.returns-in-First-clause-ends
returns-in-First-clause-ends g c T a n tree u v up f =
    ends_first _ c.requires.shape T tree a n c.args.off.now.tail c.args.trail.now.tails.items (tree.told _ a u) (tree.told _ n v) up (role_kind c.args.off.now.kind) (ap role_kind c.in-First.is) f
    (sym (any_default c.args.trail.now.tails.items 0 _ (omega (arith, c.requires.count))) ∙ sym c.index.ensures ∙ c.if-not-index.false)
    _ (rw c.items.ensures at (c.is_first.ensures.first a n u v up))
