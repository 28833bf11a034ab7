use Rattle.std.proofs.Common.{sym, ◌∙◌}
use Rattle.gcx_model.specs.CondView.{core_cond_tree}
use Rattle.trace_check.specs.Timing.{clock_in}
use Rattle.trace_check.proofs.Settles.{same_sides}
use Rattle.trace_check.proofs.conditions.asked.Goals as goal

pub returns-in-Some-clause-memo : goal.returns-in-Some-clause-memo
returns-in-Some-clause-memo c = c.known.ensures.memo c.args.timed.now c.requires.memo

pub returns-clause-memo : goal.returns-clause-memo
returns-clause-memo c =
    let t = c.args.timed.now in
    let scope = c.args.scope.now in
    let sides = c.sides_of-left.ensures in
    c.in_ok-keep.ensures t (c.known.ensures.memo t c.requires.memo) (λ bs l r.
    c.in_ok-known.ensures ∙ same_sides (clock_in t) t.tree scope bs (core_cond_tree c.args.cond.now) c.requires.atom (sym sides.left ∙ sym l) (sym sides.right ∙ sym r))
