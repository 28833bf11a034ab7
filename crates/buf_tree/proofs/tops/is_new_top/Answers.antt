use Rattle.std.proofs.Common.{sym, ◌∙◌, ap, length, ◌==◌}
use Rattle.buf_tree.proofs.Climbing.{tells_descends}
use Rattle.buf_tree.proofs.Hitting.{no_steps, top_without_steps, top_by_steps}
use Rattle.buf_tree.proofs.tops.is_new_top.Goals as goal

pub returns-then-is_empty-clause-top : goal.returns-then-is_empty-clause-top
returns-then-is_empty-clause-top g c p k u l = top_without_steps _ c.args.top.now _ p k c.args.kind.now (l, tells_descends _ u.cell p u.tells)
    (no_steps c.args.top.now.rel (ap (λ z. length z == 0) (sym c.items.ensures) ∙ sym c.is_empty.ensures ∙ c.if-is_empty.true)) _ c.has.ensures

pub returns-clause-top : goal.returns-clause-top
returns-clause-top g c p k u l = top_by_steps _ c.args.top.now _ p _ (ap (λ z. length z == 0) (sym c.items.ensures) ∙ sym c.is_empty.ensures ∙ c.if-is_empty.false) _ (c.is_hit.ensures.hit p k u l)
