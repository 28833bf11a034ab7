use Rattle.std.proofs.Common.{◌∙◌, ap, sym}
use Rattle.trace_check.specs.Wanting.{is_last}
use Rattle.trace_check.proofs.Roles.{above_last}
use Rattle.trace_check.proofs.given.add.Goals as goal

pub push-requires : goal.push-requires
push-requires c = above_last c.args.given.now c.args.role c.requires
    (ap (λ roles. is_last roles c.args.role) (sym c.items.ensures.same) ∙ (sym c.is_last.ensures ∙ c.if-is_last.false))
