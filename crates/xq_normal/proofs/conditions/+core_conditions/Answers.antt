use Rattle.std.proofs.Common.{map, ap, arith, ◌∙◌}
use Rattle.std.proofs.lemmas.List.{take_all}
use Rattle.gcx_model.specs.Query.{conds_of}
use Rattle.gcx_model.specs.CondView.{core_conds_of}
use Rattle.gcx_model.specs.Normal.{normal_conds}
use Rattle.xq_normal.specs.Scopes.{names_of}
use Rattle.xq_normal.proofs.Building.{cond_in, conds_in}
use Rattle.xq_normal.proofs.conditions.+core_conditions.Goals as goal

pub core_conds-returns : goal.core_conds-returns
core_conds-returns t c =
    ap core_conds_of (c.loop-cond.invariant ∙ ap (map (cond_in (names_of c.args.scope.now))) (take_all c.loop-cond.cond-index c.items-cond-items.result.now (omega arith)))
    ∙ (conds_in (names_of c.args.scope.now) c.items-cond-items.result.now
    ∙ ap (λ ts. normal_conds (conds_of ts) (names_of c.args.scope.now)) c.items-cond-items.ensures.trees)
