use Rattle.std.proofs.Common.{◌+◌, List, get_or, arith, sym, ap, ◌∙◌}
use Rattle.std.specs.Prelude.{nat_lt}
use Rattle.gcx_base.specs.declared.steps.Step.{Step}
use Rattle.proj_tree.specs.Depths.{descendants}
use Rattle.proj_tree.proofs.Falls.{seems_deep, some_at}
use Rattle.proj_tree.proofs.rows.some_deep.Goals as goal

pub returns-then-is_deeper : goal.returns-then-is_deeper
returns-then-is_deeper c =
    sym (some_at (seems_deep c.args.known.now) c.args.rows.now c.loop-row.row-index c.row-item.result (omega arith) c.row-item.is
    (ap (λ (ss : List Step). nat_lt 6 (get_or c.args.known.now c.row-item.result.var.0 0 + descendants ss)) (sym c.items.ensures) ∙ (sym c.is_deeper.ensures ∙ c.if-is_deeper.true)))
