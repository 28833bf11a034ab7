use Rattle.std.proofs.Common.{ℕ, ◌+◌, min, List, [], ◌∷◌, get_or, ap, ◌∙◌, arith}
use Rattle.proj_tree.proofs.Falls.{rows_more}
use Rattle.proj_tree.proofs.depth.depths.Goals as goal

pub loop-row-preserved : goal.loop-row-preserved
loop-row-preserved c =
    rows_more (0 ∷ []) c.loop-row.depths.items c.push-in-loop-row.new.self.items c.args.vars.now c.loop-row.row-index c.saturating_add-depth.result c.row-item.result (omega arith) c.row-item.is c.loop-row.invariant
    (c.saturating_add-depth.ensures ∙ (λ k. min ((c.depth_at.ensures ∙ ap (λ (ds : List ℕ). get_or ds c.row-item.result.parent.0 0) c.deref.ensures.value) k + c.fall.ensures k) 4294967295))
    c.in_ok-push-2.ensures.items
