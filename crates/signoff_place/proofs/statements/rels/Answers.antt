use Rattle.std.proofs.Common.{[], ◌∷◌, false, List, get_or, refl, ap, ◌∙◌, arith}
use Rattle.gcx_base.specs.declared.steps.Step.{Step}
use Rattle.signoff_place.specs.Spread.{rel_next}
use Rattle.signoff_place.proofs.Rels.{rels_more}
use Rattle.signoff_place.proofs.statements.rels.Goals as goal

pub loop-i-preserved : goal.loop-i-preserved
loop-i-preserved c =
    rels_more ([] ∷ []) c.loop-i.rels.items c.push-in-loop-i.new.self.items c.args.vars.now c.args.straight.now c.loop-i.i c.index-vars-i.result (get_or c.args.straight.now c.loop-i.i false) false c.in_ok-rel.rel
    (omega arith) c.requires c.index-vars-i.is refl c.loop-i.invariant
    (c.in_ok-rel.ensures ∙ ap (λ (rs : List (List Step)). rel_next (get_or c.args.straight.now c.loop-i.i false) (get_or rs c.index-vars-i.result.parent.0 []) c.index-vars-i.result.step) c.deref.ensures.value)
    c.in_ok-push-2.ensures.items
