use Rattle.std.proofs.Common.{map, refl}
use Rattle.gcx_model.specs.PlanView.{plan_tree}
use Rattle.doc_reader.specs.Standing.{said_of}
use Rattle.engine.specs.declared.turns.Course.{Course}
use Rattle.engine.proofs.TurnsFed.{reaches_none}
use Rattle.engine.proofs.turns.course_of.Goals as goal

pub returns-clause-reaches : goal.returns-clause-reaches
returns-clause-reaches g c =
    let b = c.in_ok-actors.ensures.begins in
    let made : Course g.row.N.Denot g.row.C.Denot = record { actors = c.in_ok-actors.actors; tokens = c.args.tokens; fed = 0; acted = 0 } in
    reaches_none g.C.Conds.stands (plan_tree c.args.plan.now) (map said_of c.args.tokens.items) made c.requires.tokens c.requires.within b.at refl refl refl b.given
