use Rattle.std.proofs.Common.{◌≤◌, map, take}
use Rattle.gcx_model.specs.PlanView.{plan_tree}
use Rattle.doc_reader.specs.Standing.{said_of}
use Rattle.engine.specs.Turns.{turns_of}
use Rattle.engine.proofs.TurnsTaken.{TurnedTo}
use Rattle.engine.proofs.turns.interleave.Given as goal

abbrev pub invariant-loop-turn : goal.invariant-loop-turn
invariant-loop-turn g l = record {
  turned : TurnedTo g.C.Conds.stands (plan_tree l.fn.plan) (map said_of l.fn.tokens.items) (turns_of (take l.turn-index l.turns)) l.course l.fn.out.items l.out.items;
  few : l.course.acted ≤ l.turn-index;
}
