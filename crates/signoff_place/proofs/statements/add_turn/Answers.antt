use Rattle.std.proofs.Common.{refl, ◌∙◌, arith}
use Rattle.signoff_place.specs.Ends.{ends_of}
use Rattle.signoff_place.specs.Spread.{tables}
use Rattle.signoff_place.proofs.Turns.{turn_more}
use Rattle.signoff_place.proofs.statements.add_turn.Goals as goal

pub loop-i-preserved : goal.loop-i-preserved
loop-i-preserved c = record {
  lists = λ x. turn_more (tables c.args.known.now) c.args.own x (ends_of c.args.ends.now x) (ends_of c.loop-i.ends x) (ends_of c.add_role.new.ends x) c.args.roles.now c.loop-i.i c.loop-i.i c.index-roles-i.result
      (omega arith) c.index-roles-i.is refl (c.loop-i.invariant.lists x) (c.in_ok-add_role.ensures.lists x);
  count = c.in_ok-add_role.ensures.count ∙ c.loop-i.invariant.count;
}
