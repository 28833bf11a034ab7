use Rattle.std.proofs.Common.{Option, sym, ap, subst}
use Rattle.gcx_base.specs.declared.ids.Serial.{Serial}
use Rattle.pull_eval.specs.Leaps.{Looks}
use Rattle.pull_eval.proofs.Looking.{looks_first, looks_from}
use Rattle.pull_eval.proofs.turns.Turns.look.Goals as goal

pub returns-in-None-clause-looks : goal.returns-in-None-clause-looks
returns-in-None-clause-looks g c =
    subst (λ (z : Option Serial). Looks c.args.buffer.now.rows c.args.self.now c.turn_to.new.self c.args.context.0 c.args.outer.0.0 c.args.outer.1.0 z c.first_of_all.result) (sym c.in-None.is)
    (looks_first c.args.buffer.now.rows c.args.self.now c.turn_to.new.self
    (record { step = ap (λ (z : _). z.now) c.turn_to.ensures.step; own = ap (λ (z : _). z.now) c.turn_to.ensures.own; other = ap (λ (z : _). z.now) c.turn_to.ensures.other })
    c.args.context.0 c.in_ok-turn_to.ensures.turned c.args.outer.0.0 c.args.outer.1.0 c.first_of_all.result c.first_of_all.ensures)

pub returns-in_ok-choose-in-Some-clause-looks : goal.returns-in_ok-choose-in-Some-clause-looks
returns-in_ok-choose-in-Some-clause-looks g c =
    subst (λ (z : Option Serial). Looks c.args.buffer.now.rows c.args.self.now c.choose.new.self c.args.context.0 c.args.outer.0.0 c.args.outer.1.0 z c.first_from.result) (sym c.in-Some.is)
    (looks_from c.args.buffer.now.rows c.args.self.now c.turn_to.new.self
    (record { step = ap (λ (z : _). z.now) c.turn_to.ensures.step; own = ap (λ (z : _). z.now) c.turn_to.ensures.own; other = ap (λ (z : _). z.now) c.turn_to.ensures.other })
    c.args.context.0 c.in_ok-turn_to.ensures.turned c.choose.new.self
    (record { step = ap (λ (z : _). z.now) c.choose.ensures.step; own = ap (λ (z : _). z.now) c.choose.ensures.own; other = ap (λ (z : _). z.now) c.choose.ensures.other })
    c.args.outer.0.0 c.args.outer.1 c.in_ok-choose-in-Some.ensures.chosen c.in-Some.first c.first_from.result c.first_from.ensures)
