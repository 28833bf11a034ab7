use Rattle.std.proofs.Common.{subst}
use Rattle.std.proofs.lemmas.Result.{on_ok_weaker, on_err_weaker}
use Rattle.path_states.specs.Names.{IsNameNumber}
use Rattle.matcher.specs.View.{MatcherView}
use Rattle.matcher.proofs.Calling.{idle_entered, next_entered, same_keeps}
use Rattle.matcher.proofs.matcher.Matcher.go.Goals as goal

pub returns-then-is_idle-clause-stands : goal.returns-then-is_idle-clause-stands
returns-then-is_idle-clause-stands c =
    idle_entered c.args.self.now c.args.kind.now c.requires.kind c.is_text-text.result c.is_text-text.ensures c.go_idle.new.self (c.is_idle.ensures.yes c.if-is_idle.true) c.go_idle.ensures

pub returns-clause-stands : goal.returns-clause-stands
returns-clause-stands c =
    let by = subst (λ (m : MatcherView). IsNameNumber m.names c.args.kind.now c.number_of-number.result) c.self.view_is c.number_of-number.ensures in
    on_ok_weaker c.go_next.result (λ d. next_entered c.args.self.now c.args.kind.now c.requires.kind c.is_text-text.result c.is_text-text.ensures c.go_next.new.self c.number_of-number.result (c.is_idle.ensures.no c.if-is_idle.false) by d) c.go_next.ensures.stands

pub returns-clause-err : goal.returns-clause-err
returns-clause-err c = on_err_weaker c.go_next.result (λ e. same_keeps c.args.self.now c.go_next.new.self e) c.go_next.ensures.err
