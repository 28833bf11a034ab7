use Rattle.std.proofs.Common.{false, refl, subst}
use Rattle.std.proofs.lemmas.Result.{on_ok_weaker, on_err_weaker}
use Rattle.gcx_base.specs.declared.kind.Kind.TheVariants.{Element}
use Rattle.path_states.specs.Names.{IsNameNumber}
use Rattle.matcher.specs.View.{MatcherView}
use Rattle.matcher.proofs.Calling.{idle_entered, next_entered, same_keeps}
use Rattle.matcher.proofs.matcher.Matcher.go_name.Goals as goal

pub returns-then-is_idle-clause-stands : goal.returns-then-is_idle-clause-stands
returns-then-is_idle-clause-stands c = idle_entered c.args.self.now (Element c.args.name.now) tt false refl c.go_idle.new.self (c.is_idle.ensures.yes c.if-is_idle.true) c.go_idle.ensures

pub returns-clause-stands : goal.returns-clause-stands
returns-clause-stands c =
    let by = subst (λ (m : MatcherView). IsNameNumber m.names (Element c.args.name.now) c.number-number.result) c.self.view_is c.number-number.ensures in
    on_ok_weaker c.go_next.result (λ d. next_entered c.args.self.now (Element c.args.name.now) tt false refl c.go_next.new.self c.number-number.result (c.is_idle.ensures.no c.if-is_idle.false) by d) c.go_next.ensures.stands

pub returns-clause-err : goal.returns-clause-err
returns-clause-err c = on_err_weaker c.go_next.result (λ e. same_keeps c.args.self.now c.go_next.new.self e) c.go_next.ensures.err
