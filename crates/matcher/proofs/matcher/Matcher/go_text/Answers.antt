use Rattle.std.proofs.Common.{ℕ, true, List, refl, subst}
use Rattle.std.proofs.lemmas.Result.{on_ok_weaker, on_err_weaker}
use Rattle.gcx_base.specs.declared.kind.Kind.TheVariants.{Text}
use Rattle.path_states.specs.Names.{IsNameNumber}
use Rattle.matcher.specs.View.{MatcherView}
use Rattle.matcher.proofs.Calling.{idle_entered, next_entered, same_keeps}
use Rattle.matcher.proofs.matcher.Matcher.go_text.Goals as goal

pub returns-then-is_idle-clause-stands : goal.returns-then-is_idle-clause-stands
returns-then-is_idle-clause-stands c = λ bytes. idle_entered c.args.self.now (Text bytes) tt true refl c.go_idle.new.self (c.is_idle.ensures.yes c.if-is_idle.true) c.go_idle.ensures

pub returns-clause-stands : goal.returns-clause-stands
returns-clause-stands c =
    let by = subst (λ (m : MatcherView). (bytes : List ℕ) → IsNameNumber m.names (Text bytes) c.text-number.result) c.self.view_is c.text-number.ensures in
    on_ok_weaker c.go_next.result (λ d bytes. next_entered c.args.self.now (Text bytes) tt true refl c.go_next.new.self c.text-number.result (c.is_idle.ensures.no c.if-is_idle.false) (by bytes) d) c.go_next.ensures.stands

pub returns-clause-err : goal.returns-clause-err
returns-clause-err c = on_err_weaker c.go_next.result (λ e. same_keeps c.args.self.now c.go_next.new.self e) c.go_next.ensures.err
