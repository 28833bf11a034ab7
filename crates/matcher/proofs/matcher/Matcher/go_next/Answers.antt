use Rattle.std.proofs.Common.{◌≡◌, List, sym, ◌∙◌, ap, subst}
use Rattle.path_states.specs.States.{StatesView}
use Rattle.matcher.specs.Calls.{StandsNext}
use Rattle.matcher.specs.Entering.{IsIdled, EntersIfLed}
use Rattle.matcher.specs.Parts.{NodeMarks}
use Rattle.matcher.specs.View.{GoTogether, MatcherView, matcher_view}
use Rattle.matcher.proofs.Calling.{added_stands, halted_stands}
use Rattle.matcher.proofs.EnteringFrame.{grown_together}
use Rattle.matcher.proofs.matcher.Matcher.go_next.Goals as goal

-- ---- no path leads there

pub invariant_of-self-then-not-led : goal.invariant_of-self-then-not-led
invariant_of-self-then-not-led c =
    let d = (subst (EntersIfLed c.self.inside.states c.step.new.states c.self.inside.frames c.step.new.frames c.args.number c.args.text) c.if-not-led.true c.in_ok-led.ensures.done c.self.invariant).0 in
    subst (λ (z : StatesView). GoTogether z c.step.new.frames) (sym d.0) (subst (λ (z : List NodeMarks). GoTogether c.self.inside.states z) (sym d.1) c.self.invariant)

pub returns-then-not-led-clause-stands : goal.returns-then-not-led-clause-stands
returns-then-not-led-clause-stands c =
    let d = subst (EntersIfLed c.self.inside.states c.step.new.states c.self.inside.frames c.step.new.frames c.args.number c.args.text) c.if-not-led.true c.in_ok-led.ensures.done c.self.invariant in
    let old = matcher_view c.self.inside.states c.self.inside.frames c.self.inside.idle c.self.inside.text c.self.inside.signs.items in
    let mid = matcher_view c.step.new.states c.step.new.frames c.self.inside.idle c.self.inside.text c.self.inside.signs.items in
    let same : mid ≡ old = ap (λ (z : StatesView). matcher_view z c.step.new.frames c.self.inside.idle c.self.inside.text c.self.inside.signs.items) d.0.0 ∙ ap (λ (z : List NodeMarks). matcher_view c.self.inside.states z c.self.inside.idle c.self.inside.text c.self.inside.signs.items) d.0.1 in
    subst (λ (m : MatcherView). StandsNext m c.go_idle.new.self c.args.number c.args.text) c.self.view_is
    (halted_stands c.self.inside.states c.self.inside.frames c.self.inside.idle c.self.inside.text c.self.inside.signs.items c.self.invariant c.args.number c.args.text c.go_idle.new.self d.1 (subst (λ (z : MatcherView). IsIdled z c.go_idle.new.self c.args.text) same c.go_idle.ensures))

-- ---- it gets a frame

pub invariant_of-self-2 : goal.invariant_of-self-2
invariant_of-self-2 c =
    let d = subst (EntersIfLed c.self.inside.states c.step.new.states c.self.inside.frames c.step.new.frames c.args.number c.args.text) c.if-not-led.false c.in_ok-led.ensures.done in
    grown_together c.self.inside.states c.step.new.states c.self.inside.frames c.step.new.frames c.args.number d.1.0 c.self.invariant d.0 d.1.1

pub returns-clause-stands : goal.returns-clause-stands
returns-clause-stands c =
    let d = subst (EntersIfLed c.self.inside.states c.step.new.states c.self.inside.frames c.step.new.frames c.args.number c.args.text) c.if-not-led.false c.in_ok-led.ensures.done in
    subst (λ (m : MatcherView). StandsNext m (matcher_view c.step.new.states c.step.new.frames c.self.inside.idle c.args.text c.self.inside.signs.items) c.args.number c.args.text) c.self.view_is
    (added_stands c.self.inside.states c.self.inside.frames c.self.inside.idle c.self.inside.text c.self.inside.signs.items c.self.invariant c.args.number c.args.text c.step.new.states c.step.new.frames d.1.0 d.0 d.1.1)
