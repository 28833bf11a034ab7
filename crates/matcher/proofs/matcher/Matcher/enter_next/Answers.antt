use Rattle.std.proofs.Common.{◌≡◌, List, sym, ◌∙◌, ap, subst}
use Rattle.std.proofs.lemmas.Result.{IfOk-weaker, on_ok_weaker, on_err_weaker}
use Rattle.gcx_base.specs.declared.ids.Role.{Role}
use Rattle.path_states.specs.States.{StatesView}
use Rattle.matcher.specs.Calls.{GivesNext, StandsNext}
use Rattle.matcher.specs.Entering.{Advances, GivesInside, IsIdled}
use Rattle.matcher.specs.Parts.{NodeMarks}
use Rattle.matcher.specs.View.{GoTogether, MatcherView, matcher_view}
use Rattle.matcher.proofs.Calling.{added_given, added_stands, halted_given, halted_stands}
use Rattle.matcher.proofs.EnteringFrame.{grown_together}
use Rattle.matcher.proofs.matcher.Matcher.enter_next.Goals as goal

-- ---- it gets a frame

pub invariant_of-self-in-Some : goal.invariant_of-self-in-Some
invariant_of-self-in-Some c =
    let d = subst (Advances c.self.inside.states c.advance.new.states c.self.inside.frames c.advance.new.frames c.args.number c.args.text) c.in-Some.is c.in_ok-next.ensures.done in
    grown_together c.self.inside.states c.advance.new.states c.self.inside.frames c.advance.new.frames c.args.number d.1.found c.self.invariant d.0 d.1.frame

pub returns-in-Some-clause-stands : goal.returns-in-Some-clause-stands
returns-in-Some-clause-stands c =
    let d = subst (Advances c.self.inside.states c.advance.new.states c.self.inside.frames c.advance.new.frames c.args.number c.args.text) c.in-Some.is c.in_ok-next.ensures.done in
    subst (λ (m : MatcherView). StandsNext m (matcher_view c.advance.new.states c.advance.new.frames c.self.inside.idle c.args.text c.self.inside.signs.items) c.args.number c.args.text) c.self.view_is
    (added_stands c.self.inside.states c.self.inside.frames c.self.inside.idle c.self.inside.text c.self.inside.signs.items c.self.invariant c.args.number c.args.text c.advance.new.states c.advance.new.frames d.1.found d.0 d.1.frame)

pub returns-in-Some-clause-given : goal.returns-in-Some-clause-given
returns-in-Some-clause-given c =
    let d = subst (Advances c.self.inside.states c.advance.new.states c.self.inside.frames c.advance.new.frames c.args.number c.args.text) c.in-Some.is c.in_ok-next.ensures.done in
    subst (λ (m : MatcherView). GivesNext m c.args.number c.args.text c.in-Some.given) c.self.view_is
    (added_given c.self.inside.states c.self.inside.frames c.self.inside.idle c.self.inside.text c.self.inside.signs.items c.self.invariant c.args.number c.args.text c.advance.new.states c.advance.new.frames d.1.found d.0 d.1.frame c.in-Some.given d.1.roles)

-- ---- no path leads there

pub invariant_of-self-in-None : goal.invariant_of-self-in-None
invariant_of-self-in-None c =
    let d = (subst (Advances c.self.inside.states c.advance.new.states c.self.inside.frames c.advance.new.frames c.args.number c.args.text) c.in-None.is c.in_ok-next.ensures.done c.self.invariant).0 in
    subst (λ (z : StatesView). GoTogether z c.advance.new.frames) (sym d.0) (subst (λ (z : List NodeMarks). GoTogether c.self.inside.states z) (sym d.1) c.self.invariant)

pub returns-in-None-clause-stands : goal.returns-in-None-clause-stands
returns-in-None-clause-stands c =
    let d = subst (Advances c.self.inside.states c.advance.new.states c.self.inside.frames c.advance.new.frames c.args.number c.args.text) c.in-None.is c.in_ok-next.ensures.done c.self.invariant in
    let old = matcher_view c.self.inside.states c.self.inside.frames c.self.inside.idle c.self.inside.text c.self.inside.signs.items in
    let mid = matcher_view c.advance.new.states c.advance.new.frames c.self.inside.idle c.self.inside.text c.self.inside.signs.items in
    let same : mid ≡ old = ap (λ (z : StatesView). matcher_view z c.advance.new.frames c.self.inside.idle c.self.inside.text c.self.inside.signs.items) d.0.0 ∙ ap (λ (z : List NodeMarks). matcher_view c.self.inside.states z c.self.inside.idle c.self.inside.text c.self.inside.signs.items) d.0.1 in
    on_ok_weaker c.enter_idle.result (λ i. subst (λ (m : MatcherView). StandsNext m c.enter_idle.new.self c.args.number c.args.text) c.self.view_is
    (halted_stands c.self.inside.states c.self.inside.frames c.self.inside.idle c.self.inside.text c.self.inside.signs.items c.self.invariant c.args.number c.args.text c.enter_idle.new.self d.1 (subst (λ (z : MatcherView). IsIdled z c.enter_idle.new.self c.args.text) same i))) c.enter_idle.ensures.idled

pub returns-in-None-clause-given : goal.returns-in-None-clause-given
returns-in-None-clause-given c =
    let d = subst (Advances c.self.inside.states c.advance.new.states c.self.inside.frames c.advance.new.frames c.args.number c.args.text) c.in-None.is c.in_ok-next.ensures.done c.self.invariant in
    let old = matcher_view c.self.inside.states c.self.inside.frames c.self.inside.idle c.self.inside.text c.self.inside.signs.items in
    let mid = matcher_view c.advance.new.states c.advance.new.frames c.self.inside.idle c.self.inside.text c.self.inside.signs.items in
    let same : mid ≡ old = ap (λ (z : StatesView). matcher_view z c.advance.new.frames c.self.inside.idle c.self.inside.text c.self.inside.signs.items) d.0.0 ∙ ap (λ (z : List NodeMarks). matcher_view c.self.inside.states z c.self.inside.idle c.self.inside.text c.self.inside.signs.items) d.0.1 in
    IfOk-weaker c.enter_idle.result _ _ (λ (given : List Role) g. subst (λ (m : MatcherView). GivesNext m c.args.number c.args.text given) c.self.view_is
    (halted_given c.self.inside.states c.self.inside.frames c.self.inside.idle c.self.inside.text c.self.inside.signs.items c.self.invariant c.args.number c.args.text given d.1 (subst (λ (z : MatcherView). GivesInside z given) same g))) c.enter_idle.ensures.given

pub returns-in-None-clause-err : goal.returns-in-None-clause-err
returns-in-None-clause-err c =
    let d = (subst (Advances c.self.inside.states c.advance.new.states c.self.inside.frames c.advance.new.frames c.args.number c.args.text) c.in-None.is c.in_ok-next.ensures.done c.self.invariant).0 in
    let same = ap (λ (z : StatesView). matcher_view z c.advance.new.frames c.self.inside.idle c.self.inside.text c.self.inside.signs.items) d.0 ∙ ap (λ (z : List NodeMarks). matcher_view c.self.inside.states z c.self.inside.idle c.self.inside.text c.self.inside.signs.items) d.1 in
    on_err_weaker c.enter_idle.result (λ e. e ∙ (same ∙ c.self.view_is)) c.enter_idle.ensures.err
