use Rattle.std.proofs.Common.{◌≡◌, ◌<◌, List, length, Result, Err, refl, sym, ◌∙◌, ap, subst}
use Rattle.std.specs.Prelude.{OnErr}
use Rattle.std.proofs.lemmas.Result.{err_from_is_err_and}
use Rattle.gcx_base.specs.declared.memory.Memory.{Memory}
use Rattle.gcx_base.specs.declared.steps.Step.{Step}
use Rattle.gcx_model.specs.ItemView.{off_tree}
use Rattle.matcher.specs.Calls.{KeepsStanding, StandsIn}
use Rattle.matcher.specs.Matcher.{MatcherAt}
use Rattle.matcher.specs.Parts.{NodeMarks}
use Rattle.matcher.specs.View.{GoTogether, MatcherView, frames_of, matcher_view}
use Rattle.matcher.specs.declared.signs.Sign.{Sign}
use Rattle.matcher.proofs.Framing.{frames_signed, signed_length}
use Rattle.matcher.proofs.Signing.{noted_more, signs_more}
use Rattle.matcher.proofs.matcher.Matcher.sign.Goals as goal

pub invariant_of-self : goal.invariant_of-self
invariant_of-self c = subst (λ (z : List NodeMarks). GoTogether c.self.inside.states z) (sym c.in_err-note_signed.ensures.err) c.self.invariant

pub returns-in_err-note_signed-clause-err : goal.returns-in_err-note_signed-clause-err
returns-in_err-note_signed-clause-err c =
    let p = err_from_is_err_and c.from_residual.result c.from_residual.ensures.1 in
    let f : List NodeMarks → MatcherView = λ marks. matcher_view c.self.inside.states marks c.self.inside.idle c.self.inside.text c.self.inside.signs.items in
    subst (λ (r : Result (Unit {0}) Memory). OnErr r (KeepsStanding c.args.self.now (f c.note_signed.new.self))) (sym (p.1 ∙ ap Err p.2))
    (λ s S. subst (λ (m : MatcherView). StandsIn m s) (sym c.self.view_is ∙ ap f (sym c.in_err-note_signed.ensures.err)) S)

pub invariant_of-self-in_err-put_sign : goal.invariant_of-self-in_err-put_sign
invariant_of-self-in_err-put_sign c =
    let count = c.in_ok-note_signed.ensures.ok.count in
    (c.self.invariant.0 ∙ sym count, subst (λ z. 0 < z) (sym count) c.self.invariant.1)

pub returns-in_err-put_sign-clause-err : goal.returns-in_err-put_sign-clause-err
returns-in_err-put_sign-clause-err c =
    let p = err_from_is_err_and c.from_residual-in_err-put_sign.result c.from_residual-in_err-put_sign.ensures.1 in
    let v = c.self.inside.states in
    let marks = c.self.inside.frames in
    let now = c.note_signed.new.self in
    let noted = c.in_ok-note_signed.ensures.ok in
    let f : List Sign → MatcherView = λ signs. matcher_view v now c.self.inside.idle c.self.inside.text signs in
    let m = matcher_view v marks c.self.inside.idle c.self.inside.text c.self.inside.signs.items in
    subst (λ (r : Result (Unit {0}) Memory). OnErr r (KeepsStanding c.args.self.now (f c.put_sign.new.signs.items))) (sym (p.1 ∙ ap Err p.2))
    (λ s S. subst (λ (m : MatcherView). StandsIn m s) (ap f (sym c.in_err-put_sign.ensures.err))
    (noted_more m s.0 s.1 (subst (λ (z : MatcherView). StandsIn z s) (sym c.self.view_is) S) (frames_of v now) c.args.level
    (record { count = signed_length v.states marks now c.args.level noted c.self.invariant.0; each = frames_signed v.states marks now c.args.level noted })))

pub invariant_of-self-2 : goal.invariant_of-self-2
invariant_of-self-2 c =
    let count = c.in_ok-note_signed.ensures.ok.count in
    (c.self.invariant.0 ∙ sym count, subst (λ z. 0 < z) (sym count) c.self.invariant.1)

pub returns-clause-stands : goal.returns-clause-stands
returns-clause-stands c = λ past text k s of is_open at base.
    let v = c.self.inside.states in
    let marks = c.self.inside.frames in
    let now = c.note_signed.new.self in
    let m = matcher_view v marks c.self.inside.idle c.self.inside.text c.self.inside.signs.items in
    let S = subst (λ (z : MatcherView). MatcherAt z past text) (sym c.self.view_is) s in
    let x : Sign = record { role = c.args.off.now.role.0; level = c.args.level; steps = length c.items.result.now } in
    signs_more m past text S (off_tree c.args.off.now) of k is_open base x refl at (ap (λ (z : List Step). length z) (sym c.items.ensures)) (frames_of v now) c.put_sign.new.signs.items
    (record { count = signed_length v.states marks now c.args.level c.in_ok-note_signed.ensures.ok c.self.invariant.0; each = frames_signed v.states marks now c.args.level c.in_ok-note_signed.ensures.ok })
    c.in_ok-put_sign.ensures.ok (c.in_ok-put_sign.ensures.turn S.turn)
