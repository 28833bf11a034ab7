use Rattle.std.proofs.Common.{◌++◌, ◌∷◌, ◌∙◌, [], ap, refl, subst, sym}
use Rattle.std.specs.Prelude.{slice_range}
use Rattle.gcx_base.specs.declared.kind.Kind.TheVariants.{Element}
use Rattle.matcher.specs.View.{MatcherView}
use Rattle.buf_tree.specs.Loose.{Loosely}
use Rattle.buf_tree.specs.View.{View}
use Rattle.projector.specs.Late.{IsShallow, MakesSome, passed_in}
use Rattle.projector.specs.LateRows.{OpensBehind}
use Rattle.projector.specs.Projector.{Places}
use Rattle.projector.specs.Signing.{HearsOf}
use Rattle.projector.specs.View.{ProjectorView}
use Rattle.projector.proofs.Loosely.{late_opened, may_open_late, passes_start, plain_none}
use Rattle.projector.proofs.LateRows.{err_holds, makes_none}
use Rattle.projector.proofs.projector.Projector.start_late.Goals as goal

pub returns-in_err-sign_all-clause-err : goal.returns-in_err-sign_all-clause-err
returns-in_err-sign_all-clause-err g c = err_holds c.from_residual.result (makes_none (passed_in c.args.bytes.now c.args.self.now.passed) c.args.buffer.now)

pub returns-in_err-go_name-clause-err : goal.returns-in_err-go_name-clause-err
returns-in_err-go_name-clause-err g c = err_holds c.from_residual-in_err-go_name.result (makes_none (passed_in c.args.bytes.now c.args.self.now.passed) c.args.buffer.now)

pub returns-in_err-pass_element-clause-err : goal.returns-in_err-pass_element-clause-err
returns-in_err-pass_element-clause-err g c =
    err_holds c.from_residual-in_err-pass_element.result
    (subst (λ (w : View). MakesSome (passed_in c.args.bytes.now c.args.self.now.passed) c.args.buffer.now w) (sym c.in_err-pass_element.ensures.err) (makes_none (passed_in c.args.bytes.now c.args.self.now.passed) c.args.buffer.now))

pub returns-then-gives_none-clause-feeds : goal.returns-then-gives_none-clause-feeds
returns-then-gives_none-clause-feeds g c =
    passes_start c.args.bytes.now c.args.self.now c.sign_all.new.matcher c.go_name.new.self c.args.buffer.now c.waiting.result.now c.waiting.ensures (subst (λ (m : MatcherView). HearsOf m c.sign_all.new.matcher c.waiting.result.now) (ap (λ (p : ProjectorView). p.matcher) c.self.view_is) c.in_ok-sign_all.ensures) c.requires.depth (plain_none c.go_name.new.self c.plain-plain.result (c.gives_none.ensures c.if-gives_none.true) c.plain-plain.ensures)
    c.args.from c.args.to c.requires.name c.in_ok-go_name.ensures.stands _ c.pass_element.new.buffer refl (ap (λ (p : ProjectorView). p.at) c.self.view_is)
    (c.in_ok-pass_element.ensures.passed ∙ ap (λ (p : ProjectorView). p.passed ++ record { from = c.args.from; to = c.args.to; serial = c.args.buffer.now.nodes } ∷ []) c.self.view_is)
    c.in_ok-pass_element.ensures.buffer

pub open_named-requires-clause-name : goal.open_named-requires-clause-name
open_named-requires-clause-name g c = c.requires.name.named

pub open_named-requires-clause-plain : goal.open_named-requires-clause-plain
open_named-requires-clause-plain g c = c.plain-plain.ensures

pub open_named-requires-clause-place : goal.open_named-requires-clause-place
open_named-requires-clause-place g c = subst (λ (p : ProjectorView). Places p c.args.buffer.now) (sym c.self.view_is) c.requires.place

pub open_named-requires-clause-may : goal.open_named-requires-clause-may
open_named-requires-clause-may g c =
    may_open_late c.args.bytes.now c.args.self.now c.sign_all.new.matcher c.args.buffer.now c.waiting.result.now c.waiting.ensures (subst (λ (m : MatcherView). HearsOf m c.sign_all.new.matcher c.waiting.result.now) (ap (λ (p : ProjectorView). p.matcher) c.self.view_is) c.in_ok-sign_all.ensures) (record { matcher = c.go_name.new.self; at = c.self.inside.at; passed = c.self.inside.passed.items }) (Element (slice_range c.args.bytes.now c.args.from c.args.to)) (ap (λ (p : ProjectorView). p.passed) c.self.view_is) c.in_ok-go_name.ensures.stands c.requires.may

pub open_named-requires-clause-depth : goal.open_named-requires-clause-depth
open_named-requires-clause-depth g c = subst (λ (p : ProjectorView). Loosely IsShallow (passed_in c.args.bytes.now p.passed) c.args.buffer.now) (sym c.self.view_is) c.requires.depth

pub returns-in_err-count-clause-err : goal.returns-in_err-count-clause-err
returns-in_err-count-clause-err g c =
    err_holds c.from_residual-in_err-count.result (subst (λ (p : ProjectorView). MakesSome (passed_in c.args.bytes.now p.passed) c.args.buffer.now c.open_named.new.buffer) c.self.view_is c.in_err-count.ensures.err)

pub returns-clause-feeds : goal.returns-clause-feeds
returns-clause-feeds g c =
    late_opened c.args.bytes.now c.args.self.now c.sign_all.new.matcher c.args.buffer.now c.waiting.result.now c.waiting.ensures (subst (λ (m : MatcherView). HearsOf m c.sign_all.new.matcher c.waiting.result.now) (ap (λ (p : ProjectorView). p.matcher) c.self.view_is) c.in_ok-sign_all.ensures) c.open_named.new.self c.open_named.new.buffer (Element (slice_range c.args.bytes.now c.args.from c.args.to)) c.in_ok-count.count
    (subst (λ (p : ProjectorView). OpensBehind c.args.bytes.now c.sign_all.new.matcher p.passed c.open_named.new.self c.args.buffer.now c.open_named.new.buffer (Element (slice_range c.args.bytes.now c.args.from c.args.to)) c.in_ok-count.count) c.self.view_is
    (c.in_ok-count.ensures.opens c.sign_all.new.matcher c.in_ok-go_name.ensures.stands))
