use Rattle.std.proofs.Common.{ap, subst, sym}
use Rattle.std.specs.Prelude.{slice_range}
use Rattle.gcx_base.specs.declared.kind.Kind.TheVariants.{Text}
use Rattle.matcher.specs.View.{MatcherView}
use Rattle.buf_tree.specs.Loose.{Loosely}
use Rattle.projector.specs.Late.{IsShallow, MakesSome, passed_in}
use Rattle.projector.specs.LateRows.{OpensBehind}
use Rattle.projector.specs.Projector.{Places}
use Rattle.projector.specs.Signing.{HearsOf}
use Rattle.projector.specs.View.{ProjectorView}
use Rattle.projector.proofs.Loosely.{late_opened, may_open_late, passes_chars, plain_none}
use Rattle.projector.proofs.LateRows.{err_holds, makes_none}
use Rattle.projector.proofs.projector.Projector.text_late.Goals as goal

pub returns-in_err-sign_all-clause-err : goal.returns-in_err-sign_all-clause-err
returns-in_err-sign_all-clause-err g c = err_holds c.from_residual.result (makes_none (passed_in c.args.bytes.now c.args.self.now.passed) c.args.buffer.now)

pub returns-in_err-go_text-clause-err : goal.returns-in_err-go_text-clause-err
returns-in_err-go_text-clause-err g c = err_holds c.from_residual-in_err-go_text.result (makes_none (passed_in c.args.bytes.now c.args.self.now.passed) c.args.buffer.now)

pub returns-then-gives_none-clause-feeds : goal.returns-then-gives_none-clause-feeds
returns-then-gives_none-clause-feeds g c =
    passes_chars c.args.bytes.now c.args.self.now c.sign_all.new.matcher c.go_text.new.self c.args.buffer.now c.waiting.result.now c.waiting.ensures (subst (λ (m : MatcherView). HearsOf m c.sign_all.new.matcher c.waiting.result.now) (ap (λ (p : ProjectorView). p.matcher) c.self.view_is) c.in_ok-sign_all.ensures) c.requires.depth (plain_none c.go_text.new.self c.plain-plain.result (c.gives_none.ensures c.if-gives_none.true) c.plain-plain.ensures)
    (slice_range c.args.bytes.now c.args.from c.args.to) (c.in_ok-go_text.ensures.stands (slice_range c.args.bytes.now c.args.from c.args.to)) _ c.pass_node.new.buffer c.leave.ensures.text (ap (λ (p : ProjectorView). p.at) c.self.view_is) (ap (λ (p : ProjectorView). p.passed) c.self.view_is)
    c.pass_node.ensures

pub open_text-requires-clause-text : goal.open_text-requires-clause-text
open_text-requires-clause-text g c = c.requires.text.utf8

pub open_text-requires-clause-plain : goal.open_text-requires-clause-plain
open_text-requires-clause-plain g c = c.plain-plain.ensures

pub open_text-requires-clause-place : goal.open_text-requires-clause-place
open_text-requires-clause-place g c = subst (λ (p : ProjectorView). Places p c.args.buffer.now) (sym c.self.view_is) c.requires.place

pub open_text-requires-clause-may : goal.open_text-requires-clause-may
open_text-requires-clause-may g c =
    may_open_late c.args.bytes.now c.args.self.now c.sign_all.new.matcher c.args.buffer.now c.waiting.result.now c.waiting.ensures (subst (λ (m : MatcherView). HearsOf m c.sign_all.new.matcher c.waiting.result.now) (ap (λ (p : ProjectorView). p.matcher) c.self.view_is) c.in_ok-sign_all.ensures) (record { matcher = c.go_text.new.self; at = c.self.inside.at; passed = c.self.inside.passed.items }) (Text (slice_range c.args.bytes.now c.args.from c.args.to)) (ap (λ (p : ProjectorView). p.passed) c.self.view_is) (c.in_ok-go_text.ensures.stands (slice_range c.args.bytes.now c.args.from c.args.to)) c.requires.may

pub open_text-requires-clause-depth : goal.open_text-requires-clause-depth
open_text-requires-clause-depth g c = subst (λ (p : ProjectorView). Loosely IsShallow (passed_in c.args.bytes.now p.passed) c.args.buffer.now) (sym c.self.view_is) c.requires.depth

pub returns-in_err-count-clause-err : goal.returns-in_err-count-clause-err
returns-in_err-count-clause-err g c =
    err_holds c.from_residual-in_err-count.result (subst (λ (p : ProjectorView). MakesSome (passed_in c.args.bytes.now p.passed) c.args.buffer.now c.open_text.new.buffer) c.self.view_is c.in_err-count.ensures.err)

pub returns-clause-feeds : goal.returns-clause-feeds
returns-clause-feeds g c =
    late_opened c.args.bytes.now c.args.self.now c.sign_all.new.matcher c.args.buffer.now c.waiting.result.now c.waiting.ensures (subst (λ (m : MatcherView). HearsOf m c.sign_all.new.matcher c.waiting.result.now) (ap (λ (p : ProjectorView). p.matcher) c.self.view_is) c.in_ok-sign_all.ensures) c.open_text.new.self c.open_text.new.buffer (Text (slice_range c.args.bytes.now c.args.from c.args.to)) c.in_ok-count.count
    (subst (λ (p : ProjectorView). OpensBehind c.args.bytes.now c.sign_all.new.matcher p.passed c.open_text.new.self c.args.buffer.now c.open_text.new.buffer (Text (slice_range c.args.bytes.now c.args.from c.args.to)) c.in_ok-count.count) c.self.view_is
    (c.in_ok-count.ensures.opens c.sign_all.new.matcher (c.in_ok-go_text.ensures.stands (slice_range c.args.bytes.now c.args.from c.args.to))))
