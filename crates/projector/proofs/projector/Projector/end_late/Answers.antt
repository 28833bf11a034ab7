use Rattle.std.proofs.Common.{◌∙◌, ap, arith, subst, sym}
use Rattle.matcher.specs.View.{MatcherView}
use Rattle.projector.specs.Projector.{Places}
use Rattle.projector.specs.Signing.{HearsOf}
use Rattle.projector.specs.View.{ProjectorView}
use Rattle.projector.proofs.Loosely.{late_closed, may_end_late, no_items, passes_end}
use Rattle.projector.proofs.projector.Projector.end_late.Goals as goal

-- ---- a passed element

pub returns-in-Some-clause-feeds : goal.returns-in-Some-clause-feeds
returns-in-Some-clause-feeds g c bytes =
    passes_end bytes c.args.self.now c.sign_all.new.matcher c.args.buffer.now c.waiting.result.now c.waiting.ensures (subst (λ (m : MatcherView). HearsOf m c.sign_all.new.matcher c.waiting.result.now) (ap (λ (p : ProjectorView). p.matcher) c.self.view_is) c.in_ok-sign_all.ensures) _ c.clear_waiting.new.buffer c.leave.ensures.element (ap (λ (p : ProjectorView). p.at) c.self.view_is) c.in-Some.field-0
    (ap (λ (p : ProjectorView). p.passed) (sym c.self.view_is) ∙ c.in-Some.ensures.items) c.clear_waiting.ensures.cleared

-- ---- another

pub feed_end-requires-clause-place : goal.feed_end-requires-clause-place
feed_end-requires-clause-place g c = subst (λ (p : ProjectorView). Places p c.args.buffer.now) (sym c.self.view_is) c.requires.place

pub feed_end-requires-clause-may : goal.feed_end-requires-clause-may
feed_end-requires-clause-may g c =
    may_end_late c.requires.may.0 c.args.self.now c.sign_all.new.matcher c.args.buffer.now c.waiting.result.now c.waiting.ensures (subst (λ (m : MatcherView). HearsOf m c.sign_all.new.matcher c.waiting.result.now) (ap (λ (p : ProjectorView). p.matcher) c.self.view_is) c.in_ok-sign_all.ensures) (ap (λ (p : ProjectorView). p.passed) (sym c.self.view_is) ∙ no_items c.self.inside.passed.items (let a = c.in-None.ensures.cases.0 in let b = c.self.inside.passed.ok.0 in omega arith)) c.requires.may.1

pub feed_end-requires-clause-none : goal.feed_end-requires-clause-none
feed_end-requires-clause-none g c = no_items c.pop.new.self.items (let a = c.in-None.ensures.cases.1 in let b = c.pop.new.self.ok.0 in omega arith)

pub returns-in-None-clause-feeds : goal.returns-in-None-clause-feeds
returns-in-None-clause-feeds g c bytes =
    late_closed bytes c.args.self.now c.sign_all.new.matcher c.args.buffer.now c.waiting.result.now c.waiting.ensures (subst (λ (m : MatcherView). HearsOf m c.sign_all.new.matcher c.waiting.result.now) (ap (λ (p : ProjectorView). p.matcher) c.self.view_is) c.in_ok-sign_all.ensures) c.feed_end.new.self c.feed_end.new.buffer c.feed_end.result c.tally.result (ap (λ (p : ProjectorView). p.passed) (sym c.self.view_is) ∙ no_items c.self.inside.passed.items (let a = c.in-None.ensures.cases.0 in let b = c.self.inside.passed.ok.0 in omega arith)) c.requires.place c.feed_end.ensures.feeds
    c.tally.ensures
