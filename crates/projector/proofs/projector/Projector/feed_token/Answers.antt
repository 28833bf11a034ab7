use Rattle.std.proofs.Common.{sym, ◌∙◌, ap, subst, inl, inr}
use Rattle.std.specs.Prelude.{Ok, IfOk}
use Rattle.gcx_model.specs.Tree.{TreeToken, Start, Chars, End}
use Rattle.doc_reader.specs.Standing.{said_of}
use Rattle.projector.specs.View.{ProjectorView}
use Rattle.projector.specs.Projector.{MayBeFed, Projects, Places}
use Rattle.projector.specs.Calls.{Feeds}
use Rattle.projector.proofs.Feeding.{feeds_heard, may_heard}
use Rattle.projector.proofs.projector.Projector.feed_token.Goals as goal

pub feed_node-requires-clause-place : goal.feed_node-requires-clause-place
feed_node-requires-clause-place g c = subst (λ (p : ProjectorView). Places p c.args.buffer.now) (sym c.self.view_is) c.requires.place

pub feed_node-requires-in-Text-clause-place : goal.feed_node-requires-in-Text-clause-place
feed_node-requires-in-Text-clause-place g c = subst (λ (p : ProjectorView). Places p c.args.buffer.now) (sym c.self.view_is) c.requires.place

pub feed_end-requires-clause-place : goal.feed_end-requires-clause-place
feed_end-requires-clause-place g c = subst (λ (p : ProjectorView). Places p c.args.buffer.now) (sym c.self.view_is) c.requires.place

pub feed_node-requires-clause-none : goal.feed_node-requires-clause-none
feed_node-requires-clause-none g c = ap (λ (p : ProjectorView). p.passed) c.self.view_is ∙ c.requires.may.projects.none

pub feed_node-requires-in-Text-clause-none : goal.feed_node-requires-in-Text-clause-none
feed_node-requires-in-Text-clause-none g c = ap (λ (p : ProjectorView). p.passed) c.self.view_is ∙ c.requires.may.projects.none

pub feed_end-requires-clause-none : goal.feed_end-requires-clause-none
feed_end-requires-clause-none g c = ap (λ (p : ProjectorView). p.passed) c.self.view_is ∙ c.requires.may.projects.none

pub feed_node-requires-clause-may : goal.feed_node-requires-clause-may
feed_node-requires-clause-may g c =
    may_heard c.args.self.now c.self.inside.matcher c.sign_all.new.matcher c.args.buffer.now c.waiting.result.now (Start c.in-Start.name) (ap (λ (p : ProjectorView). p.matcher) c.self.view_is) c.waiting.ensures
    c.in_ok-sign_all.ensures (subst (λ (t : TreeToken). MayBeFed (Projects c.args.self.now) c.args.buffer.now t) (ap said_of c.in-Start.is) c.requires.may)

pub feed_node-requires-in-Text-clause-may : goal.feed_node-requires-in-Text-clause-may
feed_node-requires-in-Text-clause-may g c =
    may_heard c.args.self.now c.self.inside.matcher c.sign_all.new.matcher c.args.buffer.now c.waiting.result.now (Chars c.in-Text.text) (ap (λ (p : ProjectorView). p.matcher) c.self.view_is) c.waiting.ensures
    c.in_ok-sign_all.ensures (subst (λ (t : TreeToken). MayBeFed (Projects c.args.self.now) c.args.buffer.now t) (ap said_of c.in-Text.is) c.requires.may)

pub feed_end-requires-clause-may : goal.feed_end-requires-clause-may
feed_end-requires-clause-may g c =
    may_heard c.args.self.now c.self.inside.matcher c.sign_all.new.matcher c.args.buffer.now c.waiting.result.now End (ap (λ (p : ProjectorView). p.matcher) c.self.view_is) c.waiting.ensures
    c.in_ok-sign_all.ensures (subst (λ (t : TreeToken). MayBeFed (Projects c.args.self.now) c.args.buffer.now t) (elim c.in-End.is [ inl e ↦ ap said_of e | inr e ↦ ap said_of e ]) c.requires.may)

pub returns-in-Start-clause-feeds : goal.returns-in-Start-clause-feeds
returns-in-Start-clause-feeds g c =
    subst (λ (t : TreeToken). IfOk c.feed_node.result (λ fed. Feeds (Projects c.args.self.now) c.feed_node.new.self c.args.buffer.now c.feed_node.new.buffer t fed))
    (sym (ap said_of c.in-Start.is))
    (feeds_heard c.args.self.now c.feed_node.new.self c.self.inside.matcher c.sign_all.new.matcher c.args.buffer.now c.feed_node.new.buffer c.waiting.result.now (Start c.in-Start.name) c.feed_node.result
    (ap (λ (p : ProjectorView). p.matcher) c.self.view_is) c.waiting.ensures c.in_ok-sign_all.ensures c.feed_node.ensures.feeds)

pub returns-in-Text-clause-feeds : goal.returns-in-Text-clause-feeds
returns-in-Text-clause-feeds g c =
    subst (λ (t : TreeToken). IfOk c.feed_node-in-Text.result (λ fed. Feeds (Projects c.args.self.now) c.feed_node-in-Text.new.self c.args.buffer.now c.feed_node-in-Text.new.buffer t fed))
    (sym (ap said_of c.in-Text.is))
    (feeds_heard c.args.self.now c.feed_node-in-Text.new.self c.self.inside.matcher c.sign_all.new.matcher c.args.buffer.now c.feed_node-in-Text.new.buffer c.waiting.result.now (Chars c.in-Text.text) c.feed_node-in-Text.result
    (ap (λ (p : ProjectorView). p.matcher) c.self.view_is) c.waiting.ensures c.in_ok-sign_all.ensures c.feed_node-in-Text.ensures.feeds)

pub returns-in-End-clause-feeds : goal.returns-in-End-clause-feeds
returns-in-End-clause-feeds g c =
    subst (λ (t : TreeToken). Feeds (Projects c.args.self.now) c.feed_end.new.self c.args.buffer.now c.feed_end.new.buffer t c.feed_end.result)
    (sym (elim c.in-End.is [ inl e ↦ ap said_of e | inr e ↦ ap said_of e ]))
    (feeds_heard c.args.self.now c.feed_end.new.self c.self.inside.matcher c.sign_all.new.matcher c.args.buffer.now c.feed_end.new.buffer c.waiting.result.now End (Ok c.feed_end.result)
    (ap (λ (p : ProjectorView). p.matcher) c.self.view_is) c.waiting.ensures c.in_ok-sign_all.ensures c.feed_end.ensures.feeds)
