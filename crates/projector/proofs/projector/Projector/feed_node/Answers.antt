use Rattle.std.proofs.Common.{sym, ◌∙◌, ap, subst}
use Rattle.gcx_model.specs.Past.{token_for}
use Rattle.buf_tree.proofs.KeptReading.{seen_stand_apart}
use Rattle.projector.specs.declared.projector.Fed.TheVariants as outcomes
use Rattle.projector.specs.View.{ProjectorView}
use Rattle.projector.specs.Projector.{MayBeFed, Places}
use Rattle.projector.specs.Calls.{Feeds}
use Rattle.projector.specs.Opening.{HasHeard}
use Rattle.projector.proofs.Pasts.{is_open}
use Rattle.projector.proofs.Places.{has_innermost, level_is}
use Rattle.projector.proofs.Feeding.{node_feeds}
use Rattle.projector.proofs.projector.Projector.feed_node.Goals as goal

pub innermost-requires-clause-place : goal.innermost-requires-clause-place
innermost-requires-clause-place g c = subst (λ (p : ProjectorView). Places p c.args.buffer.now) (sym c.self.view_is) c.requires.place

pub innermost-requires-clause-rows : goal.innermost-requires-clause-rows
innermost-requires-clause-rows g c =
    let m = c.requires.may in
    let a = is_open m.past.tree (token_for c.args.kind) m.may in
    has_innermost c.args.buffer.now m.past m.stands a.0 a.1

pub open_below-requires-clause-depth : goal.open_below-requires-clause-depth
open_below-requires-clause-depth g c =
    level_is c.args.buffer.now.rows (seen_stand_apart _ c.args.buffer.now.kept c.args.buffer.now.rows c.innermost.ensures.store c.innermost.ensures.alike) c.innermost.result.place.0 c.innermost.ensures.innermost
    c.requires.depth

-- what is known of the matcher within
pub open_below-requires-clause-may : goal.open_below-requires-clause-may
open_below-requires-clause-may g c = subst (λ (p : ProjectorView). MayBeFed (HasHeard p.matcher) c.args.buffer.now (token_for c.args.kind)) (sym c.self.view_is) c.requires.may

pub returns-clause-feeds : goal.returns-clause-feeds
returns-clause-feeds g c =
    subst (λ (p : ProjectorView). Feeds (HasHeard p.matcher) (record { matcher = c.go_to.new.matcher; at = c.go_to.new.at; passed = c.self.inside.passed.items }) c.args.buffer.now c.open_below.new.buffer (token_for c.args.kind) (outcomes.Opened (record { 0 = c.nodes.result }) c.in_ok-place.given))
    c.self.view_is
    (node_feeds (record { matcher = c.self.inside.matcher; at = c.self.inside.at; passed = c.self.inside.passed.items }) (record { matcher = c.go_to.new.matcher; at = c.go_to.new.at; passed = c.self.inside.passed.items }) c.open_below.new.matcher c.args.buffer.now c.open_below.new.buffer c.innermost.result.place.0
    c.innermost.ensures.innermost c.args.kind c.requires.kind c.in_ok-place.place c.in_ok-place.given c.in_ok-place.ensures.opens c.requires.may.past c.requires.may.stands c.requires.depth (subst (λ (p : ProjectorView). Places p c.args.buffer.now) (sym c.self.view_is) c.requires.place)
    (ap (λ (p : ProjectorView). p.passed) c.self.view_is ∙ c.requires.none)
    (λ e. c.go_to.ensures.text (c.is_text-text.ensures ∙ e)) (λ e. c.go_to.ensures.element (c.is_text-text.ensures ∙ e)) (λ e. c.go_to.ensures.text_place (c.is_text-text.ensures ∙ e)) (λ e. c.go_to.ensures.element_place (c.is_text-text.ensures ∙ e))
    (record { 0 = c.nodes.result }) c.nodes.ensures)
