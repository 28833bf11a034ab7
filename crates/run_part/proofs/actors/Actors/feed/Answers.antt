use Rattle.std.proofs.Common.{◌≡◌, ◌∙◌, length, ap, subst, sym}
use Rattle.doc_reader.specs.Standing.{said_of}
use Rattle.buf_tree.specs.View.{View}
use Rattle.projector.specs.Calls.{tally_of}
use Rattle.projector.specs.declared.projector.Tally.{Tally}
use Rattle.run_part.specs.Actors.{FeedsEach, MayFeed, counted}
use Rattle.run_part.specs.View.{ActorsView}
use Rattle.run_part.specs.declared.actors.Tallied.{Tallied}
use Rattle.run_part.proofs.FeedingOne.{fed_depth, fed_may, fed_nodes, fed_place, feeds_one}
use Rattle.run_part.proofs.Taking.{told_all}
use Rattle.run_part.proofs.actors.Actors.feed.Goals as goal

pub feed_token-requires-clause-place : goal.feed_token-requires-clause-place
feed_token-requires-clause-place g c =
    let old : ActorsView g.row.C.Denot = record { projector = c.self.inside.projector; buffer = c.self.inside.buffer; machine = c.self.inside.machine; counts = c.self.inside.counts } in
    fed_place g.C.Conds.stands old (said_of c.args.token) (subst (λ (z : ActorsView g.row.C.Denot). MayFeed g.C.Conds.stands z (said_of c.args.token)) (sym c.self.view_is) c.requires)

pub feed_token-requires-clause-may : goal.feed_token-requires-clause-may
feed_token-requires-clause-may g c =
    let old : ActorsView g.row.C.Denot = record { projector = c.self.inside.projector; buffer = c.self.inside.buffer; machine = c.self.inside.machine; counts = c.self.inside.counts } in
    fed_may g.C.Conds.stands old (said_of c.args.token) (subst (λ (z : ActorsView g.row.C.Denot). MayFeed g.C.Conds.stands z (said_of c.args.token)) (sym c.self.view_is) c.requires)

pub feed_token-requires-clause-nodes : goal.feed_token-requires-clause-nodes
feed_token-requires-clause-nodes g c =
    let old : ActorsView g.row.C.Denot = record { projector = c.self.inside.projector; buffer = c.self.inside.buffer; machine = c.self.inside.machine; counts = c.self.inside.counts } in
    fed_nodes g.C.Conds.stands old (said_of c.args.token) (subst (λ (z : ActorsView g.row.C.Denot). MayFeed g.C.Conds.stands z (said_of c.args.token)) (sym c.self.view_is) c.requires)

pub feed_token-requires-clause-depth : goal.feed_token-requires-clause-depth
feed_token-requires-clause-depth g c =
    let old : ActorsView g.row.C.Denot = record { projector = c.self.inside.projector; buffer = c.self.inside.buffer; machine = c.self.inside.machine; counts = c.self.inside.counts } in
    fed_depth g.C.Conds.stands old (said_of c.args.token) (subst (λ (z : ActorsView g.row.C.Denot). MayFeed g.C.Conds.stands z (said_of c.args.token)) (sym c.self.view_is) c.requires)

pub returns : goal.returns
returns g c =
    let old : ActorsView g.row.C.Denot = record { projector = c.self.inside.projector; buffer = c.self.inside.buffer; machine = c.self.inside.machine; counts = c.self.inside.counts } in
    let w = c.feed_token.new.buffer in
    let q = c.feed_token.new.self in
    let f = c.in_ok-fed.fed in
    let o = c.in_ok-fed.ensures.feeds in
    let is : c.count-self-inside.result ≡ counted old.counts (tally_of f) (length w.rows) = c.count-self-inside.ensures ∙ (ap (λ (z : Tally). counted old.counts z c.held.result) c.tally.ensures ∙ ap (counted old.counts (tally_of f)) c.held.ensures) in
    let d : ActorsView g.row.C.Denot = record old { projector = q; buffer = c.clear_gone.new.self; counts = c.count-self-inside.result } in
    let same : d ≡ record old { projector = q; buffer = told_all w; counts = c.count-self-inside.result } = ap (λ (z : View). record old { projector = q; buffer = z; counts = c.count-self-inside.result }) c.clear_gone.ensures in
    let form : d ≡ record old { projector = q; buffer = told_all w; counts = counted old.counts (tally_of f) (length w.rows) }
    = subst (λ (z : Tallied). d ≡ record old { projector = q; buffer = told_all w; counts = z }) is same in
    subst (λ (z : ActorsView g.row.C.Denot). FeedsEach g.C.Conds.stands z d (said_of c.args.token)) c.self.view_is
    (feeds_one g.C.Conds.stands g.met.C.Conds.stands_on old (said_of c.args.token) q w f o.stands o.place o.fed o.changes d form)
