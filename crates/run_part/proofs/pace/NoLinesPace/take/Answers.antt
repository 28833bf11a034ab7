use Rattle.std.proofs.Common.{false, length, refl}
use Rattle.std.proofs.lemmas.Bool.{false≢true}
use Rattle.outside.specs.Places.{Few}
use Rattle.run_part.specs.Flows.{FewBoth, TakesFlows, TakesSomeFlows, none_seen}
use Rattle.run_part.specs.Late.{BreaksLent, FeedsLent, said_lent}
use Rattle.run_part.proofs.Results.{err_map, ok_map}
use Rattle.run_part.proofs.WithoutLines.{alone, breaks_alone, few_none, takes_alone}
use Rattle.run_part.proofs.pace.NoLinesPace.take.Goals as goal

pub feed_lent-requires-clause-place : goal.feed_lent-requires-clause-place
feed_lent-requires-clause-place g c = c.requires.places.out

pub feed_lent-requires-clause-few : goal.feed_lent-requires-clause-few
feed_lent-requires-clause-few g c = c.requires.few.0

pub returns-clause-takes : goal.returns-clause-takes
returns-clause-takes g c =
    let more = said_lent c.args.bytes.now c.args.tokens.now in
    let x = alone g.O.Outside.sinks c.args.self.now.place c.args.work.now c.args.to.now in
    let y = alone g.O.Outside.sinks c.args.self.now.place c.feed_lent.new.self c.feed_lent.new.to in
    let from : FeedsLent g.C.Conds.stands x.ahead x.actors y.actors more x.out y.out → TakesFlows g.C.Conds.stands false x y more = takes_alone g.C.Conds.stands x y more x.ahead refl in
    ok_map c.feed_lent.result from c.feed_lent.ensures.feeds

pub returns-clause-part : goal.returns-clause-part
returns-clause-part g c =
    let more = said_lent c.args.bytes.now c.args.tokens.now in
    let x = alone g.O.Outside.sinks c.args.self.now.place c.args.work.now c.args.to.now in
    let y = alone g.O.Outside.sinks c.args.self.now.place c.feed_lent.new.self c.feed_lent.new.to in
    let from : BreaksLent g.C.Conds.stands x.ahead x.actors y.actors more x.out y.out → TakesSomeFlows g.C.Conds.stands false x y more = breaks_alone g.C.Conds.stands x y more x.ahead refl in
    err_map c.feed_lent.result from c.feed_lent.ensures.breaks

pub returns-clause-few : goal.returns-clause-few
returns-clause-few g c =
    let most = g.O.Outside.most c.feed_lent.new.to false in
    let out = c.feed_lent.new.self.out.items in
    let from : Few most (length out) → FewBoth most out (none_seen c.args.self.now.place) = λ few. (few, few_none most) in
    ok_map c.feed_lent.result from c.feed_lent.ensures.few

pub returns-clause-others : goal.returns-clause-others
returns-clause-others g c = λ k far off. c.feed_lent.ensures.others k far

pub returns-clause-order : goal.returns-clause-order
returns-clause-order g c = λ none wanted. absurd (false≢true wanted)

pub returns-clause-leaves : goal.returns-clause-leaves
returns-clause-leaves g c = record { loans = c.feed_lent.ensures.loans; ahead_is = c.feed_lent.ensures.ahead; places = record { output_is = refl; lines_is = refl } }
