use Rattle.std.proofs.Common.{subst, sym}
use Rattle.outside.specs.Orders.{OrdersWrites}
use Rattle.outside.specs.Places.{Elsewhere, MayWriteTo, OnlyWaitingChanged, SameFlows}
use Rattle.run_part.specs.Taker.{PartStays, part_ordered, part_outs, part_peak, part_places, part_stands, part_texts}
use Rattle.run_part.specs.View.{PartView}
use Rattle.run_part.proofs.PartTaking.{both_alone, both_may, only_waits, orders_out, over_work, same_flows, same_waits}
use Rattle.run_part.proofs.part.PartTakesTokens.write_out.Goals as goal

pub spill_all-requires : goal.spill_all-requires
spill_all-requires g c =
    both_may g.O.Outside.may c.args.to.now (g.L.Lines.seen c.self.inside.lines)
    (subst (λ (z : PartView g.row.C.Denot). MayWriteTo part_places g.O.Outside.may z c.args.to.now) (sym c.self.view_is) c.requires.places)

pub returns-clause-flows : goal.returns-clause-flows
returns-clause-flows g c =
    let plan = c.self.inside.plan.now in
    let wanted = g.L.Lines.wanted in
    let seen = g.L.Lines.seen in
    let sinks = g.O.Outside.sinks in
    let e = c.self.inside.work in
    let d = c.spill_all.new.self in
    let s = c.self.inside.lines in
    let t = c.spill_all.new.lines in
    let v = c.args.to.now in
    let w = c.spill_all.new.to in
    let new : PartView g.row.C.Denot = over_work plan wanted d (seen t) in
    subst (λ (z : PartView g.row.C.Denot). SameFlows part_places part_outs sinks (z, v) (new, w)) c.self.view_is (same_flows g.C.Conds.stands plan wanted seen sinks e d s t v w c.spill_all.ensures.flows)

pub returns-clause-few : goal.returns-clause-few
returns-clause-few g c = c.spill_all.ensures.few

pub returns-clause-others : goal.returns-clause-others
returns-clause-others g c =
    let a = g.O.Outside.sinks c.args.to.now in
    let b = g.O.Outside.sinks c.spill_all.new.to in
    subst (λ (z : PartView g.row.C.Denot). Elsewhere (part_places z) a b) c.self.view_is (both_alone (g.L.Lines.seen c.self.inside.lines) a b c.spill_all.ensures.others)

pub returns-clause-only : goal.returns-clause-only
returns-clause-only g c =
    let plan = c.self.inside.plan.now in
    let wanted = g.L.Lines.wanted in
    let seen = g.L.Lines.seen in
    let e = c.self.inside.work in
    let d = c.spill_all.new.self in
    let s = c.self.inside.lines in
    let t = c.spill_all.new.lines in
    let new : PartView g.row.C.Denot = over_work plan wanted d (seen t) in
    subst (λ (z : PartView g.row.C.Denot). OnlyWaitingChanged (part_stands g.C.Conds.stands) PartStays part_peak z new) c.self.view_is
    (only_waits g.C.Conds.stands plan wanted e d (seen s) (seen t) c.spill_all.ensures.rest c.spill_all.ensures.places (same_waits wanted seen g.met.L.Lines.none_wait s t))

pub returns-clause-order : goal.returns-clause-order
returns-clause-order g c = λ none.
    let plan = c.self.inside.plan.now in
    let wanted = g.L.Lines.wanted in
    let seen = g.L.Lines.seen in
    let sinks = g.O.Outside.sinks in
    let e = c.self.inside.work in
    let d = c.spill_all.new.self in
    let s = c.self.inside.lines in
    let t = c.spill_all.new.lines in
    let v = c.args.to.now in
    let w = c.spill_all.new.to in
    let new : PartView g.row.C.Denot = over_work plan wanted d (seen t) in
    subst (λ (z : PartView g.row.C.Denot). OrdersWrites (part_stands g.C.Conds.stands) part_texts part_places part_outs part_ordered sinks (z, v) (new, w)) c.self.view_is
    (orders_out g.C.Conds.stands plan wanted seen sinks e d s t v w (g.O.Outside.broken v) (g.O.Outside.broken w) (g.met.O.Outside.writes_wrote v w c.spill_all.ensures.writes) c.spill_all.ensures.places (c.spill_all.ensures.order none))

pub returns-clause-writes : goal.returns-clause-writes
returns-clause-writes g c = c.spill_all.ensures.writes
