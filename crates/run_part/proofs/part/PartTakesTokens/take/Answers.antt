use Rattle.std.proofs.Common.{false, subst, sym}
use Rattle.std.specs.Prelude.{OnErr, OnOk}
use Rattle.outside.specs.Orders.{OrdersTokens}
use Rattle.outside.specs.Outputs.{MayTakeTokens}
use Rattle.outside.specs.Places.{Elsewhere, MayWriteTo, TakesSomeTo, TakesTo}
use Rattle.run_part.specs.Late.{said_lent}
use Rattle.run_part.specs.Taker.{PartStays, part_few, part_ordered, part_outs, part_peak, part_places, part_stands, part_texts}
use Rattle.run_part.specs.View.{PartView}
use Rattle.run_part.proofs.PartTaking.{both_alone, both_may, either_way, orders_to, over_stays, over_work, same_silence, same_waits, some_ahead, some_balance, some_fed, taken_balance, takes_some_to, takes_to}
use Rattle.run_part.proofs.Results.{err_map, ok_map}
use Rattle.run_part.proofs.part.PartTakesTokens.take.Goals as goal

pub take-requires-clause-ahead : goal.take-requires-clause-ahead
take-requires-clause-ahead g c =
    let plan = c.self.inside.plan.now in
    let lines = g.L.Lines.seen c.self.inside.lines in
    let more = said_lent c.args.bytes.now c.args.tokens.now in
    some_ahead g.C.Conds.stands plan g.L.Lines.wanted c.self.inside.work lines more
    (subst (λ (z : PartView g.row.C.Denot). MayTakeTokens (part_stands g.C.Conds.stands z) more) (sym c.self.view_is) c.requires.may)

pub take-requires-clause-within : goal.take-requires-clause-within
take-requires-clause-within g c = c.requires.within

pub take-requires-clause-may : goal.take-requires-clause-may
take-requires-clause-may g c =
    let plan = c.self.inside.plan.now in
    let lines = g.L.Lines.seen c.self.inside.lines in
    let more = said_lent c.args.bytes.now c.args.tokens.now in
    some_fed g.C.Conds.stands plan g.L.Lines.wanted c.self.inside.work lines more
    (subst (λ (z : PartView g.row.C.Denot). MayTakeTokens (part_stands g.C.Conds.stands z) more) (sym c.self.view_is) c.requires.may)

pub take-requires-clause-places : goal.take-requires-clause-places
take-requires-clause-places g c =
    both_may g.O.Outside.may c.args.to.now (g.L.Lines.seen c.self.inside.lines)
    (subst (λ (z : PartView g.row.C.Denot). MayWriteTo part_places g.O.Outside.may z c.args.to.now) (sym c.self.view_is) c.requires.places)

pub take-requires-clause-few : goal.take-requires-clause-few
take-requires-clause-few g c = subst (λ (z : PartView g.row.C.Denot). part_few z (g.O.Outside.most c.args.to.now false)) (sym c.self.view_is) c.requires.few

pub returns-clause-takes : goal.returns-clause-takes
returns-clause-takes g c =
    let plan = c.self.inside.plan.now in
    let wanted = g.L.Lines.wanted in
    let seen = g.L.Lines.seen in
    let sinks = g.O.Outside.sinks in
    let e = c.self.inside.work in
    let d = c.take.new.work in
    let s = c.self.inside.lines in
    let t = c.take.new.self in
    let v = c.args.to.now in
    let w = c.take.new.to in
    let more = said_lent c.args.bytes.now c.args.tokens.now in
    let new : PartView g.row.C.Denot = over_work plan wanted d (seen t) in
    subst (λ (z : PartView g.row.C.Denot). OnOk c.take.result (TakesTo (part_stands g.C.Conds.stands) part_texts part_places part_outs part_peak sinks (z, v) (new, w) more)) c.self.view_is
    (ok_map c.take.result
    (takes_to g.C.Conds.stands plan wanted seen sinks e d s t v w more c.take.ensures.leaves.ahead_is (same_silence wanted seen g.met.L.Lines.none_wait g.met.L.Lines.no_place (sinks v) (sinks w) s t))
    c.take.ensures.takes)

pub returns-clause-part : goal.returns-clause-part
returns-clause-part g c =
    let plan = c.self.inside.plan.now in
    let wanted = g.L.Lines.wanted in
    let seen = g.L.Lines.seen in
    let sinks = g.O.Outside.sinks in
    let e = c.self.inside.work in
    let d = c.take.new.work in
    let s = c.self.inside.lines in
    let t = c.take.new.self in
    let v = c.args.to.now in
    let w = c.take.new.to in
    let more = said_lent c.args.bytes.now c.args.tokens.now in
    let new : PartView g.row.C.Denot = over_work plan wanted d (seen t) in
    subst (λ (z : PartView g.row.C.Denot). OnErr c.take.result (TakesSomeTo (part_stands g.C.Conds.stands) part_texts part_places part_outs sinks (z, v) (new, w) more)) c.self.view_is
    (err_map c.take.result
    (takes_some_to g.C.Conds.stands plan wanted seen sinks e d s t v w more (same_silence wanted seen g.met.L.Lines.none_wait g.met.L.Lines.no_place (sinks v) (sinks w) s t))
    c.take.ensures.part)

pub returns-clause-few : goal.returns-clause-few
returns-clause-few g c = c.take.ensures.few

pub returns-clause-others : goal.returns-clause-others
returns-clause-others g c =
    let a = g.O.Outside.sinks c.args.to.now in
    let b = g.O.Outside.sinks c.take.new.to in
    subst (λ (z : PartView g.row.C.Denot). Elsewhere (part_places z) a b) c.self.view_is (both_alone (g.L.Lines.seen c.self.inside.lines) a b c.take.ensures.others)

pub returns-clause-order : goal.returns-clause-order
returns-clause-order g c = λ none.
    let plan = c.self.inside.plan.now in
    let wanted = g.L.Lines.wanted in
    let seen = g.L.Lines.seen in
    let sinks = g.O.Outside.sinks in
    let e = c.self.inside.work in
    let d = c.take.new.work in
    let s = c.self.inside.lines in
    let t = c.take.new.self in
    let v = c.args.to.now in
    let w = c.take.new.to in
    let more = said_lent c.args.bytes.now c.args.tokens.now in
    let new : PartView g.row.C.Denot = over_work plan wanted d (seen t) in
    subst (λ (z : PartView g.row.C.Denot). OrdersTokens (part_stands g.C.Conds.stands) part_texts part_places part_outs part_ordered sinks (z, v) (new, w) more) c.self.view_is
    (orders_to g.C.Conds.stands plan wanted seen sinks e d s t v w more (g.O.Outside.broken v) (g.O.Outside.broken w) (g.met.O.Outside.writes_wrote v w c.take.ensures.writes) c.take.ensures.leaves.places (c.take.ensures.order none))

pub returns-clause-leaves : goal.returns-clause-leaves
returns-clause-leaves g c =
    let plan = c.self.inside.plan.now in
    let wanted = g.L.Lines.wanted in
    let seen = g.L.Lines.seen in
    let sinks = g.O.Outside.sinks in
    let e = c.self.inside.work in
    let d = c.take.new.work in
    let s = c.self.inside.lines in
    let t = c.take.new.self in
    let v = c.args.to.now in
    let w = c.take.new.to in
    let more = said_lent c.args.bytes.now c.args.tokens.now in
    let new : PartView g.row.C.Denot = over_work plan wanted d (seen t) in
    let may = subst (λ (z : PartView g.row.C.Denot). MayTakeTokens (part_stands g.C.Conds.stands z) more) (sym c.self.view_is) c.requires.may in
    record {
      kept = subst (λ (z : PartView g.row.C.Denot). PartStays z new) c.self.view_is
          (over_stays plan wanted e d (seen s) (seen t) c.take.ensures.leaves (same_waits wanted seen g.met.L.Lines.none_wait s t)
          (λ balanced.
          either_way c.take.result (taken_balance g.C.Conds.stands plan wanted seen sinks e d s t v w more may) (some_balance g.C.Conds.stands plan wanted seen sinks e d s t v w more may)
          c.take.ensures.takes c.take.ensures.part));
      wrote = c.take.ensures.writes;
    }
