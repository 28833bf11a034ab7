use Rattle.std.proofs.Common.{◌≡◌, ◌∙◌, ◌++◌, true, None, refl, sym, ap, subst}
use Rattle.engine.specs.View.{EngineView, over_part, seen_part}
use Rattle.engine.specs.Engine.{Kept, Lost, OnRefusal, StandsSome}
use Rattle.doc_reader.specs.Standing.{waiting}
use Rattle.engine.specs.Going.{Breaks, FedAll}
use Rattle.engine.proofs.Courses.{asked_none, fault_of_answer, fed_to, parts_ended}
use Rattle.engine.specs.Engine.{IsTold}
use Rattle.engine.proofs.TellingCalls.{told_to}
use Rattle.engine.proofs.Ending.{accepted_at, end_balance, end_empty}
use Rattle.engine.specs.Calls.{FeedsEnd, SameRun, TellsEnd}
use Rattle.engine.proofs.engine.Engine.end_input.Goals as goal

pub go_on-requires-clause-parts : goal.go_on-requires-clause-parts
go_on-requires-clause-parts g c =
    let old : EngineView g.row.C.Denot = over_part (seen_part c.self.inside.part) c.self.inside.reader c.self.inside.bytes c.self.inside.refused c.self.inside.ended in
    let was = c.requires.stands.0 in
    let s = subst (λ (z : EngineView g.row.C.Denot). StandsSome g.C.Conds.stands z was) (sym c.self.view_is) c.requires.stands.1 in
    record {
      limits = s.limits;
      read = s.read;
      ended = true;
      given = s.of.given;
      of = parts_ended g.C.Conds.stands s.limits old s.read was s.read true s.of c.finish-ended.new.self (c.finish-ended.ensures.stands s.limits s.read was s.of.given s.of.parts.reader);
    }

pub returns-clause-ended : goal.returns-clause-ended
returns-clause-ended g c =
    let old : EngineView g.row.C.Denot = over_part (seen_part c.self.inside.part) c.self.inside.reader c.self.inside.bytes c.self.inside.refused c.self.inside.ended in
    subst (λ (z : EngineView g.row.C.Denot). FeedsEnd g.C.Conds.stands (OnRefusal c.go_on.new.self.refused) z c.go_on.new.self) c.self.view_is (λ lim b was s fresh.
    let r = c.finish-ended.new.self in
    let o = c.finish-ended.ensures in
    let d = c.go_on.new.self in
    let e : EngineView g.row.C.Denot = record old { reader = r; ended = true } in
    fed_to g.C.Conds.stands lim b was b true old e d s refl refl (λ lent h. h) c.go_on.ensures.keeps (fault_of_answer r.refused c.finish-ended.result lim b true o.answer (o.exact lim b was s.given s.parts.reader))
    c.go_on.ensures.closing (c.go_on.ensures.bytes ∙ s.bytes)
    (c.go_on.ensures.goes lim b true s.given (parts_ended g.C.Conds.stands lim old b was b true s r (o.stands lim b was s.given s.parts.reader))))

pub returns-clause-empty : goal.returns-clause-empty
returns-clause-empty g c = λ fresh.
    let was = c.requires.stands.0 in
    let t = c.requires.stands.1 in
    let old : EngineView g.row.C.Denot = over_part (seen_part c.self.inside.part) c.self.inside.reader c.self.inside.bytes c.self.inside.refused c.self.inside.ended in
    let s = subst (λ (z : EngineView g.row.C.Denot). StandsSome g.C.Conds.stands z was) (sym c.self.view_is) t in
    let fresh0 : old.refused ≡ None = ap (λ (z : EngineView g.row.C.Denot). z.refused) c.self.view_is ∙ c.requires.fresh in
    let r = c.finish-ended.new.self in
    let o = c.finish-ended.ensures in
    let d = c.go_on.new.self in
    let e : EngineView g.row.C.Denot = record old { reader = r; ended = true } in
    let h : OnRefusal d.refused (Lost s.limits old d s.read was s.read true) (Kept g.C.Conds.stands s.limits old d s.read was s.read true) = subst (λ (z : EngineView g.row.C.Denot). FeedsEnd g.C.Conds.stands (OnRefusal d.refused) z d) (sym c.self.view_is) (returns-clause-ended g c) s.limits s.read was s.of fresh0 in
    let k = asked_none d.refused (Lost s.limits old d s.read was s.read true) (Kept g.C.Conds.stands s.limits old d s.read was s.read true) fresh h in
    let reads = o.stands s.limits s.read was s.of.given s.of.parts.reader in
    let goes = c.go_on.ensures.goes s.limits s.read true s.of.given (parts_ended g.C.Conds.stands s.limits old s.read was s.read true s.of r reads) in
    let fed = asked_none d.refused (Breaks s.limits e d s.read true s.of.given) (FedAll g.C.Conds.stands s.limits e d s.read true s.of.given) fresh goes in
    let none : r.refused ≡ None = sym fed.refused ∙ fresh in
    let document = (accepted_at r c.finish-ended.result s.read (s.of.given ++ waiting r) o.answer none (o.document s.limits s.read was s.of.given s.of.parts.reader)) in
    record {
      rows = end_empty g.C.Conds.stands s.limits d s.read k.of r s.of.given reads none document;
      balance = end_balance g.C.Conds.stands s.limits d s.read k.of r s.of.given reads none document;
    }

pub returns-clause-same : goal.returns-clause-same
returns-clause-same g c =
    let old : EngineView g.row.C.Denot = over_part (seen_part c.self.inside.part) c.self.inside.reader c.self.inside.bytes c.self.inside.refused c.self.inside.ended in
    subst (λ (z : EngineView g.row.C.Denot). SameRun z c.go_on.new.self) c.self.view_is (let h = c.go_on.ensures.same in
    record { plan = h.plan; ahead = h.ahead; tracing = h.tracing; silent = λ s. h.silent (record { untold = s.untold; empty = s.empty }); loans = h.loans })

pub returns-clause-traced : goal.returns-clause-traced
returns-clause-traced g c =
    let old : EngineView g.row.C.Denot = over_part (seen_part c.self.inside.part) c.self.inside.reader c.self.inside.bytes c.self.inside.refused c.self.inside.ended in
    subst (λ (z : EngineView g.row.C.Denot). TellsEnd g.C.Conds.stands (OnRefusal c.go_on.new.self.refused) z c.go_on.new.self) c.self.view_is (λ lim b was s fresh told.
    let r = c.finish-ended.new.self in
    let o = c.finish-ended.ensures in
    let d = c.go_on.new.self in
    let e : EngineView g.row.C.Denot = record old { reader = r; ended = true } in
    let told' : IsTold e = told in
    let reads = o.stands lim b was s.given s.parts.reader in
    let parts = parts_ended g.C.Conds.stands lim old b was b true s r reads in
    told_to g.C.Conds.stands lim b was b true old e d s refl refl reads (c.go_on.ensures.goes lim b true s.given parts) (c.go_on.ensures.told told' lim b true s.given parts))
