use Rattle.std.proofs.Common.{◌≡◌, ◌∙◌, ◌++◌, true, None, refl, sym, ap, subst}
use Rattle.doc_reader.specs.Standing.{waiting}
use Rattle.engine.specs.Engine.{OnRefusal}
use Rattle.engine.proofs.Courses.{asked_none, fault_of_answer}
use Rattle.engine.proofs.Ending.{accepted_at}
use Rattle.many_run.specs.Calls.{TakesDocEnd}
use Rattle.many_run.specs.Many.{ManyKept, ManyLost, ManyStandSome}
use Rattle.many_run.specs.Parts.{BreaksEach, FedWith}
use Rattle.many_run.specs.View.{ManyView}
use Rattle.many_run.proofs.Ending.{end_empty}
use Rattle.many_run.proofs.Pieces.{Called, fed_to, given_read}
use Rattle.many_run.proofs.many.Many.end_input.Goals as goal

pub go_on-requires-clause-parts : goal.go_on-requires-clause-parts
go_on-requires-clause-parts g c =
    let old : ManyView g.row.C.Denot = record { reader = c.self.inside.reader; parts = c.self.inside.parts.items; bytes = c.self.inside.bytes; refused = c.self.inside.refused; ended = c.self.inside.ended } in
    let was = c.requires.stands.0 in
    let s = subst (λ (z : ManyView g.row.C.Denot). ManyStandSome g.C.Conds.stands z was) (sym c.self.view_is) c.requires.stands.1 in
    let e : ManyView g.row.C.Denot = record old { reader = c.finish-ended.new.self; ended = true } in
    record {
      limits = s.limits;
      read = s.read;
      ended = true;
      given = s.of.given;
      of = given_read g.C.Conds.stands s.limits old s.read was s.read true s.of e refl (c.finish-ended.ensures.stands s.limits s.read was s.of.given s.of.reader);
    }

pub returns-clause-ended : goal.returns-clause-ended
returns-clause-ended g c =
    let old : ManyView g.row.C.Denot = record { reader = c.self.inside.reader; parts = c.self.inside.parts.items; bytes = c.self.inside.bytes; refused = c.self.inside.refused; ended = c.self.inside.ended } in
    subst (λ (z : ManyView g.row.C.Denot). TakesDocEnd g.C.Conds.stands (OnRefusal c.go_on.new.self.refused) z c.go_on.new.self) c.self.view_is (λ lim b was s fresh.
    let r = c.finish-ended.new.self in
    let o = c.finish-ended.ensures in
    let e : ManyView g.row.C.Denot = record old { reader = r; ended = true } in
    fed_to g.C.Conds.stands lim b was b true old e c.go_on.new.self s refl c.go_on.ensures.keeps (fault_of_answer r.refused c.finish-ended.result lim b true o.answer (o.exact lim b was s.given s.reader))
    c.go_on.ensures.closing (c.go_on.ensures.bytes ∙ s.bytes)
    (c.go_on.ensures.goes lim b true s.given (given_read g.C.Conds.stands lim old b was b true s e refl (o.stands lim b was s.given s.reader))))

pub returns-clause-empty : goal.returns-clause-empty
returns-clause-empty g c = λ fresh.
    let was = c.requires.stands.0 in
    let old : ManyView g.row.C.Denot = record { reader = c.self.inside.reader; parts = c.self.inside.parts.items; bytes = c.self.inside.bytes; refused = c.self.inside.refused; ended = c.self.inside.ended } in
    let s = subst (λ (z : ManyView g.row.C.Denot). ManyStandSome g.C.Conds.stands z was) (sym c.self.view_is) c.requires.stands.1 in
    let fresh0 : old.refused ≡ None = ap (λ (z : ManyView g.row.C.Denot). z.refused) c.self.view_is ∙ c.requires.fresh in
    let r = c.finish-ended.new.self in
    let o = c.finish-ended.ensures in
    let d = c.go_on.new.self in
    let e : ManyView g.row.C.Denot = record old { reader = r; ended = true } in
    let h : Called g.C.Conds.stands s.limits s.read was s.read true old d = subst (λ (z : ManyView g.row.C.Denot). TakesDocEnd g.C.Conds.stands (OnRefusal d.refused) z d) (sym c.self.view_is) (returns-clause-ended g c) s.limits s.read was s.of fresh0 in
    let k = asked_none d.refused (ManyLost s.limits old d s.read was s.read true) (ManyKept g.C.Conds.stands s.limits old d s.read was s.read true) fresh h in
    let reads = o.stands s.limits s.read was s.of.given s.of.reader in
    let goes = c.go_on.ensures.goes s.limits s.read true s.of.given (given_read g.C.Conds.stands s.limits old s.read was s.read true s.of e refl reads) in
    let fed = asked_none d.refused (BreaksEach e d s.limits s.read true s.of.given) (FedWith g.C.Conds.stands e d s.limits s.read true s.of.given) fresh goes in
    let none : r.refused ≡ None = sym fed.refused ∙ fresh in
    let document = accepted_at r c.finish-ended.result s.read (s.of.given ++ waiting r) o.answer none (o.document s.limits s.read was s.of.given s.of.reader) in
    end_empty g.C.Conds.stands s.limits d s.read k.of r s.of.given reads none document
