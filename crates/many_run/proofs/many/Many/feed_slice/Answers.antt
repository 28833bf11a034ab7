use Rattle.std.proofs.Common.{◌≡◌, ◌∙◌, ◌+◌, ◌++◌, false, length, refl, arith, ap, subst, sym}
use Rattle.std.proofs.lemmas.List.{length-append}
use Rattle.engine.specs.Engine.{OnRefusal}
use Rattle.engine.proofs.Courses.{fault_of_answer}
use Rattle.many_run.specs.Calls.{TakesDocPiece}
use Rattle.many_run.specs.Many.{ManyStandSome}
use Rattle.many_run.specs.View.{ManyView}
use Rattle.many_run.proofs.Pieces.{bytes_small, fed_to, given_read}
use Rattle.many_run.proofs.many.Many.feed_slice.Goals as goal

pub overflow_add-self : goal.overflow_add-self
overflow_add-self g c =
    let s = c.requires.stands in
    let n = bytes_small g.C.Conds.stands s.limits c.args.self.now s.read false s.of c.requires.fresh in
    let same = ap (λ (z : ManyView g.row.C.Denot). z.bytes) c.self.view_is in
    omega arith

pub feed-read-requires : goal.feed-read-requires
feed-read-requires g c = ap (λ (z : ManyView g.row.C.Denot). z.reader.finished) c.self.view_is ∙ c.requires.stands.of.reader.finished

pub go_on-requires-clause-parts : goal.go_on-requires-clause-parts
go_on-requires-clause-parts g c =
    let old : ManyView g.row.C.Denot = record { reader = c.self.inside.reader; parts = c.self.inside.parts.items; bytes = c.self.inside.bytes; refused = c.self.inside.refused; ended = c.self.inside.ended } in
    let s = subst (λ (z : ManyView g.row.C.Denot). ManyStandSome g.C.Conds.stands z false) (sym c.self.view_is) c.requires.stands in
    let e : ManyView g.row.C.Denot = record old { reader = c.feed-read.new.self; bytes = old.bytes + length c.args.slice.now } in
    let b = s.read ++ c.args.slice.now in
    record {
      limits = s.limits;
      read = b;
      ended = false;
      given = s.of.given;
      of = given_read g.C.Conds.stands s.limits old s.read false b false s.of e refl (c.feed-read.ensures.stands s.limits s.read s.of.given s.of.reader);
    }

pub returns-clause-fed : goal.returns-clause-fed
returns-clause-fed g c =
    let old : ManyView g.row.C.Denot = record { reader = c.self.inside.reader; parts = c.self.inside.parts.items; bytes = c.self.inside.bytes; refused = c.self.inside.refused; ended = c.self.inside.ended } in
    subst (λ (z : ManyView g.row.C.Denot). TakesDocPiece g.C.Conds.stands (OnRefusal c.go_on.new.self.refused) z c.go_on.new.self c.args.slice.now) c.self.view_is (λ lim b s fresh.
    let r = c.feed-read.new.self in
    let o = c.feed-read.ensures in
    let d = c.go_on.new.self in
    let w = b ++ c.args.slice.now in
    let e : ManyView g.row.C.Denot = record old { reader = r; bytes = old.bytes + length c.args.slice.now } in
    let l = length-append b c.args.slice.now in
    let y = s.bytes in
    let x = c.go_on.ensures.bytes in
    let bytes : d.bytes ≡ length w = omega arith in
    fed_to g.C.Conds.stands lim b false w false old e d s refl c.go_on.ensures.keeps (fault_of_answer r.refused c.feed-read.result lim w false o.answer (o.exact lim b s.given s.reader))
    (c.go_on.ensures.closing ∙ s.closing) bytes
    (c.go_on.ensures.goes lim w false s.given (given_read g.C.Conds.stands lim old b false w false s e refl (o.stands lim b s.given s.reader))))
