use Rattle.std.proofs.Common.{◌≡◌, ◌∙◌, ◌+◌, ◌++◌, false, length, refl, arith, ap, subst, sym}
use Rattle.std.proofs.lemmas.List.{length-append}
use Rattle.engine.specs.View.{EngineView, over_part, seen_part}
use Rattle.engine.proofs.Courses.{bytes_small, fault_of_answer, fed_to, parts_read}
use Rattle.engine.specs.Engine.{IsTold, OnRefusal, StandsSome}
use Rattle.engine.proofs.TellingCalls.{told_to}
use Rattle.engine.specs.Calls.{FeedsPiece, SameRun, TellsPiece}
use Rattle.engine.proofs.engine.Engine.feed_slice.Goals as goal

pub overflow_add-self : goal.overflow_add-self
overflow_add-self g c =
    let s = c.requires.stands in
    let n = bytes_small g.C.Conds.stands s.limits c.args.self.now s.read false s.of c.requires.fresh in
    let same = ap (λ (z : EngineView g.row.C.Denot). z.bytes) c.self.view_is in
    omega arith

pub feed-read-requires : goal.feed-read-requires
feed-read-requires g c = ap (λ (z : EngineView g.row.C.Denot). z.reader.finished) c.self.view_is ∙ c.requires.stands.of.parts.reader.finished

pub go_on-requires-clause-parts : goal.go_on-requires-clause-parts
go_on-requires-clause-parts g c =
    let old : EngineView g.row.C.Denot = over_part (seen_part c.self.inside.part) c.self.inside.reader c.self.inside.bytes c.self.inside.refused c.self.inside.ended in
    let s = subst (λ (z : EngineView g.row.C.Denot). StandsSome g.C.Conds.stands z false) (sym c.self.view_is) c.requires.stands in
    let b = s.read ++ c.args.slice.now in
    record {
      limits = s.limits;
      read = b;
      ended = false;
      given = s.of.given;
      of = parts_read g.C.Conds.stands s.limits old s.read false b false s.of c.feed-read.new.self (old.bytes + length c.args.slice.now) (c.feed-read.ensures.stands s.limits s.read s.of.given s.of.parts.reader);
    }

pub returns-clause-fed : goal.returns-clause-fed
returns-clause-fed g c =
    let old : EngineView g.row.C.Denot = over_part (seen_part c.self.inside.part) c.self.inside.reader c.self.inside.bytes c.self.inside.refused c.self.inside.ended in
    subst (λ (z : EngineView g.row.C.Denot). FeedsPiece g.C.Conds.stands (OnRefusal c.go_on.new.self.refused) z c.go_on.new.self c.args.slice.now) c.self.view_is (λ lim b s fresh.
    let r = c.feed-read.new.self in
    let o = c.feed-read.ensures in
    let d = c.go_on.new.self in
    let w = b ++ c.args.slice.now in
    let n = old.bytes + length c.args.slice.now in
    let e : EngineView g.row.C.Denot = record old { reader = r; bytes = n } in
    let l = length-append b c.args.slice.now in
    let y = s.bytes in
    let x = c.go_on.ensures.bytes in
    let bytes : d.bytes ≡ length w = omega arith in
    fed_to g.C.Conds.stands lim b false w false old e d s refl refl (λ lent h. h) c.go_on.ensures.keeps (fault_of_answer r.refused c.feed-read.result lim w false o.answer (o.exact lim b s.given s.parts.reader))
    (c.go_on.ensures.closing ∙ s.closing) bytes
    (c.go_on.ensures.goes lim w false s.given (parts_read g.C.Conds.stands lim old b false w false s r n (o.stands lim b s.given s.parts.reader))))

pub returns-clause-same : goal.returns-clause-same
returns-clause-same g c =
    let old : EngineView g.row.C.Denot = over_part (seen_part c.self.inside.part) c.self.inside.reader c.self.inside.bytes c.self.inside.refused c.self.inside.ended in
    subst (λ (z : EngineView g.row.C.Denot). SameRun z c.go_on.new.self) c.self.view_is (let h = c.go_on.ensures.same in
    record { plan = h.plan; ahead = h.ahead; tracing = h.tracing; silent = λ s. h.silent (record { untold = s.untold; empty = s.empty }); loans = h.loans })

pub returns-clause-traced : goal.returns-clause-traced
returns-clause-traced g c =
    let old : EngineView g.row.C.Denot = over_part (seen_part c.self.inside.part) c.self.inside.reader c.self.inside.bytes c.self.inside.refused c.self.inside.ended in
    subst (λ (z : EngineView g.row.C.Denot). TellsPiece g.C.Conds.stands (OnRefusal c.go_on.new.self.refused) z c.go_on.new.self c.args.slice.now) c.self.view_is (λ lim b s fresh told.
    let r = c.feed-read.new.self in
    let o = c.feed-read.ensures in
    let d = c.go_on.new.self in
    let w = b ++ c.args.slice.now in
    let n = old.bytes + length c.args.slice.now in
    let e : EngineView g.row.C.Denot = record old { reader = r; bytes = n } in
    let told' : IsTold e = told in
    let reads = o.stands lim b s.given s.parts.reader in
    let parts = parts_read g.C.Conds.stands lim old b false w false s r n reads in
    told_to g.C.Conds.stands lim b false w false old e d s refl refl reads (c.go_on.ensures.goes lim w false s.given parts) (c.go_on.ensures.told told' lim w false s.given parts))
