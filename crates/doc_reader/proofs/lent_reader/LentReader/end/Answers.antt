use Rattle.std.proofs.Common.{Bool, false, sym, ◌∙◌, subst}
use Rattle.doc_reader.specs.Standing.{ReaderView, Stands}
use Rattle.doc_reader.specs.Inside.{view_of}
use Rattle.doc_reader.proofs.Standings.{ended_is, was_refused, not_refused, stands_end_refused, stands_end_whole, stands_end_short}
use Rattle.doc_reader.proofs.lent_reader.LentReader.end.Goals as goal

pub returns-then-is_some-clause-stands : goal.returns-then-is_some-clause-stands
returns-then-is_some-clause-stands c lim b ended given s =
    let old = view_of c.self.inside in
    let now = subst (λ (v : ReaderView). Stands v lim b ended given) (sym c.self.view_is) s in
    let open_still : Stands old lim b false given = subst (λ (o : Bool). Stands old lim b o given) (ended_is old lim b ended given now c.if-self.false) now in
    stands_end_refused old lim b given (was_refused c.self.inside.refused (sym c.is_some.ensures ∙ c.if-is_some.true)) open_still

pub returns-in-Ok-clause-stands : goal.returns-in-Ok-clause-stands
returns-in-Ok-clause-stands c lim b ended given s =
    let old = view_of c.self.inside in
    let now = subst (λ (v : ReaderView). Stands v lim b ended given) (sym c.self.view_is) s in
    let open_still : Stands old lim b false given = subst (λ (o : Bool). Stands old lim b o given) (ended_is old lim b ended given now c.if-self.false) now in
    let none = not_refused c.self.inside.refused (sym c.is_some.ensures ∙ c.if-is_some.false) in
    let ends = c.in-Ok.ensures in
    stands_end_whole old lim b given none ends.0 ends.1 open_still

pub returns-in-Err-clause-stands : goal.returns-in-Err-clause-stands
returns-in-Err-clause-stands c lim b ended given s =
    let old = view_of c.self.inside in
    let now = subst (λ (v : ReaderView). Stands v lim b ended given) (sym c.self.view_is) s in
    let open_still : Stands old lim b false given = subst (λ (o : Bool). Stands old lim b o given) (ended_is old lim b ended given now c.if-self.false) now in
    let none = not_refused c.self.inside.refused (sym c.is_some.ensures ∙ c.if-is_some.false) in
    stands_end_short old lim b given c.in-Err.fault none c.in-Err.ensures open_still
