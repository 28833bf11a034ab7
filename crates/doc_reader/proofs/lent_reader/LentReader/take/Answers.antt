use Rattle.std.proofs.Common.{Some, ◌++◌, false, sym, ap, ◌∙◌, subst}
use Rattle.doc_reader.specs.Standing.{ReaderView, Stands}
use Rattle.doc_reader.proofs.Standings.{was_refused, not_refused, stands_read, stands_refused, stands_still}
use Rattle.doc_reader.proofs.lent_reader.LentReader.take.Goals as goal

pub returns-then-is_some-clause-stands : goal.returns-then-is_some-clause-stands
returns-then-is_some-clause-stands c lim b given s =
    let refused = ap (λ (v : ReaderView). v.refused) c.self.view_is in
    stands_still c.args.self.now lim b c.args.piece.now given (λ e. was_refused c.self.inside.refused (sym c.is_some.ensures ∙ c.if-is_some.true) (refused ∙ e)) s

pub returns-in-Err-clause-stands : goal.returns-in-Err-clause-stands
returns-in-Err-clause-stands c lim b given s =
    let none = sym (ap (λ (v : ReaderView). v.refused) c.self.view_is) ∙ not_refused c.self.inside.refused (sym c.is_some.ensures ∙ c.if-is_some.false) in
    subst (λ (v : ReaderView). Stands (record v { refused = Some c.in-Err.fault }) lim (b ++ c.args.piece.now) false given) (sym c.self-2.view_is)
    (stands_refused c.args.self.now c.read_allowed.new.self lim b c.args.piece.now given c.in-Err.fault none c.in-Err.ensures.same (c.in-Err.ensures.took b given) s)

pub returns-in_default-clause-stands : goal.returns-in_default-clause-stands
returns-in_default-clause-stands c lim b given s =
    let none = sym (ap (λ (v : ReaderView). v.refused) c.self.view_is) ∙ not_refused c.self.inside.refused (sym c.is_some.ensures ∙ c.if-is_some.false) in
    stands_read c.args.self.now c.read_allowed.new.self lim b c.args.piece.now given none c.in_default.ensures.same (c.in_default.ensures.took b given) s
