use Rattle.std.proofs.Common.{◌≡◌, [], sym, subst}
use Rattle.doc_reader.specs.Standing.{ReaderView, Stands}
use Rattle.doc_reader.specs.Inside.{view_of}
use Rattle.doc_reader.proofs.Standings.{stands_ended}
use Rattle.doc_reader.proofs.lent_reader.LentReader.take_end.Goals as goal

pub returns-clause-stands : goal.returns-clause-stands
returns-clause-stands c lim b ended given s =
    stands_ended (view_of c.self.inside) lim b ended given
    (subst (λ (v : ReaderView). v.state.tokens ≡ []) (sym c.self.view_is) c.requires)
    (subst (λ (v : ReaderView). Stands v lim b ended given) (sym c.self.view_is) s)
