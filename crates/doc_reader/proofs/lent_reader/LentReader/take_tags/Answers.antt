use Rattle.std.proofs.Common.{◌≤◌, length, drop, sym, ap, ◌∙◌, subst}
use Rattle.doc_laws.specs.Machine.{State}
use Rattle.doc_reader.specs.Standing.{ReaderView, with_tokens}
use Rattle.doc_reader.specs.Inside.{view_of}
use Rattle.doc_reader.proofs.lent_reader.LentReader.take_tags.Goals as goal

pub take_whole-requires : goal.take_whole-requires
take_whole-requires c = subst (λ (v : ReaderView). c.args.count ≤ length v.state.tokens) (sym c.self.view_is) c.requires

pub returns : goal.returns
returns c =
    ap (λ (s : State). record (view_of c.self.inside) { state = s }) c.take_whole.ensures
    ∙ ap (λ (v : ReaderView). with_tokens v (drop c.args.count v.state.tokens)) c.self.view_is
