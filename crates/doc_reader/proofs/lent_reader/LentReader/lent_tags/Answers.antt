use Rattle.std.proofs.Common.{ap, subst, List}
use Rattle.gcx_model.specs.Tree.{TreeToken}
use Rattle.doc_tokens.specs.Parts.{AreLent}
use Rattle.doc_reader.specs.Standing.{ReaderView}
use Rattle.doc_reader.proofs.lent_reader.LentReader.lent_tags.Goals as goal

pub returns : goal.returns
returns c = subst (λ (ts : List TreeToken). AreLent c.lent_whole.result.0.now c.lent_whole.result.1.now ts) (ap (λ (v : ReaderView). v.state.tokens) c.self.view_is) c.lent_whole.ensures
