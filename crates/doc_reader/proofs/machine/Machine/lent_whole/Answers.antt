use Rattle.std.proofs.Common.{ap, subst, List}
use Rattle.gcx_model.specs.Tree.{TreeToken}
use Rattle.doc_laws.specs.Machine.{State}
use Rattle.doc_tokens.specs.Parts.{AreLent}
use Rattle.doc_reader.proofs.machine.Machine.lent_whole.Goals as goal

pub returns : goal.returns
returns c = subst (λ (ts : List TreeToken). AreLent c.lent.result.0.now c.lent.result.1.now ts) (ap (λ (s : State). s.tokens) c.self.view_is) c.lent.ensures
