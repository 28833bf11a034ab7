use Rattle.std.proofs.Common.{ap, ◌∙◌}
use Rattle.doc_reader.specs.Standing.{answer_of}
use Rattle.doc_reader.proofs.reader.Reader.answer.Goals as goal

pub returns : goal.returns
returns c = c.answer.ensures ∙ ap answer_of c.self.view_is
