use Rattle.std.proofs.Common.{sym, ◌∙◌}
use Rattle.doc_reader.proofs.Behind.{no_tags, some_tags}
use Rattle.doc_reader.proofs.lent_reader.LentReader.has_no_tags.Goals as goal

pub returns-clause-none : goal.returns-clause-none
returns-clause-none c = λ y. no_tags c.args.self.now.state.tokens c.lent_tags.result.0.now c.lent_tags.result.1.now c.lent_tags.ensures (sym c.is_empty.ensures ∙ y)

pub returns-clause-some : goal.returns-clause-some
returns-clause-some c = λ y. some_tags c.args.self.now.state.tokens c.lent_tags.result.0.now c.lent_tags.result.1.now c.lent_tags.ensures (sym c.is_empty.ensures ∙ y)
