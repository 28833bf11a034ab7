use Rattle.doc_reader.proofs.Accepting.{accepts}
use Rattle.doc_reader.proofs.lent_reader.LentReader.finish.Goals as goal

pub returns-clause-document : goal.returns-clause-document
returns-clause-document c lim b ended given s = accepts c.end.new.self lim b given c.answer.result c.answer.ensures (c.end.ensures.stands lim b ended given s)
