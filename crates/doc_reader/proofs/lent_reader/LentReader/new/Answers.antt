use Rattle.std.proofs.Common.{refl}
use Rattle.doc_reader.proofs.Standings.{stands_new}
use Rattle.doc_reader.proofs.lent_reader.LentReader.new.Goals as goal

pub returns-clause-stands : goal.returns-clause-stands
returns-clause-stands c = stands_new _ c.args.limits refl c.new.ensures c.new-2.ensures.stream refl refl refl refl refl
