use Rattle.value_pairs.proofs.Bounds.{none_least}
use Rattle.value_pairs.proofs.extent.Extent.is_empty.Goals as goal

pub returns : goal.returns
returns c = λ vs spans. none_least c.args.self.now.least c.is_none.result c.is_none.ensures vs spans.least
