use Rattle.value_pairs.proofs.Meeting.{meets}
use Rattle.value_pairs.proofs.shared.take_value.Goals as goal

pub returns-clause-found : goal.returns-clause-found
returns-clause-found c = meets c.args.found.now c.has_value-met.result c.either.result c.args.bytes.now c.args.others.now c.has_value-met.ensures c.either.ensures
