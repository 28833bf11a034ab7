use Rattle.cond_eval.proofs.Texts.{only_value}
use Rattle.cond_eval.proofs.values.value.Goals as goal

pub returns-in-Some-clause-value : goal.returns-in-Some-clause-value
returns-in-Some-clause-value g c = only_value _ _ _ _ c.in-Some.ensures c.bytes_at.ensures.bytes
