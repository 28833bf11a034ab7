use Rattle.std.proofs.Common.{map}
use Rattle.std.proofs.lemmas.Result.{IfOk-weaker}
use Rattle.gcx_words.proofs.Within.{if_within}
use Rattle.gcx_words.proofs.reading.command_of.Goals as goal

pub returns-clause-within : goal.returns-clause-within
returns-clause-within c = IfOk-weaker c.read.result _ _ (λ o is. if_within c.in-Some.name (map (λ w. w.now) c.deref.result.now) o is) c.read.ensures
