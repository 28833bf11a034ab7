use Rattle.std.proofs.Common.{arith}
use Rattle.std.proofs.lemmas.Map.Text.{text_keys}
use Rattle.xq_parse.proofs.scope.take_first.Goals as goal

pub returns-then-eq : goal.returns-then-eq
returns-then-eq c = λ q. grind (arith, text_keys)
