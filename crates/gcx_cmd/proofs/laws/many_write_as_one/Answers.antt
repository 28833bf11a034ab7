use Rattle.gcx_cmd.proofs.ManyTexts.{write_as_one}
use Rattle.gcx_cmd.proofs.laws.many_write_as_one.Goals as goal

pub returns : goal.returns
returns c = λ x tracing end ps qs stop at i a b k m writes same one many. write_as_one x tracing end ps qs stop at i a b k m writes same one many
