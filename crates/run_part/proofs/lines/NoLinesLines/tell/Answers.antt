use Rattle.std.proofs.lemmas.Bool.{false≢true}
use Rattle.run_part.proofs.lines.NoLinesLines.tell.Goals as goal

-- none are wanted
pub returns-clause-told : goal.returns-clause-told
returns-clause-told c = λ wanted. absurd (false≢true wanted)
