use Rattle.std.proofs.lemmas.Bool.{false≢true}
use Rattle.run_part.proofs.lines.NoLinesLines.begin.Goals as goal

-- none are wanted
pub returns-clause-opened : goal.returns-clause-opened
returns-clause-opened c = λ wanted. absurd (false≢true wanted)
