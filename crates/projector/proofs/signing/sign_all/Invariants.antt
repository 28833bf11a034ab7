use Rattle.std.proofs.Common.{drop}
use Rattle.projector.proofs.Telling.{Tells}
use Rattle.projector.proofs.signing.sign_all.Given as goal

abbrev pub invariant-loop-ahead : goal.invariant-loop-ahead
invariant-loop-ahead l = Tells l.fn.matcher l.matcher l.waiting (drop l.ahead-index l.waiting)
