use Rattle.gcx_io.proofs.Places.{Passes}
use Rattle.gcx_io.proofs.files.find.Given as goal

abbrev pub invariant-loop-i : goal.invariant-loop-i
invariant-loop-i l = Passes l.name l.entries l.i
