use Rattle.std.proofs.Common.{◌≡◌, []}
use Rattle.gcx_tests.proofs.runs.many.files_of.Given as goal

abbrev pub invariant-loop-name : goal.invariant-loop-name
invariant-loop-name l = l.shelf.kept.openings ≡ []
