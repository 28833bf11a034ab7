use Rattle.std.proofs.Common.{◌≡◌, ◌++◌, map, take, drop}
use Rattle.doc_tokens.specs.Parts.{moved_by}
use Rattle.doc_tokens.proofs.tokens.move_each.Given as goal

abbrev pub invariant-loop-i : goal.invariant-loop-i
invariant-loop-i l = l.lent ≡ map (moved_by l.by) (take l.i l.fn.lent) ++ drop l.i l.fn.lent
