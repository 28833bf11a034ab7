use Rattle.std.proofs.Common.{◌≡◌, [], ◌∷◌}
use Rattle.signoff_place.proofs.Rels.{rels_to}
use Rattle.signoff_place.proofs.statements.rels.Given as goal

abbrev pub invariant-loop-i : goal.invariant-loop-i
invariant-loop-i l = l.rels.items ≡ rels_to ([] ∷ []) l.vars l.straight l.i
