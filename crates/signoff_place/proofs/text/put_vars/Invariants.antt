use Rattle.std.proofs.Common.{◌≡◌, ◌++◌, string_bytes}
use Rattle.signoff_place.proofs.Texts.{vars_to}
use Rattle.signoff_place.proofs.text.put_vars.Given as goal

abbrev pub invariant-loop-i : goal.invariant-loop-i
invariant-loop-i l = string_bytes l.out ≡ string_bytes l.fn.out ++ vars_to 1 l.rows l.straight l.fsa l.i
