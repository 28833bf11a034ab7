use Rattle.std.proofs.Common.{◌∷◌, []}
use Rattle.gcx_model.specs.Paths.{any}
use Rattle.gcx_model.specs.Values.{compare}
use Rattle.cond_eval.specs.Literals.{literal_value}
use Rattle.cond_eval.proofs.Comparisons.{PassesOn}
use Rattle.cond_eval.proofs.pairs.some_satisfies.Given as goal

abbrev pub invariant-loop-member : goal.invariant-loop-member
invariant-loop-member g l = PassesOn l.buffer.rows (λ v. any (compare l.rel v) (literal_value l.literal ∷ [])) l.set l.member-index
