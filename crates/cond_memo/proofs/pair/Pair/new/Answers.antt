use Rattle.std.proofs.Common.{refl}
use Rattle.cond_memo.proofs.PairTruths.{new_side}
use Rattle.cond_memo.proofs.pair.Pair.new.Goals as goal

pub returns-clause-about : goal.returns-clause-about
returns-clause-about c = record { var = refl; left_steps = c.in_ok-taken.ensures.steps; rel_is = refl; other = refl; right_steps = c.in_ok-also.ensures.steps }

pub returns-clause-pair : goal.returns-clause-pair
returns-clause-pair c P = record {
  lefts = _;
  rights = _;
  took = c.new-3.ensures;
  left = new_side c.in_ok-taken.taken c.in_ok-taken.ensures.fits c.in_ok-taken.ensures.of P;
  right = new_side c.in_ok-also.also c.in_ok-also.ensures.fits c.in_ok-also.ensures.of P;
}
