use Rattle.std.proofs.Common.{ℕ, List, sym, subst}
use Rattle.std.proofs.lemmas.List.{take_all}
use Rattle.gcx_model.specs.Members.{In}
use Rattle.path_states.proofs.Climbing.{greatest_more}
use Rattle.matcher.proofs.upward.greatest.Goals as goal

pub loop-level-preserved : goal.loop-level-preserved
loop-level-preserved c = greatest_more c.args.levels.now c.loop-level.level-index c.loop-level.greatest c.larger-greatest.result c.loop-level-test.true c.larger-greatest.ensures c.loop-level.invariant

pub returns : goal.returns
returns c = record {
  least = λ l i. c.loop-level.invariant.0 l (subst (λ (z : List ℕ). In l z) (sym (take_all c.loop-level.level-index c.args.levels.now c.loop-level-test.false)) i);
  one = c.loop-level.invariant.1;
}
