use Rattle.std.proofs.Common.{arith}
use Rattle.path_states.proofs.branches.asking.Goals as goal

pub returns : goal.returns
returns c = record {
  of = λ b i. c.from_name-behind.ensures.of b (c.up_to_name.ensures.of b i);
  all = λ up b i e. c.up_to_name.ensures.all (c.from_name-behind.ensures.rise up) b (c.from_name-behind.ensures.all up b i (omega arith)) (omega arith);
}
