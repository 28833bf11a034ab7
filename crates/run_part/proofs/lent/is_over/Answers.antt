use Rattle.std.specs.Prelude.{nat_lt}
use Rattle.run_part.proofs.lent.is_over.Goals as goal

pub returns : goal.returns
returns g c = (λ i. nat_lt (c.most.ensures i) (c.rows_late.ensures i))
