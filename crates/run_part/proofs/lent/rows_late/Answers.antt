use Rattle.std.proofs.Common.{arith}
use Rattle.run_part.proofs.lent.rows_late.Goals as goal

pub overflow_add-result : goal.overflow_add-result
overflow_add-result g c =
    let rows = c.held.ensures in
    let passed = c.passed.ensures in
    let few = c.requires in
    omega arith
