use Rattle.buf_trace.proofs.Numbers.{role_not}
use Rattle.buf_trace.proofs.read.read_role.Goals as goal

pub returns-in-Err : goal.returns-in-Err
returns-in-Err c = role_not c.args.text.now c.in_ok-read_number.field-0 c.in_ok-read_number.ensures.0 c.in_ok-read_number.ensures.1 c.in-Err.ensures
