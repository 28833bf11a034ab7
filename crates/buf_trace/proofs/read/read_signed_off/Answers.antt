use Rattle.buf_trace.proofs.Lines.{off_over, off_no_serial, off_no_role}
use Rattle.buf_trace.proofs.read.read_signed_off.Goals as goal

pub returns-in_err-read_number : goal.returns-in_err-read_number
returns-in_err-read_number c = off_no_serial c.args.text.now c.cut.result.0.now c.cut.result.1 c.cut.ensures.word c.cut.ensures.whole c.from_residual.result c.from_residual.ensures c.in_err-read_number.ensures

pub returns-in_err-rest : goal.returns-in_err-rest
returns-in_err-rest c = off_over c.args.text.now c.cut.result.0.now c.cut.result.1 c.cut.ensures.word c.cut.ensures.whole c.from_residual-in_err-rest.result c.from_residual-in_err-rest.ensures c.in_err-rest.was

pub returns-in_err-role : goal.returns-in_err-role
returns-in_err-role c = off_no_role c.args.text.now c.cut.result.0.now c.cut.result.1 c.cut.ensures.word c.cut.ensures.whole c.from_residual-in_err-role.result c.from_residual-in_err-role.ensures c.in_ok-rest.field-0 c.in_ok-rest.was c.in_err-role.ensures
