use Rattle.gcx_model.specs.Demand.{Opened}
use Rattle.buf_trace.specs.Lines.{kind_tree}
use Rattle.buf_tree.specs.Calls.{numbers}
use Rattle.run_part.proofs.Telling.{line_put}
use Rattle.run_part.proofs.lines.put_opened.Goals as goal

pub returns-clause-ok : goal.returns-clause-ok
returns-clause-ok c =
    line_put c.put_line.result c.args.trace.now.items c.put_line.new.out.items (Opened c.args.serial.0 (kind_tree c.args.kind) (numbers c.args.given)) c.put_line.ensures.ok

pub returns-clause-err : goal.returns-clause-err
returns-clause-err c = c.put_line.ensures.err
