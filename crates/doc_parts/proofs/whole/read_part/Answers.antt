use Rattle.doc_machine.specs.Machine.{scan_state}
use Rattle.doc_parts.proofs.Texts.{moves_none}
use Rattle.doc_parts.proofs.whole.read_part.Goals as goal

pub returns-then-run_len-limits-clause-moves : goal.returns-then-run_len-limits-clause-moves
returns-then-run_len-limits-clause-moves c = moves_none c.args.limits.now (scan_state c.args.m.now) c.args.rest.now c.utf8.rest
