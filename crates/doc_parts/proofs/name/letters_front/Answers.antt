use Rattle.std.proofs.Common.{arith}
use Rattle.doc_parts.specs.Spans.{is_short_part}
use Rattle.doc_parts.proofs.Blocks.{front_passes}
use Rattle.doc_parts.proofs.name.letters_front.Goals as goal

pub returns-clause-within : goal.returns-clause-within
returns-clause-within c = omega (arith, c.letters_run.ensures.within)

pub returns-clause-parts : goal.returns-clause-parts
returns-clause-parts c = front_passes is_short_part c.args.bytes.now 16 c.letters_run.result (omega arith) c.letters_run.ensures
