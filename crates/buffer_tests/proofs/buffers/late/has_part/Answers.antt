use Rattle.std.proofs.Common.{ap, subst, sym, ◌∙◌}
use Rattle.gcx_model.specs.Tree.{TreeToken}
use Rattle.doc_reader.specs.Standing.{said_of}
use Rattle.buffer_tests.specs.Late.{IsTokenPart}
use Rattle.buffer_tests.proofs.FeedsLate.{name_part, text_part}
use Rattle.buffer_tests.proofs.buffers.late.has_part.Goals as goal

pub returns-in-Start : goal.returns-in-Start
returns-in-Start c h =
    subst (λ (t : TreeToken). IsTokenPart c.args.bytes.now c.args.from c.args.to t) (sym (ap said_of c.in-Start.is))
    (name_part c.args.bytes.now c.args.from c.args.to c.as_bytes.result.now c.in-Start.name c.as_bytes.ensures.bytes c.as_bytes.ensures.named (c.is_part.ensures h))

pub returns-in-Text : goal.returns-in-Text
returns-in-Text c h =
    subst (λ (t : TreeToken). IsTokenPart c.args.bytes.now c.args.from c.args.to t) (sym (ap said_of c.in-Text.is))
    (text_part c.args.bytes.now c.args.from c.args.to c.as_bytes-in-Text.result.now c.in-Text.text c.as_bytes-in-Text.ensures.bytes c.as_bytes-in-Text.ensures.utf8 (c.is_part-in-Text.ensures h))
