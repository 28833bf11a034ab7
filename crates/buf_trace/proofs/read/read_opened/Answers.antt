use Rattle.gcx_model.specs.Demand.{kind_text}
use Rattle.buf_trace.specs.Lines.{IsKind, IsGiven, kind_tree}
use Rattle.buf_trace.specs.Reading.{behind, roles_text}
use Rattle.buf_trace.proofs.Words.{nothing}
use Rattle.buf_trace.proofs.Lines.{opened_over, opened_no_serial, opened_no_kind, opened_no_roles}
use Rattle.buf_trace.proofs.read.read_opened.Goals as goal

pub returns-in_default : goal.returns-in_default
returns-in_default c = opened_over c.args.text.now c.cut.result.0.now c.cut.result.1 c.cut.ensures.word c.cut.ensures.whole c.in_default.is

pub returns-in_default-read_number : goal.returns-in_default-read_number
returns-in_default-read_number c = opened_no_serial c.args.text.now c.cut.result.0.now c.cut.result.1 c.cut.ensures.word c.cut.ensures.whole c.in_default-read_number.ensures

pub returns-in_default-2 : goal.returns-in_default-2
returns-in_default-2 c =
    let second = c.cut-2 in
    opened_no_kind c.args.text.now c.cut.result.0.now c.cut.result.1 c.cut.ensures.word c.cut.ensures.whole c.in-Some.rest c.in-Some.is second.result.0.now second.result.1 second.ensures.word second.ensures.whole (nothing IsKind (λ k. kind_text (kind_tree k)) second.result.0.now c.in_ok-kind.field-0 c.in_default-2.is c.in_ok-kind.ensures)

pub returns-in_default-3 : goal.returns-in_default-3
returns-in_default-3 c =
    let second = c.cut-2 in
    opened_no_roles c.args.text.now c.cut.result.0.now c.cut.result.1 c.cut.ensures.word c.cut.ensures.whole c.in-Some.rest c.in-Some.is second.result.0.now second.result.1 second.ensures.word second.ensures.whole (nothing IsGiven roles_text (behind second.result.1) c.in_ok-given.field-0 c.in_default-3.is c.in_ok-given.ensures)
