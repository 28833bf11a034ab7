use Rattle.std.proofs.Common.{[], ◌∷◌, subst}
use Rattle.gcx_base.specs.declared.ids.Serial.{Serial}
use Rattle.gcx_model.specs.Demand.{Line}
use Rattle.buf_trace.specs.declared.line.Line.TheVariants as line
use Rattle.trace_check.specs.Telling.{Puts}
use Rattle.trace_check.proofs.Putting.{on_ok, opened_is, put_one}
use Rattle.trace_check.proofs.telling.put_opened.Goals as goal

pub returns : goal.returns
returns c =
    let serial : Serial = record { 0 = c.args.node } in
    let kind = c.in_ok-kind_of.field-0 in
    let given = c.in_ok-roles_of.field-0 in
    on_ok c.put_line.result
    (put_one c.put_line.result c.args.text.now.items c.put_line.new.out.items (line.Opened serial kind given) c.put_line.ensures.ok c.put_line.ensures.held) (λ put plan ts is.
    subst (λ (l : Line). Puts c.args.text.now.items c.put_line.new.out.items (l ∷ []))
    (opened_is plan ts c.args.course.now is c.args.node kind given c.in_ok-kind_of.ensures c.in_ok-roles_of.ensures) put)
