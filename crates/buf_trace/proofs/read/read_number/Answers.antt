use Rattle.std.proofs.Common.{◌≡◌, ℕ, List, Option, true, ◌<◌, ◌^◌, sym, ◌∙◌, subst}
use Rattle.std.specs.Fmt.{decimal}
use Rattle.buf_trace.specs.Reading.{may_begin, Reads}
use Rattle.buf_trace.proofs.Numbers.{begins_not, utf8_not, number_read}
use Rattle.buf_trace.proofs.read.read_number.Goals as goal

pub returns-then-not-may_begin : goal.returns-then-not-may_begin
returns-then-not-may_begin c = begins_not c.args.text.now (sym c.may_begin.ensures ∙ c.if-not-may_begin.true)

pub returns-in-Ok : goal.returns-in-Ok
returns-in-Ok c =
    let same = c.in-Ok.ensures.cases.0 in
    let reads : Reads (λ n. n < 2 ^ 64) decimal c.in-Ok.text.now c.ok.result =
    subst (λ (o : Option ℕ). Reads (λ n. n < 2 ^ 64) decimal c.in-Ok.text.now o) (sym c.ok.ensures.value)
    (number_read c.in-Ok.text.now c.parse.result (subst (λ (t : List ℕ). may_begin t ≡ true) (sym same) (sym c.may_begin.ensures ∙ c.if-not-may_begin.false)) c.parse.ensures.value.0) in
    subst (λ (t : List ℕ). Reads (λ n. n < 2 ^ 64) decimal t c.ok.result) same reads

pub returns-in-Err : goal.returns-in-Err
returns-in-Err c = utf8_not c.args.text.now c.in-Err.ensures.cases.0
