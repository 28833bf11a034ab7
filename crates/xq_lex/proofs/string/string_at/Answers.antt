use Rattle.std.proofs.Common.{ℕ, List, sym, ap, ◌∙◌, subst}
use Rattle.std.specs.Prelude.{string_bytes}
use Rattle.xq_lex.specs.Sign.{begins}
use Rattle.xq_lex.specs.Strings.{BeginsWithNoPart}
use Rattle.xq_lex.proofs.ReadingLaws.{reads_on, string_read, no_string_read}
use Rattle.xq_lex.proofs.string.string_at.Goals as goal

pub loop-part-preserved : goal.loop-part-preserved
loop-part-preserved c =
    let part = rw c.split_at.ensures.back at c.in-Some.ensures in
    reads_on c.args.quote c.args.text.now (string_bytes c.loop-part.value) (string_bytes c.push.new.self) c.loop-part.count c.in-Some.part.value c.in-Some.part.count c.loop-part.invariant part c.in_ok-push.ensures.bytes

pub returns-then-begins_with : goal.returns-then-begins_with
returns-then-begins_with c =
    string_read c.args.quote c.args.text.now (string_bytes c.loop-part.value) c.loop-part.count c.loop-part.invariant
    (subst (λ (x : List ℕ). BeginsWithNoPart c.args.quote x) c.split_at.ensures.back c.in_default.ensures)
    (ap (begins c.args.quote) (sym c.split_at-2.ensures.back) ∙ sym c.if-begins_with.ensures)

pub returns-else-begins_with : goal.returns-else-begins_with
returns-else-begins_with c =
    no_string_read c.args.quote c.args.text.now (string_bytes c.loop-part.value) c.loop-part.count c.requires c.loop-part.invariant
    (subst (λ (x : List ℕ). BeginsWithNoPart c.args.quote x) c.split_at.ensures.back c.in_default.ensures)
    (ap (begins c.args.quote) (sym c.split_at-2.ensures.back) ∙ sym c.if-begins_with.ensures)
