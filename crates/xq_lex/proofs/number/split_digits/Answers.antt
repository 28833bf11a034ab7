use Rattle.std.proofs.Common.{◌≡◌, length, arith, ◌∙◌, ap}
use Rattle.std.specs.List.{list_all}
use Rattle.std.proofs.lemmas.Grind.{common_steps}
use Rattle.gcx_model.specs.Values.{is_digit_byte}
use Rattle.xq_lex.specs.Numbers.{digits_at}
use Rattle.xq_lex.proofs.NumberLaws.{counted_digits, digits_front}
use Rattle.xq_lex.proofs.number.split_digits.Goals as goal

pub returns-clause-digits : goal.returns-clause-digits
returns-clause-digits c =
    let e : c.loop-first.len ≡ length (digits_at c.args.text.now) = grind (arith, common_steps) in
    c.split_at.ensures.front ∙ counted_digits c.args.text.now c.loop-first.len e

pub returns-clause-all : goal.returns-clause-all
returns-clause-all c =
    let e : c.loop-first.len ≡ length (digits_at c.args.text.now) = grind (arith, common_steps) in
    ap (list_all is_digit_byte) (c.split_at.ensures.front ∙ counted_digits c.args.text.now c.loop-first.len e) ∙ (digits_front c.args.text.now).good
