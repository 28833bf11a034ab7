use Rattle.std.proofs.Common.{rules, ◌∙◌, ap, sym, ◌++◌, ◌^◌, length}
use Rattle.std.specs.Prelude.{pos, ◌<ℤ◌}
use Rattle.gcx_model.specs.Values.{against, digits_from, decimal_number}
use Rattle.xq_values.proofs.Digits.{ten_pos}
use Rattle.xq_values.proofs.Orders.{plus_minus, minus_plus}
use Rattle.xq_values.proofs.number.NumText.compare.Goals as goal

pub returns-then-units-gt0 : goal.returns-then-units-gt0
returns-then-units-gt0 c =
    let above : pos 0 <ℤ c.args.units = search rules in
    minus_plus (digits_from 0 (c.self.inside.whole.now ++ c.self.inside.fraction.now)) (10 ^ 18) (10 ^ length c.self.inside.fraction.now) c.args.units (ten_pos (length c.self.inside.fraction.now)) above
    ∙ ap (λ n. against (decimal_number n c.self.inside.whole.now c.self.inside.fraction.now) c.args.units) (sym c.if-self.true)
    ∙ ap (λ d. against d c.args.units) c.self.view_is

pub returns-then-units-lt0 : goal.returns-then-units-lt0
returns-then-units-lt0 c =
    let below : c.args.units <ℤ pos 0 = search rules in
    plus_minus (digits_from 0 (c.self.inside.whole.now ++ c.self.inside.fraction.now)) (10 ^ 18) (10 ^ length c.self.inside.fraction.now) c.args.units (ten_pos (length c.self.inside.fraction.now)) below
    ∙ ap (λ n. against (decimal_number n c.self.inside.whole.now c.self.inside.fraction.now) c.args.units) (sym c.if-self.false)
    ∙ ap (λ d. against d c.args.units) c.self.view_is
