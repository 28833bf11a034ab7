use Rattle.std.proofs.Common.{rules, ◌≡◌, ◌==◌, ap, sym, true, false}
use Rattle.std.specs.List.{list_all}
use Rattle.std.specs.Ordering.{nat_cmp}
use Rattle.std.specs.Cmp.{nat_cmp_is}
use Rattle.std.specs.declared.cmp.Ordering.TheVariants.{Greater}
use Rattle.xq_values.proofs.Digits.{zeros, nonzero}
use Rattle.xq_values.proofs.number.compare_to_zero.Goals as goal

pub returns-then-are_zeros : goal.returns-then-are_zeros
returns-then-are_zeros c =
    let all : list_all (λ d. d == 48) c.args.digits.now ≡ true = search rules in
    ap (λ n. nat_cmp n 0) (sym (zeros c.args.digits.now all))

pub returns-else-are_zeros : goal.returns-else-are_zeros
returns-else-are_zeros c =
    let not_all : list_all (λ d. d == 48) c.args.digits.now ≡ false = search rules in
    nat_cmp_is _ 0 Greater (nonzero c.args.digits.now c.requires not_all)
