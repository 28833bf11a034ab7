use Rattle.std.proofs.Common.{rules, ◌≡◌, sym, ◌∙◌}
use Rattle.gcx_model.specs.Values.{number}
use Rattle.xq_values.proofs.Grammar.{counts_as, number-spelled}
use Rattle.xq_values.proofs.number.NumText.read.Goals as goal

pub returns-clause-number : goal.returns-clause-number
unfolding number
returns-clause-number c = search rules

pub returns-clause-counts : goal.returns-clause-counts
returns-clause-counts c =
    let is : c.of_digits.result ≡ number c.args.value.now = returns-clause-number c in
    λ d. (λ some. counts_as c.args.value.now d (sym is ∙ some), λ counts. is ∙ number-spelled c.args.value.now d counts)
