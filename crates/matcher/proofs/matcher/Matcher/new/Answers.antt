use Rattle.std.proofs.Common.{◌≡◌, ℕ, subst}
use Rattle.std.specs.Prelude.{IfOk}
use Rattle.matcher.specs.View.{MatcherView}
use Rattle.matcher.proofs.matcher.Matcher.new.Goals as goal

pub returns-clause-most : goal.returns-clause-most
returns-clause-most c = subst (λ (n : ℕ). IfOk c.bounded.result (λ (m : MatcherView). m.most_bytes ≡ n)) c.usual.ensures c.bounded.ensures.most
