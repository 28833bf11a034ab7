use Rattle.std.proofs.Common.{◌≡◌, ℕ, Bool, take, Some}
use Rattle.std.specs.Prelude.{map}
use Rattle.gcx_model.specs.Held.{taken}
use Rattle.gcx_model.specs.Past.{Past}
use Rattle.gcx_base.specs.declared.ids.Role.{Role}
use Rattle.matcher.specs.Matcher.{MatcherAt}
use Rattle.matcher.specs.Ahead.{AreTaken, HasSign}
use Rattle.matcher.proofs.matcher.Matcher.all_ahead.Given as goal

abbrev pub invariant-loop-sign : goal.invariant-loop-sign
invariant-loop-sign l = record {
  told : (past : Past) (text : Bool) (s : MatcherAt l.self past text) → AreTaken (taken past.plan past.tree past.acts s.here) (take l.sign-index l.sign-items) (map (λ (r : Role). r.0) l.given);
  last : (r : ℕ) → l.last ≡ Some r → HasSign (take l.sign-index l.sign-items) r;
}
