use Rattle.std.proofs.Common.{ℕ, Bool, List, subst, sym}
use Rattle.gcx_base.specs.Limits.{full_limits}
use Rattle.doc_reader.specs.Standing.{Stands, Token}
use Rattle.engine_tests.proofs.Tokens.{given_comes, given_within}
use Rattle.engine_tests.proofs.engines.turns.given_by.Goals as goal

pub returns-clause-comes : goal.returns-clause-comes
returns-clause-comes c = given_comes c.given.reader c.given.invariant.0 c.given.invariant.1 c.given.tokens.items c.given.invariant.2

pub returns-clause-within : goal.returns-clause-within
returns-clause-within c = given_within c.given.reader c.given.invariant.0 c.given.invariant.1 c.given.tokens.items c.given.invariant.2

pub given-init : goal.given-init
given-init c = subst (λ (tokens : List Token). (b : List ℕ) × (ended : Bool) × Stands c.args.reader full_limits b ended tokens) (sym c.new-tokens.ensures.items) c.requires
