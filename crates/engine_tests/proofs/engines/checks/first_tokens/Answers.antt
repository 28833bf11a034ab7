use Rattle.engine_tests.proofs.Tokens.{first_come}
use Rattle.engine_tests.proofs.engines.checks.first_tokens.Goals as goal

pub returns : goal.returns
returns c = first_come c.args.count c.in_ok-tokens.tokens.items c.truncate.new.self.items c.truncate.ensures.items c.in_ok-tokens.ensures.comes
