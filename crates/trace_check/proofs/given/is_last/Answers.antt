use Rattle.std.proofs.Common.{◌∙◌}
use Rattle.trace_check.proofs.Roles.{last_at}
use Rattle.trace_check.proofs.given.is_last.Goals as goal

pub returns-in-Some : goal.returns-in-Some
returns-in-Some c = c.eq.ensures ∙ last_at c.args.roles.now c.args.role c.in-Some.last.now c.in-Some.ensures.value
