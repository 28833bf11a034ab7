use Rattle.std.proofs.Common.{sym, ◌∙◌}
use Rattle.pull_eval.proofs.Guarding.{not_true}
use Rattle.pull_eval.proofs.position.Position.may_leap.Goals as goal

pub returns : goal.returns
returns g c = λ r d i at. not_true d.row.is_open (sym (c.is_closed.ensures d i at) ∙ r)
