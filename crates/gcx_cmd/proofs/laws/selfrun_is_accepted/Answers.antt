use Rattle.gcx_cmd.proofs.SelfDocument.{made_document}
use Rattle.gcx_cmd.proofs.SelfQuery.{self_tree, self_accepted}
use Rattle.gcx_cmd.proofs.laws.selfrun_is_accepted.Goals as goal

pub returns : goal.returns
returns c = ((self_tree, self_accepted), made_document)
