use Rattle.gcx_cmd.proofs.CheckEnds.{check_ends}
use Rattle.gcx_cmd.proofs.laws.checks_end_well.Goals as goal

pub returns : goal.returns
returns c = λ ahead q d a b r. (r.ends.2.trace, r.ends.2.told, λ query document trace s u v does told_q told_d told_t. check_ends ahead q d a b r query document trace u v told_q told_d told_t s does)
