use Rattle.std.proofs.Common.{ltb-true}
use Rattle.path_states.proofs.Looking.{read_at}
use Rattle.path_states.proofs.Naming.{first_before}
use Rattle.path_states.proofs.names.starts_before.Goals as goal

pub returns-in-Some-get : goal.returns-in-Some-get
returns-in-Some-get c = λ h. first_before c.args.one.now c.args.other.now c.in-Some.first.now c.in-Some-get.second.now
    (read_at c.args.one.now 0 c.in-Some.first.now c.in-Some.ensures.lookup.3.0 c.in-Some.ensures.lookup.1)
    (read_at c.args.other.now 0 c.in-Some-get.second.now c.in-Some-get.ensures.lookup.3.0 c.in-Some-get.ensures.lookup.1) (ltb-true _ _ h)
