use Rattle.std.proofs.Common.{◌≡◌, ◌-◌, suc, length}
use Rattle.cond_eval.specs.Bindings.{bindings}
use Rattle.cond_eval.proofs.env.Env.bind.Given as goal

abbrev pub invariant-loop-self : goal.invariant-loop-self
invariant-loop-self l = bindings l.self-inside.nodes.items ≡ bindings l.initial.self-inside.nodes.items

abbrev pub decreases-loop-self : goal.decreases-loop-self
decreases-loop-self l = suc l.index - length l.self-inside.nodes.items
