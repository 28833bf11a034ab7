use Rattle.std.proofs.Common.{◌≡◌, sym, subst}
use Rattle.gcx_base.specs.declared.steps.Axis.{Axis}
use Rattle.path_states.specs.Branches.{branches_by}
use Rattle.path_states.proofs.branches.Branches.by.Goals as goal

pub returns-in-Child : goal.returns-in-Child
returns-in-Child c = subst (λ (a : Axis). c.deref.result.now ≡ branches_by a c.args.self.now) (sym c.in-Child.is) c.deref.ensures.value

pub returns-in-Descendant : goal.returns-in-Descendant
returns-in-Descendant c = subst (λ (a : Axis). c.deref-in-Descendant.result.now ≡ branches_by a c.args.self.now) (sym c.in-Descendant.is) c.deref-in-Descendant.ensures.value
