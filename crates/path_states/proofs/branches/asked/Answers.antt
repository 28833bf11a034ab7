use Rattle.std.proofs.Common.{ℕ, List, length, refl, sym, subst}
use Rattle.gcx_base.specs.declared.kind.Kind.TheVariants.{Element}
use Rattle.gcx_base.specs.declared.steps.Test.{Test}
use Rattle.path_states.specs.Branches.{IsAskedNumber}
use Rattle.path_states.specs.Names.{IsNameNumber}
use Rattle.path_states.proofs.branches.asked.Goals as goal

pub returns-in-Named : goal.returns-in-Named
returns-in-Named c = λ up. subst (λ (t : Test). IsAskedNumber c.args.names.now t c.number_in.result) (sym c.in-Named.is)
    (subst (λ (z : List ℕ). IsNameNumber c.args.names.now (Element z) c.number_in.result) c.as_bytes.ensures.bytes (c.number_in.ensures up))

pub returns-in-AnyElement : goal.returns-in-AnyElement
returns-in-AnyElement c = λ up. subst (λ (t : Test). IsAskedNumber c.args.names.now t (length c.args.names.now)) (sym c.in-AnyElement.is) refl

pub returns-in-AnyText : goal.returns-in-AnyText
returns-in-AnyText c = λ up. subst (λ (t : Test). IsAskedNumber c.args.names.now t (length c.args.names.now)) (sym c.in-AnyText.is) refl

pub returns-in-AnyNode : goal.returns-in-AnyNode
returns-in-AnyNode c = λ up. subst (λ (t : Test). IsAskedNumber c.args.names.now t (length c.args.names.now)) (sym c.in-AnyNode.is) refl
