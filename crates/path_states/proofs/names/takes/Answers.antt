use Rattle.std.proofs.Common.{◌≡◌, length, leb, ltb, sym, subst}
use Rattle.gcx_base.specs.Tests.{passes}
use Rattle.gcx_base.specs.declared.steps.Test.{Test}
use Rattle.path_states.proofs.Naming.{takes_named, takes_elements, takes_texts}
use Rattle.path_states.proofs.names.takes.Goals as goal

pub returns-in-Named : goal.returns-in-Named
returns-in-Named c = λ kind is knows. subst (λ (t : Test). c.is_at.result ≡ passes t kind) (sym c.in-Named.is)
    (takes_named c.args.names.now c.args.number c.in-Named.name c.is_at.result c.is_at.ensures kind is (knows c.in-Named.name c.in-Named.is))

pub returns-in-AnyElement : goal.returns-in-AnyElement
returns-in-AnyElement c = λ kind is knows. subst (λ (t : Test). leb c.args.number (length c.args.names.now) ≡ passes t kind) (sym c.in-AnyElement.is) (takes_elements c.args.names.now c.args.number kind is)

pub returns-in-AnyText : goal.returns-in-AnyText
returns-in-AnyText c = λ kind is knows. subst (λ (t : Test). ltb (length c.args.names.now) c.args.number ≡ passes t kind) (sym c.in-AnyText.is) (takes_texts c.args.names.now c.args.number kind is)
