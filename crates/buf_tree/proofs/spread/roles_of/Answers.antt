use Rattle.std.proofs.Common.{ap, ◌∙◌, Option}
use Rattle.std.specs.Ordering.{nat_cmp}
use Rattle.std.specs.FinSet.{FinSet, contains, contains-empty}
use Rattle.gcx_model.specs.declared.item.Off.{Off}
use Rattle.buf_tree.specs.Tops.{role_given}
use Rattle.buf_tree.proofs.Tables.{roles_next, roles_all}
use Rattle.buf_tree.proofs.spread.roles_of.Goals as goal

pub loop-slot-init : goal.loop-slot-init
loop-slot-init c = λ r. ap (λ (s : FinSet nat_cmp). contains s r) c.new-roles.ensures ∙ contains-empty nat_cmp r

pub loop-slot-preserved : goal.loop-slot-preserved
loop-slot-preserved c = roles_next c.args.tops.now c.loop-slot.slot-index c.slot-item.result _ _ c.loop-slot-test.true c.loop-slot.invariant
    (c.in_ok-give_role.ensures ∙ ap (λ (o : Option Off). role_given o c.loop-slot.roles) c.slot-item.is)

pub returns : goal.returns
returns c = roles_all c.args.tops.now c.loop-slot.slot-index _ c.loop-slot-test.false c.requires c.loop-slot.invariant
