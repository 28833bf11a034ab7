use Rattle.std.proofs.Common.{map, arith, refl}
use Rattle.gcx_base.specs.declared.ids.Role.{Role}
use Rattle.proj_tree.proofs.Owned.{own_more}
use Rattle.proj_tree.proofs.nodes.own_roles.Goals as goal

pub loop-i-preserved : goal.loop-i-preserved
loop-i-preserved c =
    own_more (map (λ (r : Role). r.0) c.loop-i.own.items) (map (λ (r : Role). r.0) c.put_own.new.own.items) c.args.roles.now c.loop-i.i c.loop-i.i c.index-roles-i.result
    (omega arith) c.index-roles-i.is refl c.loop-i.invariant c.in_ok-put_own.ensures
