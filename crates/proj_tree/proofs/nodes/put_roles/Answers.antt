use Rattle.std.proofs.Common.{map, length, arith, refl, sym}
use Rattle.std.proofs.lemmas.List.{length-map}
use Rattle.proj_tree.specs.Projection.{node_tree}
use Rattle.proj_tree.proofs.Growth.{roles_more}
use Rattle.proj_tree.proofs.nodes.put_roles.Goals as goal

pub loop-i-preserved : goal.loop-i-preserved
loop-i-preserved c =
    roles_more (map node_tree c.args.nodes.now) (map node_tree c.loop-i.nodes) (map node_tree c.put_role.new.nodes) (length c.args.nodes.now) (length c.loop-i.nodes) c.args.roles.now c.loop-i.i c.loop-i.i c.index-roles-i.result
    (omega arith) c.index-roles-i.is refl (sym (length-map c.args.nodes.now node_tree)) (sym (length-map c.loop-i.nodes node_tree)) c.loop-i.invariant c.in_ok-put_role.ensures
