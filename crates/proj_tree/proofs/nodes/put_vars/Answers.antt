use Rattle.std.proofs.Common.{◌+◌, map, get_or, arith}
use Rattle.gcx_base.specs.declared.ids.Role.{Role}
use Rattle.proj_tree.specs.Projection.{node_tree, root_node}
use Rattle.proj_tree.proofs.Growth.{vars_more, role_at}
use Rattle.proj_tree.proofs.nodes.put_vars.Goals as goal

pub loop-i-preserved : goal.loop-i-preserved
loop-i-preserved c =
    let other : Role = record { 0 = 0 } in
    vars_more (λ x. get_or (map (λ (r : Role). r.0) c.args.own.now) x 0) (root_node (get_or (map (λ (r : Role). r.0) c.args.own.now) 0 0)) (map node_tree c.args.nodes.now) (map node_tree c.loop-i.nodes) (map node_tree c.put_var.new.nodes)
    c.args.vars.now c.loop-i.i (get_or c.args.own.now (c.loop-i.i + 1) other).0 c.index-vars-i.result (omega arith) c.index-vars-i.is (role_at c.args.own.now (c.loop-i.i + 1) other (omega arith)) c.loop-i.invariant c.in_ok-put_var.ensures
