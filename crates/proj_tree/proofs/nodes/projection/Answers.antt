use Rattle.std.proofs.Common.{◌≡◌, ◌++◌, ◌∷◌, List, map, length, get_or, ap, sym, ◌∙◌, subst}
use Rattle.std.proofs.lemmas.List.{length-map}
use Rattle.gcx_base.specs.declared.ids.Role.{Role}
use Rattle.gcx_model.specs.Core.{RoleRowTree}
use Rattle.gcx_model.specs.declared.plan.RoleRow.{RoleRow}
use Rattle.gcx_model.specs.ItemView.{body_tree}
use Rattle.gcx_model.specs.PlanView.{role_row_tree, var_row_tree}
use Rattle.gcx_model.specs.Roles.{roles_of}
use Rattle.gcx_model.specs.Variables.{var_rows}
use Rattle.proj_tree.specs.Own.{own_list}
use Rattle.proj_tree.specs.Projection.{NodeTree, node_tree, root_node, var_nodes, other_nodes, HasRolePaths}
use Rattle.proj_tree.proofs.Growth.{own_count, whole}
use Rattle.proj_tree.proofs.RolePaths.{role_stands}
use Rattle.proj_tree.proofs.nodes.projection.Goals as goal

pub put_vars-requires : goal.put_vars-requires
put_vars-requires c =
    let own : map (λ (r : Role). r.0) c.deref.result.now ≡ own_list 0 (roles_of (body_tree c.args.core.now.body)) =
    ap (map (λ (r : Role). r.0)) c.deref.ensures.value ∙ (c.in_ok-own.ensures ∙ (ap (λ (rs : List RoleRow). own_list 0 (map role_row_tree rs)) c.items.ensures ∙ ap (own_list 0) c.requires.roles)) in
    own_count (body_tree c.args.core.now.body) c.deref.result.now c.items-2.result.now own (ap (map var_row_tree) c.items-2.ensures ∙ c.requires.rows)

pub returns-clause-nodes : goal.returns-clause-nodes
returns-clause-nodes c =
    let own : map (λ (r : Role). r.0) c.deref.result.now ≡ own_list 0 (roles_of (body_tree c.args.core.now.body)) =
    ap (map (λ (r : Role). r.0)) c.deref.ensures.value ∙ (c.in_ok-own.ensures ∙ (ap (λ (rs : List RoleRow). own_list 0 (map role_row_tree rs)) c.items.ensures ∙ ap (own_list 0) c.requires.roles)) in
    let rows : map var_row_tree c.items-2.result.now ≡ var_rows (body_tree c.args.core.now.body) = ap (map var_row_tree) c.items-2.ensures ∙ c.requires.rows in
    let roles : map role_row_tree c.items-3.result.now ≡ roles_of (body_tree c.args.core.now.body) = ap (map role_row_tree) c.items-3.ensures ∙ c.requires.roles in
    whole (body_tree c.args.core.now.body) c.requires.good (map (λ (r : Role). r.0) c.deref.result.now) (map node_tree c.put_vars.new.nodes) (map node_tree c.put_roles.new.nodes) (length c.put_vars.new.nodes) own
    (c.in_ok-put_vars.ensures
    ∙ (λ i. map node_tree (c.new-nodes.ensures i) ++ (root_node (get_or (map (λ (r : Role). r.0) c.deref.result.now) 0 0) ∷ var_nodes (λ x. get_or (map (λ (r : Role). r.0) c.deref.result.now) x 0) 1 (rows i))))
    (sym (length-map c.put_vars.new.nodes node_tree))
    (c.in_ok-put_roles.ensures ∙ ap (λ (rs : List RoleRowTree). map node_tree c.put_vars.new.nodes ++ other_nodes (length c.put_vars.new.nodes) 0 rs) roles)

pub returns-clause-paths : goal.returns-clause-paths
returns-clause-paths c = subst (λ (ns : List NodeTree). HasRolePaths (body_tree c.args.core.now.body) ns) (sym (returns-clause-nodes c)) (role_stands (body_tree c.args.core.now.body) c.requires.good)
