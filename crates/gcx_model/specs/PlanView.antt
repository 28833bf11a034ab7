-- How cores and plans of the code are seen as plain trees (this project's).
use Rattle.std.specs.Prelude.{List, map}
use Rattle.gcx_base.specs.declared.ids.VarId.{VarId}
use Rattle.gcx_model.specs.declared.plan.VarRow.{VarRow}
use Rattle.gcx_model.specs.declared.plan.RoleRow.{RoleRow}
use Rattle.gcx_model.specs.declared.plan.Core.{Core}
use Rattle.gcx_model.specs.declared.plan.Plan.{Plan}
use Rattle.gcx_model.specs.Core.{BodyTree, VarRowTree, RoleRowTree, PlanTree}
use Rattle.gcx_model.specs.ItemView.{role_kind, body_tree}

-- a core, and a row for each of its variables from 1
pub record CoreTree : Type 0 where
  pub body : BodyTree
  pub vars : List VarRowTree

abbrev pub var_row_tree : VarRow → VarRowTree
var_row_tree r = record { parent = r.parent.0; step = r.step }

abbrev pub role_row_tree : RoleRow → RoleRowTree
role_row_tree r = record { var = r.var.0; tail = r.tail; kind = role_kind r.kind }

-- the core as a plain tree
abbrev pub core_tree : Core → CoreTree
core_tree c = record { body = body_tree c.body; vars = map var_row_tree c.vars }

-- the plan as a plain tree
abbrev pub plan_tree : Plan → PlanTree
plan_tree p = record { body = body_tree p.body; vars = map var_row_tree p.vars; straight = p.straight; fsa = map (λ (x : VarId). x.0) p.fsa; roles = map role_row_tree p.roles }
