-- Tokens behind which no action comes.
use Rattle.std.specs.Prelude.{◌≡◌, true, [], ◌⊎◌, Some}
use Rattle.gcx_model.specs.Tree.{Node, Tree, TreeToken, End, opening, grow}
use Rattle.gcx_model.specs.Core.{BodyTree, PlanTree}
use Rattle.gcx_model.specs.Run.{run, env0}
use Rattle.gcx_model.specs.Cores.{Good}
use Rattle.gcx_model.specs.Placed.{Placed}
use Rattle.gcx_model.specs.Held.{roles_given, roles_live}
use Rattle.gcx_model.specs.Growth.{Leads, may_come}
use Rattle.gcx_model.specs.Points.{actions}
use Rattle.gcx_model.specs.Past.{Opens}

-- Where all actions of the run are taken: the token opens a node to which no role is given, or at which none is live; or it closes one at which none is live.
pub data IsQuiet (plan : PlanTree) (P : Tree) (t : TreeToken) : Type 0 where
  by_opening : (n : Node) → Opens P t n → (roles_given plan (grow t P) n ≡ []) ⊎ (roles_live plan (grow t P) (actions plan P) n ≡ []) → IsQuiet plan P t
  by_closing : (p : Node) → t ≡ End → P.at ≡ Some p → roles_live plan P (actions plan P) p ≡ [] → IsQuiet plan P t

-- Behind such a token the run has the same actions, and is done where it was.
abbrev pub QuietToken : Type 0
QuietToken = (core : BodyTree) → Good core → (plan : PlanTree) → Placed core plan → (P : Tree) → Leads opening P → (t : TreeToken) → may_come t P ≡ true → IsQuiet plan P t
    → (actions plan (grow t P) ≡ actions plan P) × ((run plan.body env0 (grow t P)).done ≡ (run plan.body env0 P).done)
