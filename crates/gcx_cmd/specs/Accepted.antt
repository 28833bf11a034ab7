-- A query that is accepted, and its plan (this project's).
use Rattle.std.specs.Prelude.{◌≢◌, List, ℕ, ⊤}
use Rattle.gcx_model.specs.declared.fault.QueryFault.TheVariants as fault
use Rattle.gcx_model.specs.PlanView.{plan_tree}
use Rattle.gcx_model.specs.Query.{query_trees}
use Rattle.xq_parse.specs.Faults.{HasOnlyQuery}
use Rattle.gcx_cmd.specs.Main.{Accepts}
use Rattle.gcx_cmd.specs.Running.{IsPlanOf}
use Rattle.gcx_cmd.specs.declared.query.Accepted.{Accepted}
use Rattle.gcx_cmd.specs.declared.status.Status.{Status}
use Rattle.gcx_cmd.specs.declared.status.Status.TheVariants as status

-- The bytes spell this query and no other one; its core passes no limit, and this is its plan.
pub record IsAcceptedOf (bytes : List ℕ) (a : Accepted) : Type 0 where
  pub accepts : Accepts bytes (query_trees a.query)
  pub only : HasOnlyQuery bytes (query_trees a.query)
  pub plan_is : IsPlanOf (query_trees a.query) (plan_tree a.plan)

-- a query is refused, or memory ran out
abbrev pub EndsQuery : Status → Type 0
EndsQuery (status.QueryRefused f) = f ≢ fault.Memory
EndsQuery status.Memory = ⊤
EndsQuery s = ⊥
