-- What holds of the plan of a core holds of each plan that is placed for it.
use Rattle.std.proofs.Common.{ℕ, List, sym, subst}
use Rattle.gcx_model.specs.Tree.{Tree, TreeToken, opening}
use Rattle.gcx_model.specs.Core.{BodyTree, PlanTree}
use Rattle.gcx_model.specs.Cores.{Good}
use Rattle.gcx_model.specs.Placed.{Placed, plan_of}
use Rattle.gcx_model.specs.Points.{CoreState}
use Rattle.placed_laws.specs.Plans.{PlacedOnce}
use Rattle.tree_laws.proofs.Fed.{tree, from_tokens}
use Rattle.placed_laws.proofs.Unique.{placed, unique}
use Rattle.placed_laws.proofs.RunForms.{reached_leads}

pub placed_once : PlacedOnce
placed_once core good = (placed core good, λ plan pl. unique core good plan pl)

-- what holds of plan_of core holds of each plan that is placed
pub from_plan : (core : BodyTree) → Good core → (Q : PlanTree → Type 0) → Q (plan_of core) → (plan : PlanTree) → Placed core plan → Q plan
from_plan core good Q h plan pl = subst Q (sym (unique core good plan pl)) h

-- what holds at each tree of tokens and each number of actions, of plan_of core, holds in each core state, of each plan that is placed
pub from_state : (core : BodyTree) → Good core → (Q : PlanTree → Tree → ℕ → Type 0) → ((ts : List TreeToken) (k : ℕ) → Q (plan_of core) (tree ts) k) → (plan : PlanTree) → Placed core plan → (P : Tree) (k : ℕ) → CoreState plan P k → Q plan P k
from_state core good Q h plan pl P k r = from_plan core good (λ plan. Q plan P k) (from_tokens (λ P. Q (plan_of core) P k) (λ ts. h ts k) P (reached_leads plan opening 0 P k r).0) plan pl
