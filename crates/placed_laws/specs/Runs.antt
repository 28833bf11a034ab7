-- Runs over a tree that grows, the points of a run, and the demand run.
use Rattle.std.specs.Prelude.{◌≡◌}
use Rattle.std.specs.Prelude.{ℕ}
use Rattle.std.specs.Prelude.{true}
use Rattle.std.specs.Prelude.{List}
use Rattle.std.specs.Prelude.{◌++◌}
use Rattle.std.specs.Prelude.{length}
use Rattle.gcx_model.specs.Tree.{Tree}
use Rattle.gcx_model.specs.Tree.{opening}
use Rattle.gcx_model.specs.Tree.{TreeToken}
use Rattle.gcx_model.specs.Tree.{grow}
use Rattle.gcx_model.specs.Members.{In}
use Rattle.gcx_model.specs.Core.{BodyTree}
use Rattle.gcx_model.specs.Core.{PlanTree}
use Rattle.gcx_model.specs.Truth.{Env}
use Rattle.gcx_model.specs.Run.{Action}
use Rattle.gcx_model.specs.Run.{Out}
use Rattle.gcx_model.specs.Run.{run}
use Rattle.gcx_model.specs.Run.{env0}
use Rattle.gcx_model.specs.Growth.{Leads}
use Rattle.gcx_model.specs.Points.{actions}
use Rattle.gcx_model.specs.Points.{so_far}
use Rattle.gcx_model.specs.Points.{CoreState}
use Rattle.gcx_model.specs.Points.{Frame}
use Rattle.gcx_model.specs.Points.{to_come}
use Rattle.gcx_model.specs.Points.{PointAt}
use Rattle.tree_laws.specs.Growth.{AllClosed}
use Rattle.gcx_model.specs.Tree.{grow_all}
use Rattle.gcx_model.specs.Growth.{may_come}
use Rattle.gcx_model.specs.Growth.{may_all}

-- the actions of a are a front of those of b, and all of them where a is done
abbrev pub GoesOn : Out → Out → Type 0
GoesOn a b = ((rest : List Action) × (b.acts ≡ a.acts ++ rest)) × (a.done ≡ true → b ≡ a)

-- each variable is bound to a node of the tree
abbrev pub InTree : Env → Tree → Type 0
InTree env P = (x : ℕ) → In (env x) P.nodes

-- Prefix law
abbrev pub PrefixLaw : Type 0
PrefixLaw = (P Q : Tree) → Leads opening P → Leads P Q → (d : BodyTree) (env : Env) → InTree env P → GoesOn (run d env P) (run d env Q)

-- Closed law
abbrev pub ClosedLaw : Type 0
ClosedLaw = (P : Tree) → Leads opening P → AllClosed P → (d : BodyTree) (env : Env) → InTree env P → (run d env P).done ≡ true

-- Behind the first k actions there is a point. From each of them on, all that is to come follows on these actions.
abbrev pub PointLaw : Type 0
PointLaw = (plan : PlanTree) (P : Tree) (k : ℕ) → (fs : List Frame) × PointAt plan P k fs

abbrev pub ResumeLaw : Type 0
ResumeLaw = (plan : PlanTree) (P : Tree) → Leads opening P → (k : ℕ) (fs : List Frame) → PointAt plan P k fs
    → (actions plan P ≡ so_far plan P k ++ (to_come P fs).acts) × ((run plan.body env0 P).done ≡ (to_come P fs).done)

-- The demand run goes through core states: those in which every action is taken, and those just behind a token.
abbrev pub DemandIsReached : Type 0
DemandIsReached = (plan : PlanTree) (ts : List TreeToken) → may_all ts opening ≡ true
    → CoreState plan (grow_all ts opening) (length (actions plan (grow_all ts opening)))
    × ((t : TreeToken) → may_come t (grow_all ts opening) ≡ true → CoreState plan (grow t (grow_all ts opening)) (length (actions plan (grow_all ts opening)))
    × (so_far plan (grow t (grow_all ts opening)) (length (actions plan (grow_all ts opening))) ≡ actions plan (grow_all ts opening)))
