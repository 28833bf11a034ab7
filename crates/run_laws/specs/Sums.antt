-- How the sums of the roles that are given and of those that are taken back go on.
use Rattle.std.specs.Prelude.{◌≡◌, ℕ, ◌+◌, ◌*◌, ◌≤◌, true, List, [], ◌∷◌, ◌++◌, length, filter}
use Rattle.gcx_model.specs.Tree.{Node, serial_of, Tree, TreeToken, opening, grow}
use Rattle.gcx_model.specs.Members.{In}
use Rattle.gcx_model.specs.Core.{BodyTree, OffTree, PlanTree}
use Rattle.gcx_model.specs.Run.{Action, Wrote, Offed}
use Rattle.gcx_model.specs.Cores.{Good}
use Rattle.gcx_model.specs.Placed.{offs_in, Placed}
use Rattle.gcx_model.specs.Held.{live, held, roles_given, roles_taken, sum_given, sum_taken}
use Rattle.gcx_model.specs.Growth.{Leads, may_come}
use Rattle.gcx_model.specs.Points.{actions}
use Rattle.gcx_model.specs.Past.{Past, IsPast, Opens}
use Rattle.tree_laws.specs.Growth.{AllClosed}
use Rattle.past_laws.specs.Pasts.{bases}

-- A token that opens a node adds the roles that this one is given, and those of them that are taken back in advance; another token adds none.
abbrev pub SumsByFeed : Type 0
SumsByFeed = (past : Past) → IsPast past → (t : TreeToken) → may_come t past.tree ≡ true
    → ((n : Node) → Opens past.tree t n
    → (sum_given past.plan (grow t past.tree) ≡ sum_given past.plan past.tree + length (roles_given past.plan (grow t past.tree) n))
    × (sum_taken past.plan (grow t past.tree) past.acts ≡ sum_taken past.plan past.tree past.acts + length (roles_taken past.plan (grow t past.tree) past.acts n)))
    × ((grow t past.tree).nodes ≡ past.tree.nodes
    → (sum_given past.plan (grow t past.tree) ≡ sum_given past.plan past.tree) × (sum_taken past.plan (grow t past.tree) past.acts ≡ sum_taken past.plan past.tree past.acts))

-- the held nodes at which the role is live
abbrev pub live_at : PlanTree → Tree → List Action → (role : ℕ) → List Node
live_at plan P A r = filter (λ n. live plan P A n r) (held plan P A)

-- A statement that is carried out takes its role back from the nodes that had it live and have it live no more, all of which were held; a write takes none.
abbrev pub SumsByAct : Type 0
SumsByAct = (past : Past) → IsPast past
    → ((s : OffTree) (m : Node) → In s (offs_in past.plan.body) → In m (bases past s)
    → sum_taken past.plan past.tree (past.acts ++ Offed s (serial_of m) ∷ []) + length (live_at past.plan past.tree (past.acts ++ Offed s (serial_of m) ∷ []) s.role)
    ≡ sum_taken past.plan past.tree past.acts + length (live_at past.plan past.tree past.acts s.role))
    × ((b : List ℕ) → sum_taken past.plan past.tree (past.acts ++ Wrote b ∷ []) ≡ sum_taken past.plan past.tree past.acts)

-- At the end all that was given is taken back; never is more, and to no node more is given than there are roles.
abbrev pub TakenIsGiven : Type 0
TakenIsGiven =
    ((core : BodyTree) → Good core → (plan : PlanTree) → Placed core plan → (P : Tree) → Leads opening P → AllClosed P → sum_taken plan P (actions plan P) ≡ sum_given plan P)
    × ((plan : PlanTree) (P : Tree) (A : List Action) → (sum_taken plan P A ≤ sum_given plan P) × (sum_given plan P ≤ length P.nodes * length plan.roles))
