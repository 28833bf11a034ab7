use Rattle.std.proofs.Common.{◌≡◌, ◌≤◌, ℕ, length, take}
use Rattle.gcx_model.specs.Members.{In}
use Rattle.gcx_model.specs.Tree.{Node, TreeToken, grow}
use Rattle.gcx_model.specs.Growth.{level}
use Rattle.gcx_model.specs.Past.{Past}
use Rattle.path_states.specs.Lists.{From, Gains}
use Rattle.matcher.specs.Entering.{Comes, FoundOf, RoleLeads}
use Rattle.matcher.specs.View.{frames_of}
use Rattle.matcher.proofs.found.find_roles.Given as goal

abbrev pub invariant-loop-role : goal.invariant-loop-role
invariant-loop-role l = length l.frames ≤ length l.states.states → (past : Past) (t : TreeToken) (n : Node) → Comes past l.states.tree (frames_of l.states l.frames) t n → level n ≡ l.level → ((r : ℕ) → In r l.roles → RoleLeads past.plan n r)
    → Gains l.fn.found.items l.found.items (From (take l.role-index l.roles) (FoundOf past.plan (grow t past.tree) n))
