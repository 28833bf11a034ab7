-- What grows and what stays while tokens come, and how the open nodes lie.
use Rattle.std.specs.Prelude.{◌≡◌, ℕ, ◌≤◌, false, List, ◌++◌, length, filter, Some}
use Rattle.gcx_base.specs.declared.steps.Step.{Step}
use Rattle.gcx_model.specs.Tree.{Node, serial_of, above, Tree, opening, is_closed}
use Rattle.gcx_model.specs.Paths.{hits, matches}
use Rattle.gcx_model.specs.Members.{In}
use Rattle.gcx_model.specs.Core.{CondTree, RoleRowTree}
use Rattle.gcx_model.specs.declared.truth.Truth.TheVariants.{Unknown}
use Rattle.gcx_model.specs.Truth.{Env, truth}
use Rattle.gcx_model.specs.Roles.{cond_rows}
use Rattle.gcx_model.specs.Growth.{Leads}

-- The nodes of an open tree stay in front while tokens come, and the new ones have the next numbers. So the matches of each path stay in front of those among the new nodes,
abbrev pub NodesGrow : Type 0
NodesGrow = (P Q : Tree) → Leads opening P → Leads P Q
    → (more : List Node) × (Q.nodes ≡ P.nodes ++ more) × ((m : Node) → In m more → length P.nodes ≤ serial_of m)
    × ((n : ℕ) (path : List Step) → matches Q n path ≡ matches P n path ++ filter (hits n path) more)

-- and each new match has a number that no node had.
abbrev pub MatchesGrow : Type 0
MatchesGrow = (P Q : Tree) → Leads opening P → Leads P Q → (n : ℕ) (path : List Step)
    → (new : List Node) × (matches Q n path ≡ matches P n path ++ new) × ((m : Node) → In m new → length P.nodes ≤ serial_of m)

-- A truth that is known stays, where the variables of the condition are bound to nodes that were there.
abbrev pub TruthStays : Type 0
TruthStays = (P Q : Tree) → Leads opening P → Leads P Q → (c : CondTree) (env : Env) → ((r : RoleRowTree) → In r (cond_rows c) → In (env r.var) P.nodes)
    → (truth c env P ≡ Unknown → ⊥) → truth c env Q ≡ truth c env P

-- The open nodes are a chain: they are the innermost open one and those above it, and of two of them the one with the smaller number is the other one or above it.
abbrev pub OpenChain : Type 0
OpenChain = (P : Tree) → Leads opening P
    → ((n : Node) → In n P.nodes → is_closed P n ≡ false → (p : Node) × (P.at ≡ Some p) × In n (above p))
    × ((p n : Node) → P.at ≡ Some p → In n (above p) → In n P.nodes × (is_closed P n ≡ false))
    × ((a b : Node) → In a P.nodes → In b P.nodes → is_closed P a ≡ false → is_closed P b ≡ false → serial_of a ≤ serial_of b → In a (above b))
