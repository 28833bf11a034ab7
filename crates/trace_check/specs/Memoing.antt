-- What is kept of conditions and loops that may be met again (this project's).
use Rattle.std.specs.Prelude.{◌≡◌, ℕ, ◌<◌, List, [], ◌∷◌, length, map, slice_index_or, All, Some, ⊤}
use Rattle.std.specs.BTreeMap.{get}
use Rattle.std.specs.Ordering.{nat_cmp, ordering_then}
use Rattle.std.specs.declared.cmp.Ordering.{Ordering}
use Rattle.gcx_model.specs.CondView.{core_cond_tree}
use Rattle.gcx_model.specs.Core.{CondTree, OperandTree, Always, Exists, Compare, Not, AllOf as all_of, AnyOf, Path, Str, Num}
use Rattle.gcx_model.specs.Paths.{matches}
use Rattle.gcx_model.specs.Tree.{serial_of}
use Rattle.doc_tree.specs.Rows.{node_at}
use Rattle.time_laws.specs.Times.{settled}
use Rattle.trace_check.specs.Scopes.{bound_in, env_of}
use Rattle.trace_check.specs.Settling.{settled_in}
use Rattle.trace_check.specs.Timing.{clock_in}
use Rattle.trace_check.specs.declared.conditions.Settled.{Settled}
use Rattle.trace_check.specs.declared.memo.Kept.{Kept}
use Rattle.trace_check.specs.declared.memo.Memo.{Memo}
use Rattle.trace_check.specs.declared.memo.Turns.{Turns}
use Rattle.trace_check.specs.declared.scope.Binding.{Binding}
use Rattle.trace_check.specs.declared.timed.Timed.{Timed}

-- a condition without connectives
abbrev pub IsAtom : CondTree → Type 0
IsAtom Always = ⊥
IsAtom (Exists x steps) = ⊤
IsAtom (Compare l rel r) = ⊤
IsAtom (Not c) = ⊥
IsAtom (all_of cs) = ⊥
IsAtom (AnyOf cs) = ⊥

-- the node of the variable of a side, 0 of a literal
abbrev pub side_in : List Binding → OperandTree → ℕ
side_in bs (Path x steps) = bound_in 0 x bs
side_in bs (Str b) = 0
side_in bs (Num l) = 0

-- the nodes of a condition's variables
abbrev pub left_in : List Binding → CondTree → ℕ
left_in bs Always = 0
left_in bs (Exists x steps) = bound_in 0 x bs
left_in bs (Compare l rel r) = side_in bs l
left_in bs (Not c) = 0
left_in bs (all_of cs) = 0
left_in bs (AnyOf cs) = 0

abbrev pub right_in : List Binding → CondTree → ℕ
right_in bs Always = 0
right_in bs (Exists x steps) = 0
right_in bs (Compare l rel r) = side_in bs r
right_in bs (Not c) = 0
right_in bs (all_of cs) = 0
right_in bs (AnyOf cs) = 0

-- the order of pairs of numbers
abbrev pub pair_cmp : ℕ × ℕ → ℕ × ℕ → Ordering
pair_cmp x y = ordering_then (nat_cmp x.0 y.0) (nat_cmp x.1 y.1)

-- Wherever its variables are bound to these nodes the condition is settled so.
abbrev pub IsKnownAt : Timed → CondTree → (left right : ℕ) → Settled → Type 0
IsKnownAt t k left right known = (bs : List Binding) → left_in bs k ≡ left → right_in bs k ≡ right
    → settled_in known ≡ settled (clock_in t) t.tree k (env_of t.tree bs)

-- what is kept of the condition is so
abbrev pub IsKnown : Timed → Kept → Type 0
IsKnown t k = (left right : ℕ) (known : Settled) → get pair_cmp k.known (left, right) ≡ Some known
    → IsKnownAt t (core_cond_tree k.cond.now) left right known

-- The entry at this place is of the condition.
pub record IsPlaceOf (place : ℕ) (k : CondTree) (kept : List Kept) : Type 0 where
  pub there : place < length kept
  pub same : (d : Kept) → core_cond_tree (slice_index_or kept place d).cond.now ≡ k

-- these are what the step reaches from the node
abbrev pub AreTurns : Timed → (from : ℕ) → Turns → Type 0
AreTurns t from k = k.nodes.items ≡ map serial_of (matches t.tree (serial_of (node_at t.tree.nodes from)) (k.step.now ∷ []))

-- All that is kept is so: of each condition, and of each loop by its variable and the node that it comes from.
pub record IsMemo (t : Timed) (m : Memo) : Type 0 where
  pub known : All (IsKnown t) m.kept.items
  pub turns : (x from : ℕ) (k : Turns) → get pair_cmp m.turns (x, from) ≡ Some k → AreTurns t from k
