-- The states of the open nodes of a document (this project's).
use Rattle.std.specs.Prelude.{◌≡◌, ◌<◌, ◌-◌, ◌⊎◌, max, ℕ, false, List, [], ◌∷◌, ◌++◌, length, take, map, Option, Some, slice_get, slice_index_or, refl}
use Rattle.std.specs.Coded.{Coded, code_by, coded×, coded_ℕ, coded_list}
use Rattle.std.specs.FinSet as set
use Rattle.gcx_base.specs.declared.kind.Kind.{Kind}
use Rattle.gcx_model.specs.Members.{In}
use Rattle.path_states.specs.Names.{IsNameNumber}
use Rattle.path_states.specs.State.{StateView, IsMade, MovesBelow, state_code}
use Rattle.path_states.specs.declared.paths.PathTree.{PathTree}

-- What a contract sees of the states of the open nodes: the path tree, the names in order, and the states, that of the document node first;
-- and how many states, in how many bytes with their moves, are remembered at most.
pub record StatesView : Type 0 where
  pub tree : PathTree
  pub names : List (List ℕ)
  pub states : List StateView
  pub most_states : ℕ
  pub most_bytes : ℕ

abbrev pub states_code : Coded PathTree → Coded StatesView
states_code tree =
    code_by
    (PathTree × (List (List ℕ) × (List StateView × (ℕ × ℕ))))
    (coded× tree (coded× (coded_list (coded_list coded_ℕ)) (coded× (coded_list state_code) (coded× coded_ℕ coded_ℕ))))
    (λ v. (v.tree, (v.names, (v.states, (v.most_states, v.most_bytes)))))
    (λ p. record { tree = p.0; names = p.1.0; states = p.1.1.0; most_states = p.1.1.1.0; most_bytes = p.1.1.1.1 })
    (λ _. refl)

-- the state of the innermost open node
abbrev pub last_state : List StateView → Option StateView
last_state ss = slice_get ss (length ss - 1)

-- those of the other open nodes; that of the document node stays
abbrev pub outer_states : List StateView → List StateView
outer_states ss = take (max 1 (length ss - 1)) ss

-- one state more, behind the others: that of a node whose name has the number
pub record Enters (before now : StatesView) (number : ℕ) : Type 0 where
  pub state : StateView
  pub is : now ≡ record before { states = before.states ++ state ∷ [] }
  pub made : IsMade before.tree.states.items state
  pub leads : (above : StateView) (kind : Kind) → last_state before.states ≡ Some above → IsNameNumber before.names kind number → MovesBelow before.tree.states.items above kind state

-- no state
abbrev pub no_state : StateView
no_state = record { active = []; pending = []; whole = []; whole_here = []; given = []; roles = set.empty; kept = set.empty; whole_set = set.empty; contexts = []; has_firsts = false; is_over = false }

-- the states with these numbers
abbrev pub states_at : List StateView → List ℕ → List StateView
states_at known numbers = map (λ n. slice_index_or known n no_state) numbers

-- those that aren't kept stand in the order in which they are forgotten: each number is below the later ones
abbrev pub ForgetInOrder : (kept : ℕ) → List ℕ → Type 0
ForgetInOrder kept [] = Unit {0}
ForgetInOrder kept (n ∷ ns) = ((m : ℕ) → In m ns → (m < kept) ⊎ (n < m)) × ForgetInOrder kept ns
