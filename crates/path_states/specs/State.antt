-- The states of nodes (this project's; lazily built automata over XML streams: XMLTK 2002, YFilter 2003).
use Rattle.std.specs.Prelude.{◌≡◌, ◌⊎◌, ◌↔◌, ℕ, Bool, true, false, List, [], ◌∷◌, refl}
use Rattle.std.specs.Coded.{Coded, code_by, coded×, coded_ℕ, coded_bool, coded_list}
use Rattle.std.specs.Ordering.{nat_cmp}
use Rattle.std.specs.FinSet as set
use Rattle.gcx_base.specs.declared.kind.Kind.{Kind}
use Rattle.gcx_model.specs.Members.{In}
use Rattle.path_states.specs.Active.{ActiveBelow, Tells, Waits, child_edges_of}
use Rattle.path_states.specs.Lists.{Climbs, From, Gains, Holds}
use Rattle.path_states.specs.declared.paths.PathState.{PathState}

-- What a contract sees of a state: the path states whose paths lead to the node; those of them and of the nodes above it with a descendant step behind them;
-- the roles of the whole subtrees in which it lies, and those of them whose paths lead to it; the roles that it gives, as a list and as a set; a set of those that it doesn't give from above;
-- those of whole subtrees as a set; the roles of which it is a context; whether it may be a first match; and whether no path leads below it. The lists of roles rise.
pub record StateView : Type 0 where
  pub active : List ℕ
  pub pending : List ℕ
  pub whole : List ℕ
  pub whole_here : List ℕ
  pub given : List ℕ
  pub roles : set.FinSet nat_cmp
  pub kept : set.FinSet nat_cmp
  pub whole_set : set.FinSet nat_cmp
  pub contexts : List ℕ
  pub has_firsts : Bool
  pub is_over : Bool

abbrev pub state_code : Coded StateView
state_code =
    code_by
    (List ℕ × (List ℕ × (List ℕ × (List ℕ × (List ℕ × (set.FinSet nat_cmp × (set.FinSet nat_cmp × (set.FinSet nat_cmp × (List ℕ × (Bool × Bool))))))))))
    (coded× (coded_list coded_ℕ) (coded× (coded_list coded_ℕ) (coded× (coded_list coded_ℕ) (coded× (coded_list coded_ℕ) (coded× (coded_list coded_ℕ) (coded× (set.code coded_ℕ) (coded× (set.code coded_ℕ) (coded× (set.code coded_ℕ) (coded× (coded_list coded_ℕ) (coded× coded_bool coded_bool))))))))))
    (λ s. (s.active, (s.pending, (s.whole, (s.whole_here, (s.given, (s.roles, (s.kept, (s.whole_set, (s.contexts, (s.has_firsts, s.is_over)))))))))))
    (λ p. record { active = p.0; pending = p.1.0; whole = p.1.1.0; whole_here = p.1.1.1.0; given = p.1.1.1.1.0; roles = p.1.1.1.1.1.0; kept = p.1.1.1.1.1.1.0; whole_set = p.1.1.1.1.1.1.1.0; contexts = p.1.1.1.1.1.1.1.1.0; has_firsts = p.1.1.1.1.1.1.1.1.1.0; is_over = p.1.1.1.1.1.1.1.1.1.1 })
    (λ _. refl)

-- the roles that each match of a path is given, with its subtree or alone; those that a first match is given, and those of which each match is a context
abbrev pub whole_roles : PathState → List ℕ
whole_roles s = s.whole.items

abbrev pub own_roles : PathState → List ℕ
own_roles s = s.own.items

abbrev pub first_roles : PathState → List ℕ
first_roles s = s.first.items

abbrev pub context_roles : PathState → List ℕ
context_roles s = s.context.items

-- a node is given the role with its subtree, or as a match of a path that leads to it
abbrev pub GivenBy : List PathState → (whole active : List ℕ) → ℕ → Type 0
GivenBy tree whole active r = In r whole ⊎ From active (Tells own_roles tree) r

-- no path leads below a node where these path states are active and pending
pub record AreDead (tree : List PathState) (active waiting : List ℕ) : Type 0 where
  pub pending : waiting ≡ []
  pub child_edges : (c : ℕ) → From active (Tells child_edges_of tree) c → ⊥

-- A state is the one that its parts make: what it gives follows from its active path states and its roles of whole subtrees.
pub record IsMade (tree : List PathState) (s : StateView) : Type 0 where
  pub climbs : Climbs s.whole
  pub here : Holds s.whole_here (From s.active (Tells whole_roles tree))
  pub rising : Climbs s.given
  pub given : Holds s.given (GivenBy tree s.whole s.active)
  pub roles : (r : ℕ) → set.contains s.roles r ≡ true ↔ In r s.given
  pub kept : (r : ℕ) → set.contains s.kept r ≡ true ↔ GivenBy tree s.whole_here s.active r
  pub wholes : (r : ℕ) → set.contains s.whole_set r ≡ true ↔ In r s.whole
  pub contexts : Holds s.contexts (From s.active (Tells context_roles tree))
  pub firsts : s.has_firsts ≡ false → (r : ℕ) → From s.active (Tells first_roles tree) r → ⊥
  pub over : s.is_over ≡ true → AreDead tree s.active s.pending

-- two states have the same parts
pub record HaveSameParts (one other : StateView) : Type 0 where
  pub active : one.active ≡ other.active
  pub pending : one.pending ≡ other.pending
  pub whole : one.whole ≡ other.whole

-- what a node gathers beside these of the node above it
pub record Gathers (tree : List PathState) (waiting given : List ℕ) (s : StateView) : Type 0 where
  pub pending : Gains waiting s.pending (From s.active (Waits tree))
  pub whole : Gains given s.whole (From s.active (Tells whole_roles tree))

-- the state of the document node
pub record StartsAs (tree : List PathState) (s : StateView) : Type 0 where
  pub active : s.active ≡ 0 ∷ []
  pub gathers : Gathers tree [] [] s

-- the state of a node of this kind below a node of the other state
pub record MovesBelow (tree : List PathState) (above : StateView) (kind : Kind) (s : StateView) : Type 0 where
  pub active : Holds s.active (ActiveBelow tree above.active above.pending kind)
  pub gathers : Gathers tree above.pending above.whole s
