-- Which closed matches of a path were taken, and what each call tells of the others (this project's: each match is looked at once).
use Rattle.std.specs.Prelude.{◌≡◌, ◌<◌, ◌≤◌, ◌+◌, ◌-◌, ◌⊎◌, ℕ, Bool, true, cond, ltb, List, [], ◌∷◌, length, Option, Some, None}
use Rattle.gcx_base.specs.declared.ids.Serial.{Serial}
use Rattle.gcx_base.specs.declared.steps.Step.{Step}
use Rattle.gcx_model.specs.Tree.{Node, serial_of, Tree, is_closed}
use Rattle.gcx_model.specs.Paths.{matches, value}
use Rattle.gcx_model.specs.Members.{In}
use Rattle.node_store.specs.declared.store.Place.{Place}
use Rattle.buf_tree.specs.Shape.{Cell}
use Rattle.buf_tree.specs.View.{View, serial_at}
use Rattle.cond_eval.specs.Comparing.{KeepsMatches}
use Rattle.cond_eval.specs.Reads.{NodeAt}
use Rattle.cond_memo.specs.Waiting.{Fits, IsOpenNow, WasOpen}
use Rattle.cond_memo.specs.declared.taken.Taken.{Taken}

-- ---- what was taken

-- Of these matches those with smaller serials were looked at. Each is closed and its value is among these, or it was open then; of those the innermost is kept. Each of these values is that of a closed match.
pub record TookUpto (P : Tree) (ms : List Node) (waiting : Option Serial) (below : ℕ) (vs : List (List ℕ)) : Type 0 where
  pub most : below ≤ length P.nodes
  pub each : (j : Node) → In j ms → serial_of j < below → ((is_closed P j ≡ true) × In (value P j) vs) ⊎ WasOpen P waiting j
  pub open_in : (s : Serial) → waiting ≡ Some s → (o : Node) × In o ms × (serial_of o ≡ s.0) × (s.0 < below)
  pub closed : (v : List ℕ) → In v vs → (j : Node) × In j ms × (is_closed P j ≡ true) × (value P j ≡ v)

-- all closed matches were taken
abbrev pub TookAll : Tree → List Node → List (List ℕ) → Type 0
TookAll P ms vs = (j : Node) → In j ms → is_closed P j ≡ true → In (value P j) vs

-- These are the values of the matches that were taken from the path's node: none before the first question.
pub record IsTaken (t : Taken) (P : Tree) (vs : List (List ℕ)) : Type 0 where
  pub fits : Fits t.steps t.last
  pub none : t.of ≡ None → vs ≡ []
  pub told : (s : Serial) → t.of ≡ Some s
      → (n : Node) × In n P.nodes × (serial_of n ≡ s.0) × TookUpto P (matches P (serial_of n) t.steps) t.waiting t.below vs

-- ---- what is asked

-- the path is asked about at the node n, whose row is at the place: all matches are kept, with their subtrees
pub record AsksPath (v : View) (p : ℕ) (steps : List Step) (P : Tree) (keep : Node → Bool) (n : Node) : Type 0 where
  pub at : NodeAt v.rows P keep p n
  pub count : length P.nodes ≡ v.nodes
  pub kept : KeepsMatches P keep n steps

-- over some tree it is, and some values were taken
pub record MayTake (v : View) (k : Taken) (p : ℕ) : Type 0 where
  pub tree : Tree
  pub keep : Node → Bool
  pub node : Node
  pub values : List (List ℕ)
  pub asks : AsksPath v p k.steps tree keep node
  pub took : TookUpto tree (matches tree (serial_of node) k.steps) k.waiting k.below values

-- ---- the next one

-- The row at the place is that of the closed match m, which comes next: it is the one that is kept of those that were open, or the first of those that weren't looked at, where what was open still is.
pub record IsUntaken (rows : List Cell) (P : Tree) (keep : Node → Bool) (ms : List Node) (waiting : Option Serial) (below q : ℕ) (m : Node) : Type 0 where
  pub at : NodeAt rows P keep q m
  pub among : In m ms
  pub closed : is_closed P m ≡ true
  pub serial : serial_at q rows ≡ serial_of m
  pub comes : ((s : Serial) × (waiting ≡ Some s) × (s.0 ≡ serial_of m)) ⊎ ((serial_of m ≡ below) × IsOpenNow P waiting)

-- it does, over a tree for which some values were taken
pub record MayTakeAt (v : View) (k : Taken) (p q : ℕ) : Type 0 where
  pub may : MayTake v k p
  pub match_at : Node
  pub untaken : IsUntaken v.rows may.tree may.keep (matches may.tree (serial_of may.node) k.steps) k.waiting k.below q match_at

-- the next closed match, or all were taken
abbrev pub NextUntaken : View → Tree → (keep : Node → Bool) → List Node → (waiting : Option Serial) → (below : ℕ) → List (List ℕ) → Option Place → Type 0
NextUntaken v P keep ms w b vs None = TookAll P ms vs
NextUntaken v P keep ms w b vs (Some q) = (m : Node) × IsUntaken v.rows P keep ms w b q.0 m

-- ---- how many are left

-- At most so many matches are left to take, where this one is next: those that were open stand below the bound, and come first.
abbrev pub takes_left : View → (below : ℕ) → Option Place → ℕ
takes_left v b None = 0
takes_left v b (Some q) = cond (ltb (serial_at q.0 v.rows) b) (v.nodes + 1 + serial_at q.0 v.rows) (v.nodes - serial_at q.0 v.rows)

-- and so many before it is known which one is next
abbrev pub waits_left : View → Option Serial → ℕ
waits_left v None = v.nodes
waits_left v (Some s) = v.nodes + 1 + s.0

-- ---- what is told

-- no more is changed than how far its matches were taken
abbrev pub TakesMore : (before now : Taken) → Type 0
TakesMore k l = l ≡ record k { below = l.below; waiting = l.waiting }

-- a search for the next one takes none
abbrev pub FindsUntaken : View → (k l : Taken) → (p : ℕ) → Option Place → Type 0
FindsUntaken v k l p r = (P : Tree) (keep : Node → Bool) (n : Node) (vs : List (List ℕ)) → AsksPath v p k.steps P keep n
    → TookUpto P (matches P (serial_of n) k.steps) k.waiting k.below vs
    → TookUpto P (matches P (serial_of n) k.steps) l.waiting l.below vs
    × NextUntaken v P keep (matches P (serial_of n) k.steps) l.waiting l.below vs r × (takes_left v l.below r ≤ waits_left v k.waiting)

-- its value is one of those that were taken, and the next one is told
abbrev pub TakesUntaken : View → (k l : Taken) → (p : ℕ) → (q : Place) → Option Place → Type 0
TakesUntaken v k l p q r = (P : Tree) (keep : Node → Bool) (n m : Node) (vs : List (List ℕ)) → AsksPath v p k.steps P keep n
    → TookUpto P (matches P (serial_of n) k.steps) k.waiting k.below vs
    → IsUntaken v.rows P keep (matches P (serial_of n) k.steps) k.waiting k.below q.0 m
    → TookUpto P (matches P (serial_of n) k.steps) l.waiting l.below (value P m ∷ vs)
    × NextUntaken v P keep (matches P (serial_of n) k.steps) l.waiting l.below (value P m ∷ vs) r
    × (takes_left v l.below r < takes_left v k.below (Some q))
