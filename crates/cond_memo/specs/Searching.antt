-- How the next match of a path is searched for. Private functions alone speak of it.
use Rattle.std.specs.Prelude.{◌≡◌, ◌<◌, ◌≤◌, ◌⊎◌, ℕ, suc, Bool, List, Option, Some, MatchOption, IfSome}
use Rattle.gcx_base.specs.declared.ids.Serial.{Serial}
use Rattle.gcx_base.specs.declared.steps.Step.{Step}
use Rattle.gcx_model.specs.Tree.{Node, serial_of, Tree}
use Rattle.gcx_model.specs.Paths.{matches}
use Rattle.gcx_model.specs.Members.{In}
use Rattle.node_store.specs.declared.store.Place.{Place}
use Rattle.buf_tree.specs.Shape.{Cell, num}
use Rattle.buf_tree.specs.View.{View, serial_at}
use Rattle.cond_eval.specs.Reads.{NodeAt}
use Rattle.cond_eval.specs.Searches.{Finds}
use Rattle.cond_memo.specs.Waiting.{IsOpenNow, NextAbove}
use Rattle.cond_memo.specs.Taking.{AsksPath, IsUntaken, NextUntaken, TookUpto}
use Rattle.cond_memo.specs.declared.taken.Taken.{Taken}

-- ---- rows

-- of the rows with a serial above `after` the first that the step reaches from the row at the place p
abbrev pub FindsRow : List Cell → (p : ℕ) → Step → (after : ℕ) → Option Place → Type 0
FindsRow rows p s after r = (c : Cell) → In c rows → c.place ≡ p → Finds rows c s after r

-- some such search finds it
pub record IsRowFound (rows : List Cell) (p : ℕ) (s : Step) (r : Option Place) : Type 0 where
  pub after : ℕ
  pub finds : FindsRow rows p s after r

-- of the rows from the bound on, where no row that the step reaches has a serial from the bound up to that of the row at the place
pub record StartsRow (rows : List Cell) (p : ℕ) (s : Step) (below : ℕ) (r : Option Place) : Type 0 where
  pub after : ℕ
  pub finds : FindsRow rows p s after r
  pub from : (suc after ≡ below) ⊎ ((below ≤ after) × ((c : Cell) → In c rows → c.place ≡ p → num c ≡ after))

-- ---- matches

-- none of the matches has a serial from the bound on
abbrev pub NoneFrom : List Node → (from : ℕ) → Type 0
NoneFrom ms from = (j : Node) → In j ms → from ≤ serial_of j → ⊥

-- the row at the place is that of the first one that has
pub record IsFirstFrom (rows : List Cell) (P : Tree) (keep : Node → Bool) (ms : List Node) (from q : ℕ) : Type 0 where
  pub match_at : Node
  pub at : NodeAt rows P keep q match_at
  pub among : In match_at ms
  pub high : from ≤ serial_of match_at
  pub least : (j : Node) → In j ms → from ≤ serial_of j → serial_of match_at ≤ serial_of j

abbrev pub FirstIs : List Cell → Tree → (keep : Node → Bool) → List Node → (from : ℕ) → Option Place → Type 0
FirstIs rows P keep ms from r = MatchOption r (NoneFrom ms from) (λ q. IsFirstFrom rows P keep ms from q.0)

-- the first match with a serial from the bound on
abbrev pub FindsMatch : View → (p : ℕ) → List Step → (from : ℕ) → Option Place → Type 0
FindsMatch v p steps from r = (P : Tree) (keep : Node → Bool) (n : Node) → AsksPath v p steps P keep n
    → FirstIs v.rows P keep (matches P (serial_of n) steps) from r

-- the first match behind that at the place q
abbrev pub FindsBehindMatch : View → (p q : ℕ) → List Step → Option Place → Type 0
FindsBehindMatch v p q steps r = (P : Tree) (keep : Node → Bool) (n m : Node) → AsksPath v p steps P keep n
    → NodeAt v.rows P keep q m → In m (matches P (serial_of n) steps)
    → FirstIs v.rows P keep (matches P (serial_of n) steps) (suc (serial_of m)) r

-- the nearest match above that at the place q
abbrev pub TellsAbove : View → (k : Taken) → (p q : ℕ) → Option Serial → Type 0
TellsAbove v k p q found = (P : Tree) (keep : Node → Bool) (n m : Node) → AsksPath v p k.steps P keep n
    → IsUntaken v.rows P keep (matches P (serial_of n) k.steps) k.waiting k.below q m
    → NextAbove k.steps n m found × ((s : Serial) → found ≡ Some s → s.0 < serial_of m)

-- ---- the first closed one

-- The first match from the bound on is at the place. Those before it were taken, or were open, and what was open still is.
pub record PassesFrom (v : View) (p : ℕ) (steps : List Step) (waiting : Option Serial) (first : Option Place) (P : Tree) (keep : Node → Bool) (n : Node) (from : ℕ) (vs : List (List ℕ)) : Type 0 where
  pub asks : AsksPath v p steps P keep n
  pub first_is : FirstIs v.rows P keep (matches P (serial_of n) steps) from first
  pub took : TookUpto P (matches P (serial_of n) steps) waiting from vs
  pub still : IsOpenNow P waiting

-- over some tree it is
pub record MayPass (v : View) (k : Taken) (p : ℕ) (first : Option Place) : Type 0 where
  pub tree : Tree
  pub keep : Node → Bool
  pub node : Node
  pub from : ℕ
  pub values : List (List ℕ)
  pub goes : PassesFrom v p k.steps k.waiting first tree keep node from values

-- the open ones wait, and the first closed one is next
pub record IsPassed (v : View) (P : Tree) (keep : Node → Bool) (ms : List Node) (from : ℕ) (waiting : Option Serial) (below : ℕ) (vs : List (List ℕ)) (r : Option Place) : Type 0 where
  pub took : TookUpto P ms waiting below vs
  pub next : NextUntaken v P keep ms waiting below vs r
  pub high : from ≤ below
  pub here : IfSome r (λ q. serial_at q.0 v.rows ≡ below)

abbrev pub PassesOpen : View → (k l : Taken) → (p : ℕ) → (first r : Option Place) → Type 0
PassesOpen v k l p first r = (P : Tree) (keep : Node → Bool) (n : Node) (from : ℕ) (vs : List (List ℕ))
    → PassesFrom v p k.steps k.waiting first P keep n from vs
    → IsPassed v P keep (matches P (serial_of n) k.steps) from l.waiting l.below vs r
