-- Turns of the two actors in any order, and what they reach (this project's).
use Rattle.std.specs.Prelude.{ℕ, suc, cond, nat_lt, List, [], ◌∷◌, length, take}
use Rattle.gcx_model.specs.Tree.{Tree, TreeToken, opening, grow_all}
use Rattle.gcx_model.specs.Core.{PlanTree}
use Rattle.gcx_model.specs.Points.{actions}

pub data Turn : Type 0 where
  Feed : Turn
  Act : Turn

-- how many tokens and how many actions are taken
pub record Turned : Type 0 where
  pub fed : ℕ
  pub acted : ℕ

-- the tree of the tokens that are taken
abbrev pub tree_fed : List TreeToken → Turned → Tree
tree_fed ts s = grow_all (take s.fed ts) opening

-- one more, where there are more
abbrev pub one_up_to : (taken there : ℕ) → ℕ
one_up_to taken there = cond (nat_lt taken there) (suc taken) taken

-- a Feed takes the next token and an Act the next action of the plan's run; where none is left the turn does nothing
abbrev pub turn : PlanTree → List TreeToken → Turn → Turned → Turned
turn plan ts Feed s = record { fed = one_up_to s.fed (length ts); acted = s.acted }
turn plan ts Act s = record { fed = s.fed; acted = one_up_to s.acted (length (actions plan (tree_fed ts s))) }

abbrev pub turned_from : PlanTree → List TreeToken → Turned → List Turn → Turned
turned_from plan ts s [] = s
turned_from plan ts s (t ∷ turns) = turned_from plan ts (turn plan ts t s) turns

-- what the turns reach from the opening state, over these tokens
abbrev pub turned : PlanTree → List TreeToken → List Turn → Turned
turned plan ts turns = turned_from plan ts (record { fed = 0; acted = 0 }) turns
