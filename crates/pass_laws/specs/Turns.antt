-- Rounds of a loop in which nothing is done.
use Rattle.std.specs.Prelude.{◌≡◌, ℕ, true, List, [], ◌∷◌, ◌++◌}
use Rattle.gcx_base.specs.declared.steps.Step.{Step}
use Rattle.gcx_model.specs.Tree.{Node, serial_of, Tree, is_closed}
use Rattle.gcx_model.specs.Paths.{matches}
use Rattle.gcx_model.specs.Members.{In}
use Rattle.gcx_model.specs.Core.{BodyTree, Nil, PlanTree}
use Rattle.gcx_model.specs.Truth.{Env, bind_var}
use Rattle.gcx_model.specs.Points.{Frame, Rest, LoopRound, later, PointAt}
use Rattle.move_laws.specs.Moves.{AtPoint}
use Rattle.pass_laws.specs.Idle.{IsQuiet}

-- Where the body of a round is over and in those for the next matches nothing is done, the loop goes on with the match
-- behind them, with no action,
abbrev pub RoundsPass : Type 0
RoundsPass = (plan : PlanTree) (P : Tree) (k : ℕ) (v : Env) (x y : ℕ) (s : Step) (e : BodyTree) (env : Env)
    → (n : Node) (fs : List Frame) (pre : List Node) (m : Node) (post : List Node)
    → AtPoint plan P k (Rest Nil v ∷ LoopRound x y s e env n ∷ fs)
    → later n (matches P (serial_of (env y)) (s ∷ [])) ≡ pre ++ m ∷ post
    → ((j : Node) → In j pre → IsQuiet e (bind_var env x j) P)
    → PointAt plan P k (Rest e (bind_var env x m) ∷ LoopRound x y s e env m ∷ fs)

-- and where it is so for all later matches and no more come, the loop is over.
abbrev pub LastRoundsPass : Type 0
LastRoundsPass = (plan : PlanTree) (P : Tree) (k : ℕ) (v : Env) (x y : ℕ) (s : Step) (e : BodyTree) (env : Env)
    → (n : Node) (fs : List Frame)
    → AtPoint plan P k (Rest Nil v ∷ LoopRound x y s e env n ∷ fs)
    → ((j : Node) → In j (later n (matches P (serial_of (env y)) (s ∷ []))) → IsQuiet e (bind_var env x j) P)
    → is_closed P (env y) ≡ true
    → PointAt plan P k fs
