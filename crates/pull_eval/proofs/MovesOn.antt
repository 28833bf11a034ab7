-- A move of the machine, by that of its position and by what it was told of conditions.
use Rattle.std.proofs.Common.{◌≡◌, ℕ, List, Option, Some, subst}
use Rattle.std.specs.declared.result.Result.{Result}
use Rattle.std.specs.declared.result.Result.TheVariants.{Ok, Err}
use Rattle.std.specs.Prelude.{IfOk}
use Rattle.gcx_model.specs.Tree.{Tree}
use Rattle.gcx_model.specs.Past.{Past}
use Rattle.buf_tree.specs.View.{View}
use Rattle.pull_eval.specs.Acting.{Beside, TakesAction, Moves, MovesOn}
use Rattle.pull_eval.specs.declared.machine.Acted.{Acted}
use Rattle.pull_eval.specs.declared.position.Position.{Position}

-- where nothing is written, whatever was
pub chosen_on : {E : Type 0} (before after : Tree → Type 0) (m n : Position) (v : View) (old : List ℕ) (r : Result (Option Acted) E)
    → IfOk r (λ a. (past : Past) (k : ℕ) (out : List ℕ) → Beside m v past k → before past.tree → Moves past k m n v v out out a × after past.tree) → IfOk r (λ a. MovesOn before after m n v v old old a)
chosen_on before after m n v old (Ok a) h = λ past k b s. h past k old b s
chosen_on before after m n v old (Err e) h = tt

-- the last of some moves took the action
pub takes_last : (past : Past) (k : ℕ) (m n : Position) (v now w : View) (old before new : List ℕ) (o : Option Acted) (a : Acted) → o ≡ Some a → v ≡ now → old ≡ before → Moves past k m n v w old new o → TakesAction past k n now w before new a
takes_last past k m n v now w old before new o a e f h t =
    subst (λ (x : View). TakesAction past k n x w before new a) f
    (subst (λ (x : List ℕ). TakesAction past k n v w x new a) h
    (subst (λ (x : Option Acted). Moves past k m n v w old new x) e t))
