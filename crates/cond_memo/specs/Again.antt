-- Which condition was asked last (this project's).
use Rattle.std.specs.Prelude.{◌≡◌, ◌<◌, ℕ, Bool, List, length, Option, Some, None, slice_index_or}
use Rattle.gcx_base.specs.declared.ids.VarId.{VarId}
use Rattle.gcx_base.specs.declared.steps.Step.{Step}
use Rattle.gcx_model.specs.Tree.{Node, Tree}
use Rattle.gcx_model.specs.Core.{CondTree}
use Rattle.gcx_model.specs.declared.truth.Truth.{Truth}
use Rattle.buf_tree.specs.View.{View}
use Rattle.cond_eval.specs.Bindings.{Bindings}
use Rattle.cond_eval.specs.Asking.{AnswersOver, MayAskOver}
use Rattle.cond_memo.specs.Marks.{AreMarks, AsksOf, IsAbout, MayFind, StandFor, answer}
use Rattle.cond_memo.specs.Pairs.{ArePairs}
use Rattle.cond_memo.specs.declared.mark.Ask.{Ask}
use Rattle.cond_memo.specs.declared.mark.Mark.{Mark}
use Rattle.cond_memo.specs.declared.marked.Marked.{Marked}
use Rattle.cond_memo.specs.declared.pair.Pair.{Pair}

-- the question about the path is the condition: it may be asked where that may, and its answer is that of the condition
pub record Serves (x : ℕ) (steps : List Step) (ask : Option Ask) (c : CondTree) : Type 0 where
  pub may : (v : View) (bound : Bindings) (k : Marked) → MayAskOver v (AreMarks k) bound c → MayFind k v.rows v.nodes bound x steps ask
  pub answers : (v : View) (bound : Bindings) (k : Marked) (ms : List Mark) (qs : List Pair) (t : Truth)
      → ((P : Tree) (keep : Node → Bool) (n : Node) → AreMarks k P → AsksOf v.rows v.nodes bound x steps ask P keep n → (t ≡ answer P steps ask n) × (StandFor ms P × ArePairs qs P))
      → AnswersOver v (AreMarks k) (λ P. StandFor ms P × ArePairs qs P) bound c t

-- the mark of this number
abbrev pub IsAt : List Mark → ℕ → Mark → Type 0
IsAt ms i m = (i < length ms) × (m ≡ slice_index_or ms i m)

-- the mark that answered last is about this question
abbrev pub LastIsAbout : Marked → VarId → List Step → Option Ask → Type 0
LastIsAbout k x steps ask = (i : ℕ) (m : Mark) → k.last ≡ Some i → IsAt k.marks.items i m → IsAbout m x steps ask

-- its question is the condition
abbrev pub AskedLast : Marked → CondTree → Type 0
AskedLast k c = (i : ℕ) (m : Mark) → k.last ≡ Some i → IsAt k.marks.items i m → Serves m.var.0 m.steps m.ask c

-- what is told of it, where a mark answered last
abbrev pub TellsAgain : View → (before after : Marked) → Bindings → CondTree → Option Truth → Type 0
TellsAgain v k l bound c None = l ≡ k
TellsAgain v k l bound c (Some t) = AnswersOver v (AreMarks k) (AreMarks l) bound c t × AskedLast l c
