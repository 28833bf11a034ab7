-- These definitions follow the code; no public clause speaks of them.
-- What reading a text answers (this project's).
use Rattle.std.specs.Prelude.{ℕ, ◌≡◌, ◌+◌, List, ◌∷◌, ◌++◌, Result, Ok, Err}
use Rattle.gcx_base.specs.declared.limits.Limits.{Limits}
use Rattle.gcx_model.specs.Faults.{DocumentRefusal as Fault, size}
use Rattle.gcx_model.specs.Tree as tree
use Rattle.doc_laws.specs.Machine.{State}
use Rattle.doc_laws.specs.Judging.{judged, judged_steps}
use Rattle.doc_machine.specs.declared.stop.Stop.{Stop}
use Rattle.doc_machine.specs.declared.stop.Stop.TheVariants.{Refused, Memory}
use Rattle.doc_machine.specs.Refusals.{fault}

-- The characters before the one that is refused are read, and the tokens of the whole tags in them wait.
pub record Refuses (lim : Limits) (place : ℕ) (old : State) (cs : List ℕ) (f : Fault) (waiting : List tree.TreeToken) : Type 0 where
  pub front : List ℕ
  pub at : ℕ
  pub rest : List ℕ
  pub state : State
  pub parts : cs ≡ front ++ (at ∷ rest)
  pub read : judged_steps lim place old front ≡ Ok state
  pub refused : judged lim (place + size front) state at ≡ Err f
  pub waits : waiting ≡ state.tokens

-- Some characters are read, and the tokens of the whole tags in them wait.
pub record ReadsFront (lim : Limits) (place : ℕ) (old : State) (cs : List ℕ) (waiting : List tree.TreeToken) : Type 0 where
  pub front : List ℕ
  pub rest : List ℕ
  pub state : State
  pub parts : cs ≡ front ++ rest
  pub read : judged_steps lim place old front ≡ Ok state
  pub waits : waiting ≡ state.tokens

-- the state behind the characters, which begin at this place, or why reading stopped in them
abbrev pub Judged : {T : Type 0} → Result T Stop → Limits → ℕ → State → List ℕ → State → Type 0
Judged (Ok x) lim place old cs new = judged_steps lim place old cs ≡ Ok new
Judged (Err (Refused r)) lim place old cs new = Refuses lim place old cs (fault r) new.tokens
Judged (Err Memory) lim place old cs new = ReadsFront lim place old cs new.tokens
