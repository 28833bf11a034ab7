-- These definitions follow the code; no public clause speaks of them.
-- Text that is read from its front on (this project's).
use Rattle.std.specs.Prelude.{ℕ, ◌≡◌, ◌+◌, List, ◌++◌, length, Ok}
use Rattle.std.specs.Str.{chars}
use Rattle.gcx_base.specs.declared.limits.Limits.{Limits}
use Rattle.gcx_model.specs.Faults.{size}
use Rattle.doc_laws.specs.Machine.{State}
use Rattle.doc_laws.specs.Judging.{judged_steps}
use Rattle.doc_machine.specs.Sound.{IsSound}

-- The characters of a text before the rest are read.
pub record Reached (lim : Limits) (place : ℕ) (old : State) (text : List ℕ) (at : ℕ) (now : State) (rest : List ℕ) : Type 0 where
  pub front : List ℕ
  pub parts : chars text ≡ front ++ chars rest
  pub read : judged_steps lim place old front ≡ Ok now
  pub at_is : at ≡ place + size front
  pub room : at + length rest ≡ place + length text
  pub sound : IsSound now
