-- These definitions follow the code; no public clause speaks of them.
-- Text read as a whole (this project's).
use Rattle.std.specs.Prelude.{ℕ, ◌≡◌, ◌+◌, List, ◌∷◌, ◌++◌, length, drop, Ok}
use Rattle.std.specs.Char.{len_utf8}
use Rattle.std.specs.Str.{chars, IsUtf8, IsCharBoundary}
use Rattle.gcx_base.specs.declared.limits.Limits.{Limits}
use Rattle.gcx_model.specs.Faults.{size}
use Rattle.gcx_model.specs.Tree.{TreeToken}
use Rattle.doc_laws.specs.Machine.{State}
use Rattle.doc_laws.specs.Judging.{judged_steps}
use Rattle.doc_machine.specs.Sound.{IsSound}

-- c is the first character of the text, and the rest stands behind it
pub record IsFirstChar (c : ℕ) (rest text : List ℕ) : Type 0 where
  pub first : chars text ≡ c ∷ chars rest
  pub size_is : length text ≡ len_utf8 c + length rest
  pub utf8 : IsUtf8 rest

-- The first n bytes are characters, which are read, from whatever place on.
pub record Moves (lim : Limits) (old : State) (text : List ℕ) (n : ℕ) (new : State) : Type 0 where
  pub front : List ℕ
  pub parts : chars text ≡ front ++ chars (drop n text)
  pub size_is : size front ≡ n
  pub boundary : IsCharBoundary text n
  pub read : (place : ℕ) → judged_steps lim place old front ≡ Ok new
  pub sound : IsSound old → IsSound new

-- Some characters at the front are read, and the tokens of the whole tags in them wait.
pub record Stops (lim : Limits) (old : State) (text : List ℕ) (waiting : List TreeToken) : Type 0 where
  pub n : ℕ
  pub state : State
  pub moves : Moves lim old text n state
  pub waits : waiting ≡ state.tokens
