-- What calls did, for clauses alone (this project's).
use Rattle.std.specs.Prelude.{ℕ, List}

-- What one call did: a read that asked for so many bytes gave these, none at the end; a write took these; a write that was
-- offered these failed; or a read failed.
pub data Call : Type 0 where
  Gave : (asked : ℕ) → List ℕ → Call
  Took : List ℕ → Call
  Denied : List ℕ → Call
  Failed : Call

-- a handle: the name that it was opened by, and what its calls did
pub record HandleCalls : Type 0 where
  pub name : List ℕ
  pub calls : List Call

-- an `attach` or a `create` that failed: its name, and how many handles there were
pub record Miss : Type 0 where
  pub name : List ℕ
  pub behind : ℕ

abbrev pub missed : List ℕ → ℕ → Miss
missed name behind = record { name = name; behind = behind }
