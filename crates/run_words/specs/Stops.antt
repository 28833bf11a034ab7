-- How the reading of a file stands (this project's).
use Rattle.std.specs.Prelude.{ℕ, Bool, true, false, List, [], ◌∷◌, ⊤}
use Rattle.gcx_io.specs.Views.{Call, Gave, Failed}

-- Each read gave bytes so far, or the last one answered the end, or it failed.
pub data Stop : Type 0 where
  More : Stop
  EndAnswered : Stop
  FaultAnswered : Stop

-- the call that it stopped at, where a read asks for so many bytes
abbrev pub last_call : (asked : ℕ) → Stop → List Call
last_call asked More = []
last_call asked EndAnswered = Gave asked [] ∷ []
last_call asked FaultAnswered = Failed ∷ []

-- the end was answered
abbrev pub is_end : Stop → Bool
is_end More = false
is_end EndAnswered = true
is_end FaultAnswered = false

-- no call failed
abbrev pub IsCalm : Stop → Type 0
IsCalm More = ⊤
IsCalm EndAnswered = ⊤
IsCalm FaultAnswered = ⊥
