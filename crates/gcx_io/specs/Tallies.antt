-- The calls of an object in memory, some of which are to fail (this project's).
use Rattle.std.specs.Prelude.{◌≡◌, ℕ, ◌+◌, ◌-◌, ◌^◌, min, List, Contains, Bool, MatchBool, MatchResult}
use Rattle.std.specs.declared.result.Result.{Result}

-- the numbers of the calls that are to fail, how many calls were made, and how many of them failed
pub record Tally : Type 0 where
  pub fails : List ℕ
  pub made : ℕ
  pub faults : ℕ

-- a count that stands still at 2^64 - 1
abbrev pub one_more : ℕ → ℕ
one_more n = min (n + 1) (2 ^ 64 - 1)

-- no call was made yet
abbrev pub no_calls : List ℕ → Tally
no_calls fails = record { fails = fails; made = 0; faults = 0 }

-- the number of the next call: they are numbered from 1, and every call past 2^64 - 1 has that number
abbrev pub next_call : Tally → ℕ
next_call t = one_more t.made

-- the next call is one of those that are to fail
abbrev pub IsToFail : Tally → Type 0
IsToFail t = Contains t.fails (next_call t)

-- one call was made
abbrev pub passed : Tally → Tally
passed t = record { fails = t.fails; made = next_call t; faults = t.faults }

-- one call was made, and failed
abbrev pub call_failed : Tally → Tally
call_failed t = record { fails = t.fails; made = next_call t; faults = one_more t.faults }

-- one call was made, and failed where it answered so
abbrev pub CountsCall : {T E : Type 0} → Tally → Tally → Result T E → Type 0
CountsCall before after result = MatchResult result (λ _. after ≡ passed before) (λ _. after ≡ call_failed before)

-- a count that is one more where this is so
abbrev pub CountsIf : Bool → ℕ → ℕ → Type 0
CountsIf fails before after = MatchBool fails (after ≡ one_more before) (after ≡ before)

-- the count of faults is one more where the call failed
abbrev pub CountsFault : {T E : Type 0} → ℕ → ℕ → Result T E → Type 0
CountsFault before after result = MatchResult result (λ _. after ≡ before) (λ _. after ≡ one_more before)
