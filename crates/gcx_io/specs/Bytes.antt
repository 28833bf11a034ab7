-- The bytes that a sink has taken, where it tells them (this project's).
use Rattle.std.specs.Prelude.{◌≡◌, ℕ, ◌≤◌, ◌++◌, List, length, take, ⊤, MatchResult, IfOk}
use Rattle.std.specs.declared.option.Option.{Option}
use Rattle.std.specs.declared.option.Option.TheVariants.{Some, None}
use Rattle.std.specs.declared.result.Result.{Result}

-- What is told grows by these bytes. A sink may stop telling; one that doesn't tell tells nothing later.
abbrev pub Grows : Option (List ℕ) → Option (List ℕ) → List ℕ → Type 0
Grows None None bytes = ⊤
Grows None (Some after) bytes = ⊥
Grows (Some before) None bytes = ⊤
Grows (Some before) (Some after) bytes = after ≡ before ++ bytes

-- at Ok the first bytes of the piece are taken, else none
abbrev pub WriteGrows : {E : Type 0} → Option (List ℕ) → Option (List ℕ) → Result ℕ E → List ℕ → Type 0
WriteGrows before after result piece = MatchResult result (λ n. Grows before after (take n piece)) (λ _. after ≡ before)

-- at least one byte moved, and no more than there are
abbrev pub Moves : {E : Type 0} → Result ℕ E → List ℕ → Type 0
Moves result piece = IfOk result (λ n. (1 ≤ n) × (n ≤ length piece))
