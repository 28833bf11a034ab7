-- The statements that are signed at open nodes (this project's). Public clauses speak of `InTurn` alone, inside `Stands`; the rest follows the code.
use Rattle.std.specs.Prelude.{◌≡◌, ◌≤◌, ℕ, List, [], ◌∷◌}
use Rattle.gcx_model.specs.Members.{In}
use Rattle.matcher.specs.declared.signs.Sign.{Sign}

-- the role's statement is signed at the level
pub record SignAt (signs : List Sign) (role level : ℕ) : Type 0 where
  pub sign : Sign
  pub member : In sign signs
  pub of : sign.role ≡ role
  pub at : sign.level ≡ level

-- they stand by rising role
abbrev pub InTurn : List Sign → Type 0
InTurn [] = Unit {0}
InTurn (s ∷ rest) = ((t : Sign) → In t rest → s.role ≤ t.role) × InTurn rest
