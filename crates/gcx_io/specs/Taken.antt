-- The bytes that an object in memory has taken (this project's).
use Rattle.std.specs.Prelude.{ℕ, List, Bool, true, false}
use Rattle.std.specs.declared.option.Option.{Option}
use Rattle.std.specs.declared.option.Option.TheVariants.{Some, None}

-- all the bytes taken so far, None where they aren't whole, and how many more bytes there is surely room for
pub record Kept : Type 0 where
  pub taken : Option (List ℕ)
  pub room : ℕ

-- the bytes where they are whole
abbrev pub told_where : Bool → List ℕ → Option (List ℕ)
told_where true bytes = Some bytes
told_where false bytes = None
