-- A part over what is outside, behind the tokens that a reader gave (this project's).
use Rattle.std.specs.Prelude.{ℕ, Bool, false, List, map, Option}
use Rattle.gcx_base.specs.Limits.{full_limits}
use Rattle.doc_reader.specs.Standing.{ReaderView, Stands, Token, said_of}
use Rattle.outside.specs.Places.{MayWriteTo}
use Rattle.run_part.specs.Taker.{part_few, part_places, part_stands}
use Rattle.run_part.specs.View.{PartView}

-- The reader gave these tokens, and the part stands for them. It may be written out, and few bytes of it wait.
pub record TookGiven {C W : Type 0} (may : W → ℕ → Type 0) (most : W → Bool → Option ℕ) (ended : Bool) (r : ReaderView) (p : PartView C) (w : W) : Type 0 where
  pub read : List ℕ
  pub given : List Token
  pub reader : Stands r full_limits read ended given
  pub part : part_stands (λ c P. Unit {0}) p (map said_of given)
  pub places : MayWriteTo part_places may p w
  pub few : part_few p (most w false)
