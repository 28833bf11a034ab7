-- What a search of the buffer finds of the matches of a step (this project's).
use Rattle.std.specs.Prelude.{◌≡◌, ℕ, List, Option, Some, None}
use Rattle.gcx_base.specs.declared.steps.Step.{Step}
use Rattle.node_store.specs.declared.store.Place.{Place}
use Rattle.buf_tree.specs.Shape.{Cell, num}
use Rattle.buf_tree.specs.Match.{Unreached, FirstReached}
use Rattle.buf_tree.specs.View.{serial_at}

-- the place of the first row that the step reaches from the row c, of those with a serial above `after`; it is the only row there
pub record IsFirst (rows : List Cell) (c : Cell) (s : Step) (after p : ℕ) : Type 0 where
  pub first : FirstReached rows c s after p
  pub serial : serial_at p rows ≡ num first.cell

-- it is found, or there is none
abbrev pub Finds : List Cell → Cell → Step → (after : ℕ) → Option Place → Type 0
Finds rows c s after None = Unreached rows c s after
Finds rows c s after (Some p) = IsFirst rows c s after p.0
