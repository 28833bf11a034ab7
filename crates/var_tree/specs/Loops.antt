-- This follows the code, for its proofs: no public clause speaks of it.
-- The loops of a body, as it is read from the left (this project's).
use Rattle.std.specs.Prelude.{ℕ, List, [], ◌∷◌, ◌++◌}
use Rattle.gcx_base.specs.declared.steps.Step.{Step}
use Rattle.gcx_model.specs.Core.{ItemTree, Write, Copy, For, If, SignOff, BodyTree, Nil, Then}

-- a loop: the variable of the nearest loop round it, and 0 where there is none; its own variable, its parent and its step
pub record Loop : Type 0 where
  pub outer : ℕ
  pub var : ℕ
  pub parent : ℕ
  pub step : Step

abbrev mutual
  pub item_loops : ItemTree → (outer : ℕ) → List Loop
  item_loops (Write b) u = []
  item_loops (Copy x) u = []
  item_loops (For x y s d) u = record { outer = u; var = x; parent = y; step = s } ∷ loops d x
  item_loops (If c a b) u = loops a u ++ loops b u
  item_loops (SignOff o) u = []

  pub loops : BodyTree → (outer : ℕ) → List Loop
  loops Nil u = []
  loops (Then i d) u = item_loops i u ++ loops d u
