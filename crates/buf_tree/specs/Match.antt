-- Which rows a step reaches from a row, and from where a search for them may go on.
use Rattle.std.specs.Prelude.{◌≡◌, ◌<◌, ◌≤◌, ◌⊎◌, ℕ, zero, suc, true, List, Option, IfSome, MatchOption}
use Rattle.gcx_base.specs.declared.steps.Axis.{Axis}
use Rattle.gcx_base.specs.declared.steps.Axis.TheVariants.{Child, Descendant}
use Rattle.gcx_base.specs.declared.steps.Step.{Step}
use Rattle.gcx_model.specs.Members.{In}
use Rattle.gcx_base.specs.Tests.{passes}
use Rattle.node_store.specs.declared.store.Place.{Place}
use Rattle.buf_tree.specs.Shape.{Cell, num, AtPlace, AtPlaces}
use Rattle.buf_tree.specs.View.{InUse, serial_at}

-- the row d is a child of the row c
abbrev pub IsChild : Cell → Cell → Type 0
IsChild c d = (d.row.parent ≡ num c) × (num c < num d)

-- n + 1 steps from d to its parent lead to c
abbrev pub DescendsFrom : List Cell → ℕ → Cell → Cell → Type 0
DescendsFrom xs zero c d = IsChild c d
DescendsFrom xs (suc n) c d = (e : Cell) × In e xs × IsChild e d × DescendsFrom xs n c e

abbrev pub Lies : List Cell → Axis → Cell → Cell → Type 0
Lies xs Child c d = IsChild c d
Lies xs Descendant c d = (n : ℕ) × DescendsFrom xs n c d

-- the step reaches the row d from the row c, and its serial is above `after`
pub record Reached (xs : List Cell) (c : Cell) (s : Step) (after : ℕ) (d : Cell) : Type 0 where
  pub among : In d xs
  pub axis : Lies xs s.axis c d
  pub passed : passes s.test d.row.kind ≡ true
  pub behind : after < num d

-- none is reached
pub record Unreached (xs : List Cell) (c : Cell) (s : Step) (after : ℕ) : Type 0 where
  pub none : (d : Cell) → Reached xs c s after d → ⊥

-- the row at the place p is the first of those that are
pub record FirstReached (xs : List Cell) (c : Cell) (s : Step) (after p : ℕ) : Type 0 where
  pub cell : Cell
  pub reached : Reached xs c s after cell
  pub place : cell.place ≡ p
  pub least : (d : Cell) → Reached xs c s after d → num cell ≤ num d

-- a search from the row at the place p answers the first row that the step reaches above `after`, or None where it reaches none
abbrev pub FindsAbove : List Cell → (p : ℕ) → Step → (after : ℕ) → Option Place → Type 0
FindsAbove xs p s after r = AtPlace xs p (λ c. MatchOption r (Unreached xs c s after) (λ q. FirstReached xs c s after q.0))

-- the first behind the row at the place q
abbrev pub FindsBehind : List Cell → (p q : ℕ) → Step → Option Place → Type 0
FindsBehind xs p q s r = AtPlaces xs p q (λ c d. MatchOption r (Unreached xs c s (num d)) (λ o. FirstReached xs c s (num d) o.0))

-- the row that is answered has the serial at its place
abbrev pub SerialFound : List Cell → Option Place → Type 0
SerialFound xs r = IfSome r (λ p. AtPlace xs p.0 (λ c. serial_at p.0 xs ≡ num c))

-- from where a search may go on: the row itself, a child of it, or for a descendant step any row below it
abbrev pub IsFrom : List Cell → Axis → Cell → Cell → Type 0
IsFrom xs axis c d = (c ≡ d) ⊎ Lies xs axis c d

-- a search for matches of a step on this axis from the row at the place p may go on behind the row at the place q
pub record GoesFrom (xs : List Cell) (p : ℕ) (axis : Axis) (q : ℕ) : Type 0 where
  pub top : InUse xs p
  pub from : InUse xs q
  pub way : IsFrom xs axis top.cell from.cell
