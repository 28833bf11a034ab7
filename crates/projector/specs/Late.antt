-- What a projector and a buffer stand for where rows are made late, and what the calls make of them (this project's).
use Rattle.std.specs.Prelude.{◌≡◌, ◌≤◌, ℕ, true, false, List, [], ◌∷◌, ◌++◌, length, map, max, slice_range, IsUtf8, Option, Some, None}
use Rattle.gcx_base.specs.Name.{IsNameBytes}
use Rattle.gcx_model.specs.Tree.{TreeToken, Start, Chars, End}
use Rattle.gcx_model.specs.Members.{In}
use Rattle.gcx_model.specs.Growth.{may_come}
use Rattle.gcx_model.specs.Past.{Past, past_fed}
use Rattle.matcher.specs.Matcher.{MatcherAt}
use Rattle.buf_tree.specs.Loose.{Passed, StandsLoosely, GivesNone, cells_passed, one_passed}
use Rattle.buf_tree.specs.Shape.{Cell}
use Rattle.buf_tree.specs.View.{View}
use Rattle.buf_tree.specs.Stands.{StandsFor}
use Rattle.projector.specs.declared.passed.PassedName.{PassedName}
use Rattle.projector.specs.declared.projector.Tally.{Tally}
use Rattle.projector.specs.View.{ProjectorView}
use Rattle.projector.specs.Projector.{heard, Projects, Places}
use Rattle.projector.specs.Calls.{Tallies}

-- between these places of the bytes lies a name
pub record IsNamePart (bytes : List ℕ) (from to : ℕ) : Type 0 where
  pub ordered : from ≤ to
  pub within : to ≤ length bytes
  pub named : IsNameBytes (slice_range bytes from to)

-- so do the names of these elements
abbrev pub AreNamed : (bytes : List ℕ) → List PassedName → Type 0
AreNamed bytes xs = (x : PassedName) → In x xs → IsNamePart bytes x.from x.to

-- between these places lies a text
pub record IsTextPart (bytes : List ℕ) (from to : ℕ) : Type 0 where
  pub ordered : from ≤ to
  pub within : to ≤ length bytes
  pub utf8 : IsUtf8 (slice_range bytes from to)

-- the passed element, with its name
abbrev pub passed_of : (bytes : List ℕ) → PassedName → Passed
passed_of bytes x = record { name = slice_range bytes x.from x.to; serial = x.serial }

abbrev pub passed_in : (bytes : List ℕ) → List PassedName → List Passed
passed_in bytes xs = map (passed_of bytes) xs

-- The projector has fed the tokens of the past, and the buffer stands for it but for the rows of the passed elements,
-- whose names lie in these bytes.
pub record StandLoosely (bytes : List ℕ) (p : ProjectorView) (v : View) (past : Past) : Type 0 where
  pub matcher : MatcherAt p.matcher (heard past) false
  pub buffer : StandsLoosely (passed_in bytes p.passed) v past
  pub names : AreNamed bytes p.passed

-- the token may come behind a past for which they stand so
pub record MayBeFedLate (bytes : List ℕ) (p : ProjectorView) (v : View) (t : TreeToken) : Type 0 where
  pub past : Past
  pub stand : StandLoosely bytes p v past
  pub may : may_come t past.tree ≡ true

-- no open row lies deeper
abbrev pub IsShallow : View → Type 0
IsShallow v = (c : Cell) → In c v.rows → c.row.is_open ≡ true → c.row.level ≤ 1000

-- the greatest number of rows so far, where rows were made of these elements
abbrev pub most_late : List Passed → (v w : View) → ℕ
most_late [] v w = v.most
most_late (x ∷ xs) v w = max v.most (length w.rows)

-- The rows of these elements were made: all rows stay, and the new ones stand behind them.
pub record Made (xs : List Passed) (v w : View) : Type 0 where
  pub places : List ℕ
  pub count : length places ≡ length xs
  pub rows : w.rows ≡ v.rows ++ cells_passed places xs v.rows
  pub gone : w.gone ≡ v.gone
  pub waiting : w.waiting ≡ v.waiting
  pub nodes : w.nodes ≡ v.nodes
  pub taken : w.taken ≡ v.taken
  pub most : w.most ≡ most_late xs v w
  pub spread : w.spread ≡ v.spread

-- of the elements these were made rows, the outermost ones, and these are left
pub record MakesRows (made left : List Passed) (v w : View) : Type 0 where
  pub rows : Made made v w
  pub rests : (past : Past) → StandsLoosely (made ++ left) v past → StandsLoosely left w past

-- some of them were
pub record MakesSome (xs : List Passed) (v w : View) : Type 0 where
  pub made : List Passed
  pub left : List Passed
  pub split : xs ≡ made ++ left
  pub makes : MakesRows made left v w

-- `settle`: all of them were made rows, and nothing is loose any more
pub record SettlesAll (bytes : List ℕ) (p q : ProjectorView) (v w : View) : Type 0 where
  pub rows : Made (passed_in bytes p.passed) v w
  pub stands : (past : Past) → StandLoosely bytes p v past → Projects q past × StandsFor w past
  pub place : Places q w

-- no statement waits any more
abbrev pub cleared : View → View
cleared v = record v { waiting = [] }

-- the token passed an element or a text, or ended the innermost passed element
abbrev pub PassedBy : (bytes : List ℕ) → (xs ys : List PassedName) → (v w : View) → TreeToken → Type 0
PassedBy bytes xs ys v w (Start name) =
    (w ≡ one_passed (cleared v)) × (x : PassedName) × (ys ≡ xs ++ x ∷ []) × (passed_of bytes x ≡ record { name = name; serial = v.nodes })
PassedBy bytes xs ys v w (Chars text) = (w ≡ one_passed (cleared v)) × (ys ≡ xs)
PassedBy bytes xs ys v w End = (w ≡ cleared v) × (x : PassedName) × (xs ≡ ys ++ x ∷ [])

-- The token was passed: its node is given no role, and no row was made.
pub record PassesToken (bytes : List ℕ) (p q : ProjectorView) (v w : View) (t : TreeToken) : Type 0 where
  pub stands : (past : Past) → StandLoosely bytes p v past → may_come t past.tree ≡ true → StandLoosely bytes q w (past_fed t past)
  pub none : (past : Past) → StandLoosely bytes p v past → may_come t past.tree ≡ true → GivesNone past t
  pub place : q.at ≡ p.at
  pub changes : PassedBy bytes p.passed q.passed v w t

-- The rows of all passed elements were made, and then the token was fed as it always is.
pub record FeedsSettled (bytes : List ℕ) (p q : ProjectorView) (v w : View) (t : TreeToken) (tally : Tally) : Type 0 where
  pub settled : ProjectorView
  pub between : View
  pub settles : SettlesAll bytes p settled v between
  pub feeds : Tallies (Projects settled) q between w t tally

-- what a token made where rows are made late: none is told where it was passed
abbrev pub FeedsLate : (bytes : List ℕ) → (p q : ProjectorView) → (v w : View) → TreeToken → Option Tally → Type 0
FeedsLate bytes p q v w t (Some tally) = FeedsSettled bytes p q v w t tally
FeedsLate bytes p q v w t None = PassesToken bytes p q v w t
