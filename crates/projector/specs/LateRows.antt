-- How rows are made late (this project's). This follows the code: private functions alone speak of it.
use Rattle.std.specs.Prelude.{◌≡◌, ℕ, true, List, [], ◌∷◌, Option}
use Rattle.gcx_base.specs.declared.kind.Kind.{Kind}
use Rattle.gcx_model.specs.Growth.{may_come}
use Rattle.gcx_model.specs.Past.{Past, token_for}
use Rattle.node_store.specs.declared.store.Place.{Place}
use Rattle.matcher.specs.Calls.{StandsBehind}
use Rattle.matcher.specs.View.{MatcherView}
use Rattle.buf_tree.specs.Loose.{Passed, Loosely, StandsLoosely}
use Rattle.buf_tree.specs.View.{View}
use Rattle.projector.specs.declared.passed.PassedName.{PassedName}
use Rattle.projector.specs.declared.projector.Tally.TheVariants as tallies
use Rattle.projector.specs.View.{ProjectorView}
use Rattle.projector.specs.Projector.{KeepsPlace}
use Rattle.projector.specs.Calls.{Tallies}
use Rattle.projector.specs.Opening.{HasHeard}
use Rattle.projector.specs.Late.{AreNamed, IsShallow, MakesRows, passed_in}

-- The element is the outermost one without a row, and the rows that are still to come lie no deeper than rows may.
pub record MayMake (x : Passed) (v : View) : Type 0 where
  pub rest : List Passed
  pub past : Past
  pub stands : StandsLoosely (x ∷ rest) v past
  pub shallow : Loosely IsShallow (x ∷ rest) v

-- The matcher's innermost node is of the kind. It came behind a past for which the buffer stands loosely.
pub record MayOpenLate (bytes : List ℕ) (p : ProjectorView) (v : View) (kind : Kind) : Type 0 where
  pub before : MatcherView
  pub behind : StandsBehind before p.matcher kind
  pub past : Past
  pub heard : HasHeard before past
  pub buffer : StandsLoosely (passed_in bytes p.passed) v past
  pub names : AreNamed bytes p.passed
  pub may : may_come (token_for kind) past.tree ≡ true

-- The rows of these elements were made, and below them the node that came behind what the matcher `before` had heard of.
pub record OpensBehind (bytes : List ℕ) (before : MatcherView) (xs : List PassedName) (q : ProjectorView) (v w : View) (kind : Kind) (count : ℕ) : Type 0 where
  pub at : Option Place
  pub between : View
  pub makes : MakesRows (passed_in bytes xs) [] v between
  pub place : KeepsPlace at between.rows
  pub feeds : Tallies (HasHeard before) q between w (token_for kind) (tallies.Opened count)

-- so it is whatever matcher it was that entered the node
abbrev pub OpensLate : (bytes : List ℕ) → (p q : ProjectorView) → (v w : View) → Kind → ℕ → Type 0
OpensLate bytes p q v w kind count = (before : MatcherView) → StandsBehind before p.matcher kind → OpensBehind bytes before p.passed q v w kind count
