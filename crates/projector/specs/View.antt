-- What contracts see of a projector (this project's).
use Rattle.std.specs.Prelude.{List, Option}
use Rattle.node_store.specs.declared.store.Place.{Place}
use Rattle.matcher.specs.View.{MatcherView}
use Rattle.projector.specs.declared.passed.PassedName.{PassedName}

-- Its matcher, and the place of the innermost open node that has a row: None is the document node's, before the first
-- token, or none at the end. The open elements below that one that have no row yet, the outermost first.
pub record ProjectorView : Type 0 where
  pub matcher : MatcherView
  pub at : Option Place
  pub passed : List PassedName
