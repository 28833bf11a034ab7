-- What a projector does to its matcher. This follows the code: private functions alone speak of it (this project's).
use Rattle.std.specs.Prelude.{◌≡◌, ◌≤◌, ℕ, Bool, true, false, List, length, Option, Some, option_map}
use Rattle.gcx_base.specs.declared.ids.Role.{Role}
use Rattle.gcx_base.specs.declared.kind.Kind.{Kind}
use Rattle.gcx_base.specs.Kinds.{is_text}
use Rattle.gcx_model.specs.Tree.{Node, Under, End, grow}
use Rattle.gcx_model.specs.Growth.{may_come, level}
use Rattle.gcx_model.specs.Held.{roles_given, roles_taken}
use Rattle.gcx_model.specs.Past.{Past, Opens, IsLast, past_fed, past_grown, reopened, token_for}
use Rattle.node_store.specs.declared.store.Place.{Place}
use Rattle.matcher.specs.Calls.{GivesHere}
use Rattle.matcher.specs.Matcher.{MatcherAt}
use Rattle.matcher.specs.View.{MatcherView}
use Rattle.buf_tree.specs.Shape.{Cell, CellsRise}
use Rattle.buf_tree.specs.View.{View, Innermost}
use Rattle.buf_tree.specs.Calls.{Opened as OpenedBelow, numbers}
use Rattle.buf_tree.specs.Stands.{StandsFor, StandsOpened}
use Rattle.projector.specs.Projector.{ahead_in, OpenedAlone}

-- it has heard of all actions of the past
pub record HasHeard (m : MatcherView) (past : Past) : Type 0 where
  pub matcher : MatcherAt m (ahead_in (reopened past.tree) past.acts past) false

-- some of the rows is open, and they are in document order
pub record HasInnermost (rows : List Cell) : Type 0 where
  pub rising : CellsRise rows
  pub place : ℕ
  pub innermost : Innermost rows place

-- it left the innermost open node, which was an element or a text below another node
abbrev pub LeavesBelow : (m n : MatcherView) → Type 0
LeavesBelow m n = (past : Past) (p : Node) (s : ℕ) (k : Kind) → MatcherAt m past false → past.tree.at ≡ Some (Under p s k)
    → MatcherAt n (past_grown End past) false

-- these are the roles of its innermost node that are taken back already
abbrev pub TellsTaken : MatcherView → List Role → Type 0
TellsTaken m given = (past : Past) (text : Bool) (n : Node) → MatcherAt m past text → IsLast past.tree text n
    → numbers given ≡ roles_taken past.plan past.tree past.acts n

-- A node of the kind was opened in it, and below the place q in the buffer, where it has this place, if it is held. These roles
-- are given to it.
pub record OpensBelow (m n : MatcherView) (v w : View) (q : ℕ) (kind : Kind) (x : Option Place × List Role) : Type 0 where
  pub matcher : (past : Past) → MatcherAt m past false → may_come (token_for kind) past.tree ≡ true
      → ((p : Node) → past.tree.at ≡ Some p → level p ≤ 1000) → MatcherAt n (past_grown (token_for kind) past) (is_text kind)
  pub given : (past : Past) (a : Node) → MatcherAt m past false → may_come (token_for kind) past.tree ≡ true → ((p : Node) → past.tree.at ≡ Some p → level p ≤ 1000) → Opens past.tree (token_for kind) a
      → numbers x.1 ≡ roles_given past.plan (grow (token_for kind) past.tree) a
  pub opened : OpenedAlone (HasHeard m) v w q (option_map (λ (p : Place). p.0) x.0) kind x.1
  pub stands : (past : Past) → StandsFor v past → HasHeard m past → may_come (token_for kind) past.tree ≡ true
      → StandsFor w (past_fed (token_for kind) past)

-- Its innermost node, which is of the kind, was opened below the place q in the buffer, and is given so many roles.
pub record OpensEntered (m : MatcherView) (v w : View) (q : ℕ) (kind : Kind) (place : Option Place) (count : ℕ) : Type 0 where
  pub given : List Role
  pub ahead : List Role
  pub many : length given ≡ count
  pub here : GivesHere m given
  pub taken : TellsTaken m ahead
  pub opened : OpenedBelow v w q (option_map (λ (p : Place). p.0) place) kind given ahead
  pub stands : StandsOpened v w kind given ahead

-- Its innermost node, which is of the kind, came behind a past for which the buffer stands.
pub record MayOpenEntered (m : MatcherView) (v : View) (kind : Kind) : Type 0 where
  pub past : Past
  pub stands : StandsFor v past
  pub may : may_come (token_for kind) past.tree ≡ true
  pub entered : MatcherAt m (past_grown (token_for kind) (ahead_in past.tree past.acts past)) (is_text kind)
