-- What a projector stands for (this project's).
use Rattle.std.specs.Prelude.{◌≡◌, ℕ, true, false, List, [], take, filter, Option, Some, None}
use Rattle.gcx_base.specs.declared.ids.Role.{Role}
use Rattle.gcx_base.specs.declared.kind.Kind.{Kind}
use Rattle.gcx_model.specs.Tree.{Tree, TreeToken, End, Node, serial_of, grow}
use Rattle.gcx_model.specs.Members.{In}
use Rattle.gcx_model.specs.Growth.{may_come}
use Rattle.gcx_model.specs.Held.{roles_given, roles_taken}
use Rattle.gcx_model.specs.Run.{Action}
use Rattle.gcx_model.specs.Past.{Past, is_ahead, reopened, Opens, IsNode, token_for}
use Rattle.node_store.specs.declared.store.Place.{Place}
use Rattle.matcher.specs.Matcher.{MatcherAt}
use Rattle.buf_tree.specs.Shape.{Cell, num}
use Rattle.buf_tree.specs.View.{View, Innermost, serial_at}
use Rattle.buf_tree.specs.Calls.{Opened as OpenedBelow, Closed as ClosedAt, numbers}
use Rattle.buf_tree.specs.Stands.{StandsFor}
use Rattle.projector.specs.declared.projector.Fed.{Fed}
use Rattle.projector.specs.declared.projector.Fed.TheVariants as outcomes
use Rattle.projector.specs.View.{ProjectorView}

-- the plan over this tree, with those of the actions that are in advance there
abbrev pub ahead_in : Tree → List Action → Past → Past
ahead_in P A past = record { plan = past.plan; tree = P; acts = filter (is_ahead P) A; fed = 0 }

-- What a matcher has behind it: the tree with its document node open, and the statements in advance among the actions before the last token.
abbrev pub heard : Past → Past
heard past = ahead_in (reopened past.tree) (take past.fed past.acts) past

-- The projector has fed the tokens of the past, and none of the open elements is passed.
pub record Projects (p : ProjectorView) (past : Past) : Type 0 where
  pub matcher : MatcherAt p.matcher (heard past) false
  pub none : p.passed ≡ []

-- The place kept is that of the innermost open node. Where none is kept no other node than the document node is open.
abbrev pub KeepsPlace : Option Place → List Cell → Type 0
KeepsPlace (Some p) xs = Innermost xs p.0
KeepsPlace None xs = (c : Cell) → In c xs → c.row.is_open ≡ true → num c ≡ 0

-- the same of a projector beside a buffer
abbrev pub Places : ProjectorView → View → Type 0
Places p v = KeepsPlace p.at v.rows

-- The token may come behind a past for which the buffer stands and the projector stood. `stood` says of which pasts it did.
pub record MayBeFed (stood : Past → Type 0) (v : View) (t : TreeToken) : Type 0 where
  pub past : Past
  pub stands : StandsFor v past
  pub projects : stood past
  pub may : may_come t past.tree ≡ true

-- What the token did: it opened the node of this number, which is given these roles, or closed the innermost open one.
abbrev pub DoesBy : Fed → TreeToken → Past → Type 0
DoesBy (outcomes.Opened s given) t past = (n : Node) × Opens past.tree t n × (serial_of n ≡ s.0) × (numbers given ≡ roles_given past.plan (grow t past.tree) n)
DoesBy (outcomes.Closed s) t past = (n : Node) × (t ≡ End) × (past.tree.at ≡ Some n) × (serial_of n ≡ s.0)

-- A node was opened below the place q, without those of its roles that are taken in advance, and nothing waits any more.
-- `stood` says of which pasts the projector stood.
pub record OpenedAlone (stood : Past → Type 0) (v w : View) (q : ℕ) (at : Option ℕ) (kind : Kind) (given : List Role) : Type 0 where
  pub ahead : List Role
  pub between : View
  pub opened : OpenedBelow v between q at kind given ahead
  pub cleared : w ≡ record between { waiting = [] }
  pub taken : (past : Past) (n : Node) → StandsFor v past → stood past → may_come (token_for kind) past.tree ≡ true → Opens past.tree (token_for kind) n
      → numbers ahead ≡ roles_taken past.plan (grow (token_for kind) past.tree) past.acts n

-- the token opened a node below the innermost open one
pub record OpenedOne (stood : Past → Type 0) (v w : View) (t : TreeToken) (s : ℕ) (given : List Role) : Type 0 where
  pub parent : ℕ
  pub below : Innermost v.rows parent
  pub kind : Kind
  pub is_node : IsNode kind
  pub token : token_for kind ≡ t
  pub at : Option ℕ
  pub opened : OpenedAlone stood v w parent at kind given
  pub serial : s ≡ v.nodes

-- the innermost open node was closed, and nothing waits any more
pub record ClosedOne (v w : View) (s : ℕ) : Type 0 where
  pub place : ℕ
  pub innermost : Innermost v.rows place
  pub closed : ClosedAt (record v { waiting = [] }) w place
  pub serial : s ≡ serial_at place v.rows

-- what the token made of the buffer
abbrev pub Changes : (Past → Type 0) → View → View → TreeToken → Fed → Type 0
Changes stood v w t (outcomes.Opened s given) = OpenedOne stood v w t s.0 given
Changes stood v w t (outcomes.Closed s) = (t ≡ End) × ClosedOne v w s.0
