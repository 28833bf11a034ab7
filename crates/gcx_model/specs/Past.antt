-- What a buffer has behind it, and the rows that it has then (this project's).
use Rattle.std.specs.Prelude.{◌≡◌, ℕ, ◌≤◌, Bool, false, not, cond, ◌&&◌, List, [], ◌∷◌, ◌++◌, length, ◌==◌, filter, flat_map, map, drop, Option, Some, None}
use Rattle.gcx_base.specs.declared.kind.Kind.{Kind}
use Rattle.gcx_model.specs.Tree.{Node, Root, Under, serial_of, kind_of, above, Tree, TreeToken, opening, grow, is_open_at}
use Rattle.gcx_model.specs.Paths.{matches}
use Rattle.gcx_model.specs.Members.{In, count}
use Rattle.gcx_model.specs.Core.{BodyTree, OffTree, PlanTree}
use Rattle.gcx_model.specs.Run.{Action, Wrote, Offed}
use Rattle.gcx_model.specs.Cores.{Good}
use Rattle.gcx_model.specs.Placed.{offs_in, Placed, is_own}
use Rattle.gcx_model.specs.Growth.{Leads, level}
use Rattle.gcx_model.specs.Held.{path_of, statement_of, on_off, signed, roles_live, held}
use Rattle.gcx_base.specs.declared.kind.Kind.TheVariants.{Document}
use Rattle.gcx_base.specs.declared.kind.Kind.TheVariants.{Element}
use Rattle.gcx_base.specs.declared.kind.Kind.TheVariants.{Text}
use Rattle.gcx_model.specs.Tree.{Start}
use Rattle.gcx_model.specs.Tree.{Chars}
use Rattle.gcx_model.specs.Tree.{End}
use Rattle.std.specs.Prelude.{◌+◌}
use Rattle.std.specs.Prelude.{true}

-- the plan; the tokens so far, as their tree; the actions so far; and how many of these were taken before the last token
pub record Past : Type 0 where
  pub plan : PlanTree
  pub tree : Tree
  pub acts : List Action
  pub fed : ℕ

-- before any token and any action
abbrev pub opening_past : PlanTree → Past
opening_past plan = record { plan = plan; tree = opening; acts = []; fed = 0 }

-- one token more
abbrev pub past_fed : TreeToken → Past → Past
past_fed t past = record past { tree = grow t past.tree; fed = length past.acts }

-- one token more, with no more actions taken before the last token: it differs from `past_fed` in `fed` alone
abbrev pub past_grown : TreeToken → Past → Past
past_grown t past = record past { tree = grow t past.tree }

-- the token that opens a node of this kind
abbrev pub token_for : Kind → TreeToken
token_for Document = End
token_for (Element name) = Start name
token_for (Text b) = Chars b

-- an element or a text
abbrev pub IsNode : Kind → Type 0
IsNode Document = ⊥
IsNode (Element name) = Unit {0}
IsNode (Text b) = Unit {0}

-- one action more
abbrev pub past_acted : Action → Past → Past
past_acted a past = record past { acts = past.acts ++ a ∷ [] }

-- A past that can be: the plan is one that is placed for a core, the tree grew from the opening one, and each statement carried out is one of the plan, at a match of its base's path.
pub record IsPast (past : Past) : Type 0 where
  pub core : BodyTree
  pub good : Good core
  pub placed : Placed core past.plan
  pub grown : Leads opening past.tree
  pub stated : (o : OffTree) (m : ℕ) → In (Offed o m) past.acts → In o (offs_in past.plan.body) × ((n : Node) × In n (matches past.tree 0 (path_of past.plan o.base)) × (serial_of n ≡ m))
  pub within : past.fed ≤ length past.acts

-- The statement is carried out in advance: at an open node, below which nodes may come that it reaches. One that takes back its base's own role there reaches no other node.
abbrev pub is_ahead : Tree → Action → Bool
is_ahead P (Wrote b) = false
is_ahead P (Offed o m) = is_open_at P.at m && not (is_own o)

abbrev pub open_from : Option Node → List Node
open_from None = []
open_from (Some p) = above p

-- the open nodes, the innermost first
abbrev pub open_nodes : Tree → List Node
open_nodes P = open_from P.at

-- the innermost node: the innermost open one, or the text that came last
abbrev pub IsLast : Tree → (text : Bool) → Node → Type 0
IsLast P false a = P.at ≡ Some a
IsLast P true a = (p : Node) × (s : ℕ) × (b : List ℕ) × (ns : List Node) × (a ≡ Under p s (Text b)) × (P.at ≡ Some p) × (P.nodes ≡ ns ++ a ∷ [])

-- the token opens this node
abbrev pub Opens : Tree → TreeToken → Node → Type 0
Opens P t n = In n (grow t P).nodes × (In n P.nodes → ⊥)

-- a statement of which the matcher hasn't heard, and the level of its node
pub record Awaited : Type 0 where
  pub level : ℕ
  pub off : OffTree

-- where the action is in advance, its statement at the level of its node
abbrev pub awaited : Tree → Action → List Awaited
awaited P (Wrote b) = []
awaited P (Offed o m) = cond (is_own o) [] (map (λ n. record { level = level n; off = o }) (filter (λ n. serial_of n == m) (open_nodes P)))

-- the statements that wait for the next token: those in advance among the actions since the last one, in order
abbrev pub waiting_offs : Past → List Awaited
waiting_offs past = flat_map (awaited past.tree) (drop past.fed past.acts)

abbrev pub reopen : Option Node → Option Node
reopen None = Some Root
reopen (Some p) = Some p

-- the tree with its document node open
abbrev pub reopened : Tree → Tree
reopened P = record { nodes = P.nodes; at = reopen P.at }

-- the role's statement is signed at the node
abbrev pub is_signed : PlanTree → List Action → Node → (role : ℕ) → Bool
is_signed plan A n r = on_off (λ o. signed A o n) (statement_of plan r)

-- the roles whose statements are signed at the node, by rising role
abbrev pub roles_signed : PlanTree → List Action → Node → List ℕ
roles_signed plan A n = filter (is_signed plan A n) (count 0 (length plan.roles))

abbrev pub parent_serial : Node → Option ℕ
parent_serial Root = None
parent_serial (Under p s k) = Some (serial_of p)

-- a row of a buffer: the node's number, its parent's, its kind, whether it is open, the roles live at it, and the roles signed at it
pub record HeldRow : Type 0 where
  pub serial : ℕ
  pub parent : Option ℕ
  pub kind : Kind
  pub is_open : Bool
  pub roles : List ℕ
  pub signed : List ℕ

abbrev pub row_of : Past → Node → HeldRow
row_of past n = record {
  serial = serial_of n;
  parent = parent_serial n;
  kind = kind_of n;
  is_open = is_open_at past.tree.at (serial_of n);
  roles = roles_live past.plan past.tree past.acts n;
  signed = roles_signed past.plan past.acts n;
}

-- the rows of a buffer: those of the held nodes, in document order
abbrev pub rows_of : Past → List HeldRow
rows_of past = map (row_of past) (held past.plan past.tree past.acts)
