-- What a query settles, and what its run leaves in the lent store (this project's).
use Rattle.std.specs.Prelude.{◌≡◌, ◌≤◌, ◌<◌, ℕ, ◌+◌, Bool, List, [], ◌∷◌, length, flat_map, Option, Some, None, option_map, option_and_then, ⊤}
use Rattle.std.specs.FinMap as store
use Rattle.gcx_base.specs.Limits.{full_limits}
use Rattle.gcx_model.specs.Tree.{Node, serial_of, kind_of, Tree, TreeToken, is_open_at}
use Rattle.gcx_model.specs.Members.{In}
use Rattle.gcx_model.specs.Core.{BodyTree, PlanTree}
use Rattle.gcx_model.specs.Cores.{Good}
use Rattle.gcx_model.specs.Query.{ExprTree}
use Rattle.gcx_model.specs.Normal.{normal, known}
use Rattle.gcx_model.specs.Placed.{plan_of, Placed}
use Rattle.gcx_model.specs.Points.{actions}
use Rattle.gcx_model.specs.Past.{parent_serial}
use Rattle.gcx_model.specs.Held.{held}
use Rattle.gcx_model.specs.Demand.{peak_of}
use Rattle.gcx_model.specs.Seen.{SeenIs, seen_tree}
use Rattle.node_store.specs.Rows.{StoreRow, Rows}
use Rattle.buf_tree.specs.Stands.{Seen, seen}
use Rattle.buf_tree.specs.Row.{Row}
use Rattle.gcx_cmd.specs.declared.status.Status.{Status}
use Rattle.gcx_cmd.specs.declared.status.Status.TheVariants as statuses

-- w is what the query's meaning settles from the tags read in the bytes
abbrev pub Settles : List ExprTree → List ℕ → (ended : Bool) → List ℕ → Type 0
Settles q bytes ended w = (ts : List TreeToken) × SeenIs full_limits bytes ended ts × (w ≡ known q (seen_tree ts))

abbrev pub listed : Option ℕ → List ℕ
listed None = []
listed (Some s) = s ∷ []

-- what the row tells of its node, wherever it stands
abbrev pub seen_in : StoreRow Row → Seen
seen_in e = seen (record { place = 0; row = e.payload })

-- the serial of the row at the place
abbrev pub serial_in : Rows Row → ℕ → Option ℕ
serial_in rows p = option_map (λ e. (seen_in e).serial) (store.get rows p)

-- the serials of the rows at these places
abbrev pub serials_in : Rows Row → List ℕ → List ℕ
serials_in rows ps = flat_map (λ p. listed (serial_in rows p)) ps

abbrev pub AreRising : List ℕ → Type 0
AreRising [] = ⊤
AreRising (s ∷ []) = ⊤
AreRising (s ∷ (t ∷ ts)) = (s < t) × AreRising (t ∷ ts)

-- The row shows the node of the tree.
pub record Shows (rows : Rows Row) (P : Tree) (e : StoreRow Row) (n : Node) : Type 0 where
  pub serial : (seen_in e).serial ≡ serial_of n
  pub kind : (seen_in e).kind ≡ kind_of n
  pub is_open : (seen_in e).is_open ≡ is_open_at P.at (serial_of n)
  pub parent : option_and_then (serial_in rows) e.parent ≡ parent_serial n

-- The rows are these nodes of the tree, each once, children by rising serials.
pub record RowsAre (rows : Rows Row) (P : Tree) (ns : List Node) : Type 0 where
  pub each : (p : ℕ) (e : StoreRow Row) → store.get rows p ≡ Some e → (n : Node) × In n ns × Shows rows P e n
  pub all : (n : Node) → In n ns → (p : ℕ) × (e : StoreRow Row) × (store.get rows p ≡ Some e) × Shows rows P e n
  pub count : store.len rows ≡ length ns
  pub order : (p : ℕ) (e : StoreRow Row) → store.get rows p ≡ Some e → AreRising (serials_in rows e.children)

-- the nodes that are held once every action of the plan's run over the tree is taken
abbrev pub held_by : PlanTree → Tree → List Node
held_by plan P = held plan P (actions plan P)

-- The store has the rows of the nodes that are open or have an untaken role in their subtree. The most that it ever had is the
-- peak behind a token at least, and above that by less than the number of tokens that are fed at once.
pub record Holds (q : List ExprTree) (ahead : ℕ) (ts : List TreeToken) (rows : Rows Row) (most : ℕ) : Type 0 where
  pub rows_are : RowsAre rows (seen_tree ts) (held_by (plan_of (normal q)) (seen_tree ts))
  pub least : peak_of (plan_of (normal q)) ts ≤ most
  pub near : most < peak_of (plan_of (normal q)) ts + ahead

abbrev pub UnlessOutOfMemory : Status → Type 0 → Type 0
UnlessOutOfMemory statuses.Memory X = ⊤
UnlessOutOfMemory status X = X

-- The plan is that of the query.
pub record IsPlanOf (q : List ExprTree) (plan : PlanTree) : Type 0 where
  pub is_plan : plan ≡ plan_of (normal q)
  pub placed : Placed (normal q) plan

-- It is one that is placed.
abbrev pub IsPlaced : PlanTree → Type 0
IsPlaced plan = (core : BodyTree) × Good core × Placed core plan
