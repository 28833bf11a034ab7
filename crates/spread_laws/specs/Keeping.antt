-- Laws of tops: they tell where spread roles are live, and which there are behind a token and behind an action.
use Rattle.std.specs.Prelude.{◌≡◌, ℕ, true, false, not, cond, ◌&&◌, ◌||◌, List, [], ◌∷◌, ◌++◌, filter, ◌==◌, ◌↔◌, ◌⊎◌, None, length, replicate, slice_index_or}
use Rattle.gcx_base.specs.declared.kind.Kind.{Kind}
use Rattle.gcx_model.specs.Tree.{Node, Root, Under, serial_of, above, TreeToken, grow}
use Rattle.gcx_model.specs.Paths.{hits}
use Rattle.gcx_model.specs.Members.{In}
use Rattle.gcx_model.specs.Core.{Whole, BodyTree, OffTree, PlanTree}
use Rattle.gcx_model.specs.Run.{Wrote, Offed}
use Rattle.gcx_model.specs.Variables.{all_child}
use Rattle.gcx_model.specs.Cores.{Good}
use Rattle.gcx_model.specs.Placed.{offs_in, Placed}
use Rattle.gcx_model.specs.Held.{path_of, statement_of, given, signed, live, roles_live, roles_taken, held}
use Rattle.gcx_model.specs.Past.{Past, past_fed, past_grown, past_acted, IsPast, Opens, open_nodes, roles_signed}
use Rattle.past_laws.specs.Pasts.{bases}
use Rattle.spread_laws.specs.Tops.{is_whole_kind, is_spread, is_top, is_kept_at, roles_kept, roles_newly_given, top_in, tops_of, alone_of, put_tops}

-- A spread role is live at a node exactly where the node or one above it is a top of its statement.
abbrev pub LiveByTops : Type 0
LiveByTops = (past : Past) → IsPast past → (s : OffTree) → In s (offs_in past.plan.body) → s.kind ≡ Whole → (n : Node) → In n past.tree.nodes
    → (live past.plan past.tree past.acts n s.role ≡ true) ↔ ((a : Node) × In a (above n) × (is_top past s a ≡ true))

-- So the document node has the roles that are kept at it; and another node has a role exactly where it is kept there, or is spread and the parent has it.
abbrev pub LiveByKept : Type 0
LiveByKept = (past : Past) → IsPast past → (r : ℕ)
    → (live past.plan past.tree past.acts Root r ≡ is_kept_at past Root r)
    × ((p : Node) (q : ℕ) (k : Kind) → In (Under p q k) past.tree.nodes
    → live past.plan past.tree past.acts (Under p q k) r ≡ (is_kept_at past (Under p q k) r || (is_spread past.plan r && live past.plan past.tree past.acts p r)))

-- By its statement: a spread role is kept at the tops, another one where it is live.
abbrev pub KeptTells : Type 0
KeptTells = (past : Past) → IsPast past → (s : OffTree) → In s (offs_in past.plan.body) → (n : Node)
    → (is_spread past.plan s.role ≡ is_whole_kind s.kind)
    × (is_kept_at past n s.role ≡ cond (is_whole_kind s.kind) (is_top past s n) (live past.plan past.tree past.acts n s.role))

-- A role that is kept at a node is live there. So the roles kept are those live, but for the spread ones for which the node is no top.
abbrev pub KeptAreLive : Type 0
KeptAreLive = (past : Past) → IsPast past → (n : Node) → In n past.tree.nodes
    → ((r : ℕ) → is_kept_at past n r ≡ true → live past.plan past.tree past.acts n r ≡ true)
    × ((r : ℕ) → is_spread past.plan r ≡ false → is_kept_at past n r ≡ live past.plan past.tree past.acts n r)
    × (roles_kept past n ≡ filter (λ r. not (is_spread past.plan r) || is_kept_at past n r) (roles_live past.plan past.tree past.acts n))

-- A token leaves the tops among the nodes that were there, and the roles kept at them.
abbrev pub KeptByFeed : Type 0
KeptByFeed = (past : Past) → IsPast past → (t : TreeToken) (n : Node) → In n past.tree.nodes
    → ((s : OffTree) → is_top (past_fed t past) s n ≡ is_top past s n) × (roles_kept (past_fed t past) n ≡ roles_kept past n)

-- The node that a token opens is a top exactly where the statement has neither steps nor a tail and the node is a base, which is given the base's own role; or where the steps and the tail lead to it from an open node of which the row tells that it is a base that isn't signed.
abbrev pub NewTops : Type 0
NewTops = (past : Past) → IsPast past → (t : TreeToken) (n : Node) → Opens past.tree t n → (s : OffTree) → In s (offs_in past.plan.body)
    → (is_top (past_fed t past) s n ≡ true)
    ↔ (((s.rel ++ s.tail ≡ []) × (given past.plan (grow t past.tree) n s.own ≡ true))
    ⊎ ((b : Node) × In b (open_nodes past.tree)
    × (In s.own (roles_live past.plan past.tree past.acts b) ⊎ In s.own (roles_signed past.plan past.acts b)) × (In s.role (roles_signed past.plan past.acts b) → ⊥)
    × (hits (serial_of b) (s.rel ++ s.tail) n ≡ true)))

-- Where no statement of a spread role is signed at an open node, and none of the new node's roles is taken in advance, those are kept at it that it isn't given from above.
abbrev pub KeptNewly : Type 0
KeptNewly = (past : Past) → IsPast past → (t : TreeToken) (n : Node) → Opens past.tree t n
    → ((s : OffTree) (b : Node) → In s (offs_in past.plan.body) → s.kind ≡ Whole → In b (open_nodes past.tree) → signed past.acts s b ≡ false)
    → roles_taken past.plan (grow t past.tree) past.acts n ≡ [] → roles_kept (past_grown t past) n ≡ roles_newly_given past.plan (grow t past.tree) n

-- A write leaves the roles kept.
abbrev pub KeptByWrite : Type 0
KeptByWrite = (past : Past) (b : List ℕ) (n : Node) → roles_kept (past_acted (Wrote b) past) n ≡ roles_kept past n

-- A statement that is carried out leaves the tops of the others. Its own are then those to which its steps and its tail lead from another base that isn't signed; so it leaves those outside its base's subtree.
abbrev pub TopsByAct : Type 0
TopsByAct = (past : Past) → IsPast past → (s : OffTree) → In s (offs_in past.plan.body) → (m : Node) → In m (bases past s) → (n : Node) → In n past.tree.nodes
    → ((o : OffTree) → In o (offs_in past.plan.body) → (o.role ≡ s.role → ⊥) → is_top (past_acted (Offed s (serial_of m)) past) o n ≡ is_top past o n)
    × ((is_top (past_acted (Offed s (serial_of m)) past) s n ≡ true)
    ↔ ((b : Node) × In b (bases past s) × (signed past.acts s b ≡ false) × (serial_of b ≡ serial_of m → ⊥) × (hits (serial_of b) (s.rel ++ s.tail) n ≡ true)))
    × ((In m (above n) → ⊥) → is_top (past_acted (Offed s (serial_of m)) past) s n ≡ is_top past s n)

-- The rows tell which held nodes stay tops: those to which the steps and the tail lead from another row, which has the base's own role live or signed and this role not signed.
abbrev pub TopsByRows : Type 0
TopsByRows = (past : Past) → IsPast past → (s : OffTree) → In s (offs_in past.plan.body) → (m : Node) → In m (bases past s) → (n : Node) → In n (held past.plan past.tree past.acts)
    → (is_top (past_acted (Offed s (serial_of m)) past) s n ≡ true)
    ↔ ((b : Node) × In b (held past.plan past.tree past.acts)
    × (In s.own (roles_live past.plan past.tree past.acts b) ⊎ In s.own (roles_signed past.plan past.acts b)) × (In s.role (roles_signed past.plan past.acts b) → ⊥)
    × (serial_of b ≡ serial_of m → ⊥) × (hits (serial_of b) (s.rel ++ s.tail) n ≡ true))

-- The roles kept at a node then: the old ones, without that role where it isn't kept any more. None is added.
abbrev pub KeptByAct : Type 0
KeptByAct = (past : Past) → IsPast past → (s : OffTree) → In s (offs_in past.plan.body) → (m : Node) → In m (bases past s) → (n : Node) → In n past.tree.nodes
    → roles_kept (past_acted (Offed s (serial_of m)) past) n
    ≡ cond (is_kept_at (past_acted (Offed s (serial_of m)) past) n s.role) (roles_kept past n) (filter (λ r. not (r == s.role)) (roles_kept past n))

-- Where the path of the base has no descendant step, no other base lies above a node of its subtree or in it: the statement takes its role from all of that subtree.
abbrev pub AloneTakes : Type 0
AloneTakes = (past : Past) → IsPast past → (s : OffTree) → In s (offs_in past.plan.body) → (m : Node) → In m (bases past s) → all_child (path_of past.plan s.base) ≡ true
    → (n : Node) → In n past.tree.nodes → In m (above n)
    → (live past.plan past.tree (past.acts ++ Offed s (serial_of m) ∷ []) n s.role ≡ false) × (is_top (past_acted (Offed s (serial_of m)) past) s n ≡ false)

-- The tables tell of each role its statement, as one that reaches its tops alone, and of each variable whether its path has no descendant step.
abbrev pub TablesTell : Type 0
TablesTell = (core : BodyTree) → Good core → (plan : PlanTree) → Placed core plan
    → ((r : ℕ) → slice_index_or (tops_of plan) r None ≡ top_in (statement_of plan r))
    × ((x : ℕ) → slice_index_or (alone_of plan) x true ≡ all_child (path_of plan x))

-- The table of statements is what all statements of the plan make of an empty one.
abbrev pub TablesBuilt : Type 0
TablesBuilt = (core : BodyTree) → Good core → (plan : PlanTree) → Placed core plan → put_tops (offs_in plan.body) (replicate (length plan.roles) None) ≡ tops_of plan
