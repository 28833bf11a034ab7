-- Laws on what a buffer has behind it: which pasts there are, what the held nodes tell of statements, statements in advance, and how rows change.
use Rattle.std.specs.Prelude.{◌≡◌, ℕ, ◌≤◌, true, false, not, cond, ◌&&◌, ◌||◌, List, [], ◌∷◌, ◌++◌, filter, map, length, drop, ◌==◌, ◌↔◌, ◌⊎◌, Some}
use Rattle.gcx_base.specs.declared.steps.Step.{Step}
use Rattle.gcx_base.specs.declared.kind.Kind.TheVariants.{Element, Text}
use Rattle.gcx_model.specs.Tree.{Node, Under, serial_of, above, Tree, TreeToken, Start, Chars, End, opening, grow, is_open_at}
use Rattle.gcx_model.specs.Paths.{hits, matches, first}
use Rattle.gcx_model.specs.Members.{In}
use Rattle.gcx_model.specs.Core.{BodyTree, OffTree, PlanTree}
use Rattle.gcx_model.specs.Run.{Action, Wrote, Offed}
use Rattle.gcx_model.specs.Variables.{all_child}
use Rattle.gcx_model.specs.Cores.{Good}
use Rattle.gcx_model.specs.Placed.{offs_in, Placed}
use Rattle.gcx_model.specs.Held.{path_of, given, roles_given, signed, reaches, taken, live, roles_live, held, held_tree, is_held}
use Rattle.gcx_model.specs.Growth.{Leads, may_come, level}
use Rattle.gcx_model.specs.Points.{so_far, CoreState}
use Rattle.gcx_model.specs.Past.{Past, opening_past, past_fed, past_acted, IsPast, is_ahead, open_nodes, is_signed, roles_signed, parent_serial, row_of, rows_of, waiting_offs}
use Rattle.gcx_model.specs.Past.{Opens}

-- In a core state there is a past, however many of its actions were taken before the last token.
abbrev pub CoreStatePast : Type 0
CoreStatePast = (core : BodyTree) → Good core → (plan : PlanTree) → Placed core plan → (P : Tree) (k : ℕ) → CoreState plan P k → (j : ℕ) → j ≤ k
    → IsPast (record { plan = plan; tree = P; acts = so_far plan P k; fed = j })

-- There is one before any token and any action,
abbrev pub PastOpens : Type 0
PastOpens = (core : BodyTree) → Good core → (plan : PlanTree) → Placed core plan → IsPast (opening_past plan)

-- behind a token that may come,
abbrev pub PastFeeds : Type 0
PastFeeds = (past : Past) → IsPast past → (t : TreeToken) → may_come t past.tree ≡ true → IsPast (past_fed t past)

-- the nodes at which the statement may be carried out: the matches of its base's path
abbrev pub bases : Past → OffTree → List Node
bases past s = matches past.tree 0 (path_of past.plan s.base)

-- and behind a write, and a statement of the plan at one of its bases.
abbrev pub PastActs : Type 0
PastActs = (past : Past) → IsPast past
    → ((b : List ℕ) → IsPast (past_acted (Wrote b) past))
    × ((s : OffTree) (m : Node) → In s (offs_in past.plan.body) → In m (bases past s) → IsPast (past_acted (Offed s (serial_of m)) past))

-- A role is live at a node exactly where its statement reaches the node from a base that isn't signed.
abbrev pub LiveByBases : Type 0
LiveByBases = (past : Past) → IsPast past → (s : OffTree) → In s (offs_in past.plan.body) → (n : Node) → In n past.tree.nodes
    → (live past.plan past.tree past.acts n s.role ≡ true) ↔ ((m : Node) × In m (bases past s) × (signed past.acts s m ≡ false) × (reaches past.tree s m n ≡ true))

-- The base's own role tells of a node whether it is a base: it is live or signed there, and never both.
abbrev pub OwnTells : Type 0
OwnTells = (past : Past) → IsPast past → (s : OffTree) → In s (offs_in past.plan.body) → (m : Node) → In m past.tree.nodes
    → (In m (bases past s) ↔ ((live past.plan past.tree past.acts m s.own ≡ true) ⊎ (is_signed past.plan past.acts m s.own ≡ true)))
    × (live past.plan past.tree past.acts m s.own ≡ true → is_signed past.plan past.acts m s.own ≡ true → ⊥)

-- The held nodes tell what a statement reaches from a base that isn't signed: the same of them, and none of the others.
abbrev pub ReachHeld : Type 0
ReachHeld = (past : Past) → IsPast past → (s : OffTree) → In s (offs_in past.plan.body) → (m : Node) → In m (bases past s) → signed past.acts s m ≡ false → (n : Node) → In n past.tree.nodes
    → (In n (held past.plan past.tree past.acts) → reaches (held_tree past.plan past.tree past.acts) s m n ≡ reaches past.tree s m n)
    × ((In n (held past.plan past.tree past.acts) → ⊥) → reaches past.tree s m n ≡ false)

-- A token opens one node at most: with the next number, as a child of the innermost open node. The nodes that were open stay so, and none but the new one becomes open.
abbrev pub NewNode : Type 0
NewNode = (P : Tree) (t : TreeToken) (n : Node) → Opens P t n
    → (drop (length P.nodes) (grow t P).nodes ≡ n ∷ [])
    × (serial_of n ≡ length P.nodes)
    × (above n ≡ n ∷ open_nodes P)
    × ((p : Node) × (P.at ≡ Some p) × (parent_serial n ≡ Some (serial_of p)))
    × ((m : Node) → In m (open_nodes P) → In m (open_nodes (grow t P)))
    × ((m : Node) → In m (open_nodes (grow t P)) → In m (above n))

-- The new node is a first match exactly where it is a match and there was none; and a first match stays it.
abbrev pub FirstBehind : Type 0
FirstBehind = (P : Tree) (t : TreeToken) (n : Node) → Opens P t n → (k : ℕ) (path : List Step)
    → ((first (grow t P) k path ≡ Some n) ↔ ((hits k path n ≡ true) × (matches P k path ≡ [])))
    × ((m : Node) → first P k path ≡ Some m → first (grow t P) k path ≡ Some m)

-- The open nodes are those that are open.
abbrev pub OpenNodes : Type 0
OpenNodes = (P : Tree) → Leads opening P → (m : Node) → In m P.nodes → (is_open_at P.at (serial_of m) ≡ true) ↔ In m (open_nodes P)

-- No statement is signed at a new node.
abbrev pub NewUnsigned : Type 0
NewUnsigned = (past : Past) → IsPast past → (t : TreeToken) (n : Node) → Opens past.tree t n
    → ((o : OffTree) → signed past.acts o n ≡ false) × (roles_signed past.plan past.acts n ≡ [])

-- At a new node what is taken depends on those actions alone that are in advance behind its token.
abbrev pub AheadTakes : Type 0
AheadTakes = (past : Past) → IsPast past → (t : TreeToken) (n : Node) → Opens past.tree t n → (r : ℕ)
    → taken past.plan (grow t past.tree) past.acts n r ≡ taken past.plan (grow t past.tree) (filter (is_ahead (grow t past.tree)) past.acts) n r

-- So the roles of its row are those that it is given, without what these take.
abbrev pub NewRoles : Type 0
NewRoles = (past : Past) → IsPast past → (t : TreeToken) (n : Node) → Opens past.tree t n
    → roles_live past.plan (grow t past.tree) past.acts n
    ≡ filter (λ r. not (taken past.plan (grow t past.tree) (filter (is_ahead (grow t past.tree)) past.acts) n r)) (roles_given past.plan (grow t past.tree) n)

-- A role is taken from a new node exactly where the node is given it and its statement is carried out in advance at each match of its base's path from which it reaches the node; such a match is the node or above it.
abbrev pub AheadSigned : Type 0
AheadSigned = (past : Past) → IsPast past → (t : TreeToken) (n : Node) → Opens past.tree t n → (s : OffTree) → In s (offs_in past.plan.body)
    → (taken past.plan (grow t past.tree) past.acts n s.role ≡ true)
    ↔ ((given past.plan (grow t past.tree) n s.role ≡ true)
    × ((m : Node) → In m (above n) → In m (matches (grow t past.tree) 0 (path_of past.plan s.base)) → reaches (grow t past.tree) s m n ≡ true → In (Offed s (serial_of m)) (filter (is_ahead (grow t past.tree)) past.acts)))

-- What is in advance behind a token was so before it.
abbrev pub AheadBefore : Type 0
AheadBefore = (past : Past) → IsPast past → (t : TreeToken) (a : Action) → In a past.acts → is_ahead (grow t past.tree) a ≡ true → is_ahead past.tree a ≡ true

-- A node that was there has the same roles live behind a token; what is signed at it doesn't depend on the tree. So of its row the token changes at most whether it is open.
abbrev pub LiveByFeed : Type 0
LiveByFeed = (past : Past) → IsPast past → (t : TreeToken) (n : Node) → In n past.tree.nodes
    → ((r : ℕ) → live past.plan (grow t past.tree) past.acts n r ≡ live past.plan past.tree past.acts n r)
    × (row_of (past_fed t past) n ≡ record (row_of past n) { is_open = is_open_at (grow t past.tree).at (serial_of n) })

-- The rows behind a token are those of the nodes held before it and of the new one, as far as these are held.
abbrev pub RowsByFeed : Type 0
RowsByFeed = (past : Past) → IsPast past → (t : TreeToken)
    → rows_of (past_fed t past) ≡ map (row_of (past_fed t past)) (filter (is_held past.plan (grow t past.tree) past.acts) (held past.plan past.tree past.acts ++ drop (length past.tree.nodes) (grow t past.tree).nodes))

-- The rows behind an action are those of the nodes held before it, as far as these are held; a write changes none.
abbrev pub RowsByAct : Type 0
RowsByAct = (past : Past) → IsPast past
    → ((a : Action) → rows_of (past_acted a past) ≡ map (row_of (past_acted a past)) (filter (is_held past.plan past.tree (past.acts ++ a ∷ [])) (held past.plan past.tree past.acts)))
    × ((b : List ℕ) → rows_of (past_acted (Wrote b) past) ≡ rows_of past)

-- A statement that is carried out leaves the other roles of a node as they were. Its own is live then exactly where another base that isn't signed reaches the node,
abbrev pub LiveByAct : Type 0
LiveByAct = (past : Past) → IsPast past → (s : OffTree) → In s (offs_in past.plan.body) → (m : Node) → In m (bases past s) → (n : Node) → In n past.tree.nodes
    → ((r : ℕ) → (r ≡ s.role → ⊥) → live past.plan past.tree (past.acts ++ Offed s (serial_of m) ∷ []) n r ≡ live past.plan past.tree past.acts n r)
    × ((live past.plan past.tree (past.acts ++ Offed s (serial_of m) ∷ []) n s.role ≡ true)
    ↔ ((b : Node) × In b (bases past s) × (signed past.acts s b ≡ false) × (serial_of b ≡ serial_of m → ⊥) × (reaches past.tree s b n ≡ true)))

-- so the node loses it exactly where it had it and each base that reaches the node is this one or signed.
abbrev pub LosesByAct : Type 0
LosesByAct = (past : Past) → IsPast past → (s : OffTree) → In s (offs_in past.plan.body) → (m : Node) → In m (bases past s) → (n : Node) → In n past.tree.nodes
    → ((live past.plan past.tree past.acts n s.role ≡ true) × (live past.plan past.tree (past.acts ++ Offed s (serial_of m) ∷ []) n s.role ≡ false))
    ↔ ((live past.plan past.tree past.acts n s.role ≡ true) × ((b : Node) → In b (bases past s) → reaches past.tree s b n ≡ true → (serial_of b ≡ serial_of m) ⊎ (signed past.acts s b ≡ true)))

-- The rows tell which held nodes keep it: those that the statement reaches over the held nodes from another row, which has the base's own role live or signed and this role not signed.
abbrev pub KeptByRows : Type 0
KeptByRows = (past : Past) → IsPast past → (s : OffTree) → In s (offs_in past.plan.body) → (m : Node) → In m (bases past s) → (n : Node) → In n (held past.plan past.tree past.acts)
    → (live past.plan past.tree (past.acts ++ Offed s (serial_of m) ∷ []) n s.role ≡ true)
    ↔ ((b : Node) × In b (held past.plan past.tree past.acts)
    × (In s.own (roles_live past.plan past.tree past.acts b) ⊎ In s.own (roles_signed past.plan past.acts b)) × (In s.role (roles_signed past.plan past.acts b) → ⊥)
    × (serial_of b ≡ serial_of m → ⊥) × (reaches (held_tree past.plan past.tree past.acts) s b n ≡ true))

-- The roles of a row then: its old ones, without that role where it isn't live any more.
abbrev pub RolesByAct : Type 0
RolesByAct = (past : Past) → IsPast past → (s : OffTree) → In s (offs_in past.plan.body) → (m : Node) → In m (bases past s) → (n : Node) → In n past.tree.nodes
    → roles_live past.plan past.tree (past.acts ++ Offed s (serial_of m) ∷ []) n
    ≡ cond (live past.plan past.tree (past.acts ++ Offed s (serial_of m) ∷ []) n s.role) (roles_live past.plan past.tree past.acts n) (filter (λ r. not (r == s.role)) (roles_live past.plan past.tree past.acts n))

-- And the roles signed at it: the same, and at the statement's node its role too.
abbrev pub SignedByAct : Type 0
SignedByAct = (past : Past) → IsPast past → (s : OffTree) → In s (offs_in past.plan.body) → (m n : Node)
    → ((r : ℕ) → is_signed past.plan (past.acts ++ Offed s (serial_of m) ∷ []) n r ≡ (is_signed past.plan past.acts n r || ((r == s.role) && (serial_of m == serial_of n))))
    × ((serial_of m ≡ serial_of n → ⊥) → roles_signed past.plan (past.acts ++ Offed s (serial_of m) ∷ []) n ≡ roles_signed past.plan past.acts n)

-- The statements that wait for the next token: none behind a token; and behind an action also its own, where it is in advance, with the level of its node.
abbrev pub WaitingLaw : Type 0
WaitingLaw = (past : Past) → IsPast past
    → ((t : TreeToken) → waiting_offs (past_fed t past) ≡ [])
    × ((b : List ℕ) → waiting_offs (past_acted (Wrote b) past) ≡ waiting_offs past)
    × ((s : OffTree) (m : Node) → In m past.tree.nodes
    → waiting_offs (past_acted (Offed s (serial_of m)) past) ≡ waiting_offs past ++ cond (is_ahead past.tree (Offed s (serial_of m))) (record { level = level m; off = s } ∷ []) [])

-- What a row tells of roles: those live at its node, and those signed at it.
abbrev pub RowTells : Type 0
RowTells = (past : Past) → IsPast past → (n : Node) (r : ℕ)
    → (In r (roles_live past.plan past.tree past.acts n) ↔ (live past.plan past.tree past.acts n r ≡ true))
    × (In r (roles_signed past.plan past.acts n) ↔ (is_signed past.plan past.acts n r ≡ true))

-- A node is held exactly where it is open, a role is live at it, or a child of it is held;
abbrev pub HeldLocal : Type 0
HeldLocal = (past : Past) → IsPast past → (n : Node) → In n past.tree.nodes
    → In n (held past.plan past.tree past.acts)
    ↔ ((is_open_at past.tree.at (serial_of n) ≡ true) ⊎ (((r : ℕ) × In r (roles_live past.plan past.tree past.acts n)) ⊎ ((c : Node) × In c (held past.plan past.tree past.acts) × (parent_serial c ≡ Some (serial_of n)))))

-- and what is above a held node is held.
abbrev pub HeldAbove : Type 0
HeldAbove = (past : Past) → IsPast past → (n m : Node) → In n (held past.plan past.tree past.acts) → In m (above n) → In m (held past.plan past.tree past.acts)

-- A statement reaches nodes of its base's subtree alone. Of two bases above one node the one is above the other; and where the base's path has no descendant step there is one at most.
abbrev pub BasesAbove : Type 0
BasesAbove = (past : Past) → IsPast past → (s : OffTree) (m : Node) → In m (bases past s) → (n : Node) → In n past.tree.nodes
    → (reaches past.tree s m n ≡ true → In m (above n))
    × ((b : Node) → In b (bases past s) → In m (above n) → In b (above n) → (In b (above m) ⊎ In m (above b)) × (all_child (path_of past.plan s.base) ≡ true → b ≡ m))

-- The nodes and the open nodes behind each kind of token, where p is the innermost open node.
abbrev pub OpenBehind : Type 0
OpenBehind = (P : Tree) (p : Node) → P.at ≡ Some p
    → ((name : List ℕ) → ((grow (Start name) P).nodes ≡ P.nodes ++ Under p (length P.nodes) (Element name) ∷ []) × (open_nodes (grow (Start name) P) ≡ Under p (length P.nodes) (Element name) ∷ open_nodes P))
    × ((b : List ℕ) → ((grow (Chars b) P).nodes ≡ P.nodes ++ Under p (length P.nodes) (Text b) ∷ []) × (open_nodes (grow (Chars b) P) ≡ open_nodes P))
    × ((grow End P).nodes ≡ P.nodes) × (open_nodes P ≡ p ∷ open_nodes (grow End P))
