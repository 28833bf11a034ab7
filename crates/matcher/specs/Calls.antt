-- What the calls of a matcher do, for each past for which it stood (this project's).
use Rattle.std.specs.Prelude.{◌≡◌, ◌<◌, ◌≤◌, ℕ, Bool, true, false, List, [], ◌∷◌, ◌++◌, length, map, Option, Some}
use Rattle.std.specs.FinSet as set
use Rattle.std.specs.Ordering.{nat_cmp}
use Rattle.gcx_base.specs.Kinds.{is_text}
use Rattle.gcx_base.specs.declared.ids.Role.{Role}
use Rattle.gcx_base.specs.declared.kind.Kind.{Kind}
use Rattle.gcx_model.specs.Tree.{Node, Root, Under, End, above, grow, serial_of}
use Rattle.gcx_model.specs.Paths.{matches}
use Rattle.gcx_model.specs.Growth.{may_come, level}
use Rattle.gcx_model.specs.Core.{BodyTree, OffTree, PlanTree}
use Rattle.gcx_model.specs.Cores.{Good}
use Rattle.gcx_model.specs.Run.{Offed}
use Rattle.gcx_model.specs.Members.{In}
use Rattle.gcx_model.specs.Placed.{Placed, offs_in}
use Rattle.gcx_model.specs.Held.{path_of, roles_given, signed, taken, roles_taken}
use Rattle.gcx_model.specs.Past.{Past, IsLast, Opens, open_nodes, opening_past, past_acted, past_grown, token_for}
use Rattle.spread_laws.specs.Tops.{roles_newly_given}
use Rattle.gcx_model.specs.Steps.{Follows, StandsAsBefore}
use Rattle.path_states.specs.Lists.{Climbs, Holds}
use Rattle.path_states.specs.State.{GivenBy}
use Rattle.matcher.specs.Ahead.{AreTaken, HasSign}
use Rattle.matcher.specs.Entering.{GoesBy}
use Rattle.matcher.specs.Matcher.{MatcherAt}
use Rattle.matcher.specs.View.{FrameView, MatcherView, innermost_frame}
use Rattle.matcher.specs.declared.signs.Sign.{Sign}

-- it stands for the plan's document node alone
abbrev pub StandsAtStart : MatcherView → PlanTree → Type 0
StandsAtStart m plan = (core : BodyTree) → Good core → Placed core plan → MatcherAt m (opening_past plan) false

-- it stands for the past, whose innermost node is a text or isn't
abbrev pub StandsIn : MatcherView → Past × Bool → Type 0
StandsIn m s = MatcherAt m s.0 s.1

-- it stands for what it stood for
abbrev pub KeepsStanding : (old new : MatcherView) → Type 0
KeepsStanding old new = StandsAsBefore StandsIn old new

-- the roles are those of the document node
abbrev pub GivesRoot : MatcherView → List Role → Type 0
GivesRoot m given = (past : Past) (text : Bool) → MatcherAt m past text → map (λ (r : Role). r.0) given ≡ roles_given past.plan past.tree Root

-- a node of the kind may come, below a node of level 1,000 at most
abbrev pub MayEnter : Kind → Past × Bool → Type 0
MayEnter kind s = (s.1 ≡ false) × ((may_come (token_for kind) s.0.tree ≡ true) × ((p : Node) → s.0.tree.at ≡ Some p → level p ≤ 1000))

-- it stands for the past with the new node
abbrev pub StandsBehind : (old new : MatcherView) → Kind → Type 0
StandsBehind old new kind = Follows StandsIn (MayEnter kind) (λ s. (past_grown (token_for kind) s.0, is_text kind)) old new

-- the roles are those of the new node
abbrev pub GivesNode : MatcherView → Kind → List Role → Type 0
GivesNode m kind given =
    (past : Past) (n : Node) → MatcherAt m past false → may_come (token_for kind) past.tree ≡ true → Opens past.tree (token_for kind) n → map (λ (r : Role). r.0) given ≡ roles_given past.plan (grow (token_for kind) past.tree) n

-- the same where the innermost node has a frame
abbrev pub StandsNext : (old new : MatcherView) → (number : ℕ) → (text : Bool) → Type 0
StandsNext old new number text =
    (past : Past) (kind : Kind) → GoesBy old past kind number text → ((p : Node) → past.tree.at ≡ Some p → level p ≤ 1000) → MatcherAt new (past_grown (token_for kind) past) text

abbrev pub GivesNext : MatcherView → (number : ℕ) → (text : Bool) → List Role → Type 0
GivesNext m number text given =
    (past : Past) (kind : Kind) (n : Node) → GoesBy m past kind number text → Opens past.tree (token_for kind) n → map (λ (r : Role). r.0) given ≡ roles_given past.plan (grow (token_for kind) past.tree) n

-- the roles are those of the innermost node
abbrev pub GivesHere : MatcherView → List Role → Type 0
GivesHere m given = (past : Past) (text : Bool) (n : Node) → MatcherAt m past text → IsLast past.tree text n → map (λ (r : Role). r.0) given ≡ roles_given past.plan past.tree n

-- the roles are those of the innermost node that are taken back already
abbrev pub GivesAhead : MatcherView → List Role → Type 0
GivesAhead m given = (past : Past) (text : Bool) (n : Node) → MatcherAt m past text → IsLast past.tree text n → map (λ (r : Role). r.0) given ≡ roles_taken past.plan past.tree past.acts n

-- the set of the roles of the innermost node, and how many they are
pub record GivesSet (m : MatcherView) (roles : set.FinSet nat_cmp) (count : ℕ) : Type 0 where
  pub given : List Role
  pub here : GivesHere m given
  pub is : roles ≡ set.from_list (map (λ (r : Role). r.0) given)
  pub many : length given ≡ count

-- the set of those that the innermost node isn't given from above
abbrev pub GivesNewly : MatcherView → set.FinSet nat_cmp → Type 0
GivesNewly m kept = (past : Past) (text : Bool) (n : Node) → MatcherAt m past text → IsLast past.tree text n → kept ≡ set.from_list (roles_newly_given past.plan past.tree n)

-- These are the roles of the innermost node as the innermost frame tells them: those of its whole subtrees, where no path leads to the node.
-- Otherwise no first match is among them, and they rise.
pub record FrameTells (m : MatcherView) (roles : List ℕ) : Type 0 where
  pub idle : (f : FrameView) → innermost_frame m.frames ≡ Some f → 0 < m.idle → roles ≡ f.whole
  pub framed : (f : FrameView) → innermost_frame m.frames ≡ Some f → m.idle ≡ 0
      → (f.found ≡ []) × Climbs roles × Holds roles (GivenBy m.tree.states.items f.whole f.active)

-- So many roles has the innermost node. No statement is signed at an open node, and no first match is among them.
pub record GivesCount (m : MatcherView) (count : ℕ) : Type 0 where
  pub unsigned : m.signs ≡ []
  pub given : List Role
  pub here : GivesHere m given
  pub told : FrameTells m (map (λ (r : Role). r.0) given)
  pub many : length given ≡ count

-- no statement is signed at the innermost node, nor at one above it
abbrev pub HasNoneSigned : MatcherView → Type 0
HasNoneSigned m = (past : Past) (text : Bool) (n b : Node) (o : OffTree) → MatcherAt m past text → IsLast past.tree text n → In o (offs_in past.plan.body) → In b (above n) → signed past.acts o b ≡ false

-- Both sets, where no statement is signed at an open node, so that none of the roles is taken back already. Those that the node isn't given from above are then kept at it, where roles are spread.
pub record GivesPlainly (m : MatcherView) (roles kept : set.FinSet nat_cmp) (count : ℕ) : Type 0 where
  pub gives : GivesSet m roles count
  pub newly : GivesNewly m kept
  pub ahead : GivesAhead m []
  pub unsigned : HasNoneSigned m

-- a text is left
abbrev pub LeavesText : (old new : MatcherView) → Type 0
LeavesText old new = (past : Past) → MatcherAt old past true → MatcherAt new past false

-- an element is closed
abbrev pub LeavesElement : (old new : MatcherView) → Type 0
LeavesElement old new = (past : Past) (p : Node) (s : ℕ) (k : Kind) → MatcherAt old past false → past.tree.at ≡ Some (Under p s k) → MatcherAt new (past_grown End past) false

-- the statement is carried out at the open node of the level
abbrev pub SignsAt : (old new : MatcherView) → ℕ → OffTree → Type 0
SignsAt old new here off =
    (past : Past) (text : Bool) (n : Node) → MatcherAt old past text → In off (offs_in past.plan.body) → In n (open_nodes past.tree) → level n ≡ here → In n (matches past.tree 0 (path_of past.plan off.base))
    → MatcherAt new (past_acted (Offed off (serial_of n)) past) text

-- the roles of the node that it stands for that are taken back already
abbrev pub TakenHere : MatcherView → List Sign → List Role → Type 0
TakenHere m signs given =
    (past : Past) (text : Bool) (stands : MatcherAt m past text) → AreTaken (taken past.plan past.tree past.acts stands.here) signs (map (λ (r : Role). r.0) given)

-- where the roles of the signs before this one are told, those of it too are told
abbrev pub TellsSign : MatcherView → (last : Option ℕ) → Sign → (old new : List Role) → Type 0
TellsSign m last sign old new =
    (past : Past) (text : Bool) (stands : MatcherAt m past text) (before : List Sign) → In sign m.signs → ((s : Sign) → In s before → s.role ≤ sign.role) → ((r : ℕ) → last ≡ Some r → HasSign before r)
    → AreTaken (taken past.plan past.tree past.acts stands.here) before (map (λ (r : Role). r.0) old) → AreTaken (taken past.plan past.tree past.acts stands.here) (before ++ sign ∷ []) (map (λ (r : Role). r.0) new)

-- whether the sign's role is taken back from the innermost node
abbrev pub SaysTaken : MatcherView → Sign → Bool → Type 0
SaysTaken m sign is = (past : Past) (text : Bool) (stands : MatcherAt m past text) → In sign m.signs → is ≡ taken past.plan past.tree past.acts stands.here sign.role
