-- How a new node is entered (this project's). This follows the code: private functions alone speak of it.
use Rattle.std.specs.Prelude.{◌≡◌, ◌<◌, ◌≤◌, ◌-◌, ◌⊎◌, ◌++◌, ◌∷◌, ◌^◌, ℕ, suc, Bool, true, false, List, [], length, map, Option, Some, None, slice_get}
use Rattle.gcx_base.specs.Kinds.{is_text}
use Rattle.gcx_base.specs.declared.ids.Role.{Role}
use Rattle.gcx_base.specs.declared.kind.Kind.{Kind}
use Rattle.gcx_base.specs.declared.steps.Step.{Step}
use Rattle.gcx_model.specs.Tree.{Node, Tree, TreeToken, grow}
use Rattle.gcx_model.specs.Paths.{hits}
use Rattle.gcx_model.specs.Core.{First, PlanTree, RoleRowTree}
use Rattle.gcx_model.specs.Held.{path_of}
use Rattle.gcx_model.specs.Growth.{level, may_come}
use Rattle.gcx_model.specs.Members.{In}
use Rattle.gcx_model.specs.Past.{Past, IsPast, open_nodes, Opens, IsNode, token_for}
use Rattle.path_states.specs.Active.{ActiveBelow}
use Rattle.path_states.specs.Lists.{Climbs, From, Gains}
use Rattle.path_states.specs.Names.{IsNameNumber}
use Rattle.path_states.specs.PathTree.{IsPathTree}
use Rattle.path_states.specs.State.{StateView, MovesBelow}
use Rattle.path_states.specs.States.{StatesView, Enters, last_state}
use Rattle.path_states.specs.declared.paths.PathState.{PathState}
use Rattle.path_states.specs.declared.paths.PathTree.{PathTree}
use Rattle.matcher.specs.Frame.{IsFound, IsFrame, IsRole}
use Rattle.matcher.specs.Frames.{AreRoles}
use Rattle.matcher.specs.Matcher.{MatcherAt}
use Rattle.matcher.specs.Parts.{NodeMarks, new_marks}
use Rattle.matcher.specs.Stacks.{AreMatched}
use Rattle.matcher.specs.View.{FrameView, GoTogether, MatcherView, frames_of, innermost_frame}
use Rattle.matcher.specs.declared.frames.Found.{Found}

-- the frames are those of the open nodes, and the token opens the node n
pub record Comes (past : Past) (tree : PathTree) (told : List FrameView) (t : TreeToken) (n : Node) : Type 0 where
  pub is_past : IsPast past
  pub are : IsPathTree past.plan tree
  pub opens : Opens past.tree t n
  pub count : length told ≡ level n
  pub frames : (a : Node) (frame : FrameView) → In a (open_nodes past.tree) → slice_get told (level a) ≡ Some frame → IsFrame past.plan past.tree tree.states.items are.path frame a

-- the path state's path leads to the node
abbrev pub LeadsTo : (ℕ → List Step) → Node → ℕ → Type 0
LeadsTo path n c = hits 0 (path c) n ≡ true

-- so does the role's path
abbrev pub RoleLeads : PlanTree → Node → ℕ → Type 0
RoleLeads plan n r = (row : RoleRowTree) → IsRole plan First r row → hits 0 (path_of plan row.var ++ row.tail) n ≡ true

-- f is the role with the level of a context whose first match the node is
abbrev pub FoundOf : PlanTree → Tree → Node → ℕ → Found → Type 0
FoundOf plan P n r f = (f.role ≡ r) × IsFound plan P n f

-- the same of a role that ends at the path state p
pub record Firsts (plan : PlanTree) (P : Tree) (n : Node) (tree : List PathState) (p : ℕ) (f : Found) : Type 0 where
  pub state : PathState
  pub at : slice_get tree p ≡ Some state
  pub from : From state.first.items (FoundOf plan P n) f

-- What is added are the contexts of the role whose first match a new node of the level is, to which the role's path leads; where there are states for all marks.
abbrev pub FindsRole : StatesView → List NodeMarks → (role here : ℕ) → (before now : List Found) → Type 0
FindsRole v marks role here before now =
    length marks ≤ length v.states → (past : Past) (t : TreeToken) (n : Node) → Comes past v.tree (frames_of v marks) t n → level n ≡ here → RoleLeads past.plan n role → Gains before now (FoundOf past.plan (grow t past.tree) n role)

-- the same for each of the roles
abbrev pub FindsRoles : StatesView → List NodeMarks → (roles : List ℕ) → (here : ℕ) → (before now : List Found) → Type 0
FindsRoles v marks roles here before now =
    length marks ≤ length v.states → (past : Past) (t : TreeToken) (n : Node) → Comes past v.tree (frames_of v marks) t n → level n ≡ here → ((r : ℕ) → In r roles → RoleLeads past.plan n r)
    → Gains before now (From roles (FoundOf past.plan (grow t past.tree) n))

-- the same for the roles that end at the path state, whose path leads to the new node
abbrev pub FindsAt : StatesView → List NodeMarks → (state here : ℕ) → (before now : List Found) → Type 0
FindsAt v marks state here before now =
    length marks ≤ length v.states → (past : Past) (t : TreeToken) (n : Node) → (b : Comes past v.tree (frames_of v marks) t n) → level n ≡ here → LeadsTo b.are.path n state
    → Gains before now (Firsts past.plan (grow t past.tree) n v.tree.states.items state)

-- the same for each of the path states
abbrev pub FindsAll : StatesView → List NodeMarks → (active : List ℕ) → (here : ℕ) → (before now : List Found) → Type 0
FindsAll v marks active here before now =
    length marks ≤ length v.states → (past : Past) (t : TreeToken) (n : Node) → (b : Comes past v.tree (frames_of v marks) t n) → level n ≡ here → ((c : ℕ) → In c active → LeadsTo b.are.path n c)
    → Gains before now (From active (Firsts past.plan (grow t past.tree) n v.tree.states.items))

-- the innermost frame tells that no path leads below it, and that nothing is pending there
pub record IsOver (m : MatcherView) : Type 0 where
  pub nothing : (frame : FrameView) (kind : Kind) (c : ℕ) → innermost_frame m.frames ≡ Some frame → ActiveBelow m.tree.states.items frame.active frame.pending kind c → ⊥
  pub pending : (frame : FrameView) → innermost_frame m.frames ≡ Some frame → frame.pending ≡ []

-- why no path leads to a new node
abbrev pub IsIdle : MatcherView → (text : Bool) → Type 0
IsIdle m text = (0 < m.idle) ⊎ (((text ≡ true) × (m.tree.texts ≡ false)) ⊎ IsOver m)

-- a node of this kind may come
pub record Goes (m : MatcherView) (past : Past) (kind : Kind) : Type 0 where
  pub stands : MatcherAt m past false
  pub node : IsNode kind
  pub may : may_come (token_for kind) past.tree ≡ true

-- a node of this kind, whose name has the number, may come below one that has a frame
pub record GoesBy (m : MatcherView) (past : Past) (kind : Kind) (number : ℕ) (text : Bool) : Type 0 where
  pub goes : Goes m past kind
  pub by : IsNameNumber m.names kind number
  pub flag : is_text kind ≡ text
  pub here : m.idle ≡ 0

-- one idle node more, which is the innermost one
pub record IsIdled (before now : MatcherView) (text : Bool) : Type 0 where
  pub is : now ≡ record before { idle = now.idle; text = text }
  pub idle : before.idle < 2 ^ 32 - 1 → now.idle ≡ suc before.idle

-- the roles are those of the whole subtrees in which the node of the innermost frame lies
abbrev pub GivesInside : MatcherView → List Role → Type 0
GivesInside m given = (frame : FrameView) → innermost_frame m.frames ≡ Some frame → Climbs frame.whole → map (λ (r : Role). r.0) given ≡ frame.whole

-- no path leads to the node with this state, nor to any below it
pub record IsVain (s : StateView) (text : Bool) : Type 0 where
  pub none : s.active ≡ []
  pub quiet : (text ≡ true) ⊎ (s.pending ≡ [])

-- the same of a new node whose name has the number
pub record Halts (v : StatesView) (number : ℕ) (text : Bool) : Type 0 where
  pub state : StateView
  pub leads : (above : StateView) (kind : Kind) → last_state v.states ≡ Some above → IsNameNumber v.names kind number → MovesBelow v.tree.states.items above kind state
  pub vain : IsVain state text

-- the contexts whose first match the node with the innermost state is, which has no frame yet
abbrev pub FindsHere : StatesView → List NodeMarks → List Found → Type 0
FindsHere v marks found = (s : StateView) → last_state v.states ≡ Some s → FindsAll v marks s.active (length marks) [] found

-- one frame more: that of the node with the innermost state, whose first matches these are
pub record AddsFrame (v : StatesView) (before now : List NodeMarks) (found : List Found) : Type 0 where
  pub state : StateView
  pub last : last_state v.states ≡ Some state
  pub marks : AreMatched found (before ++ new_marks state.contexts found ∷ []) now
  pub firsts : FindsAll v before state.active (length before) [] found

-- the same, whatever its first matches are
abbrev pub AddsSome : StatesView → (before now : List NodeMarks) → Type 0
AddsSome v before now = (found : List Found) × AddsFrame v before now found

-- the same, and these are the node's roles
pub record AddsGiven (v : StatesView) (before now : List NodeMarks) (given : List Role) : Type 0 where
  pub found : List Found
  pub frame : AddsFrame v before now found
  pub roles : AreRoles v.tree.states.items frame.state.whole frame.state.active found (map (λ (r : Role). r.0) given)

-- nothing is changed
abbrev pub HaveStayed : (before now : StatesView) → (marks later : List NodeMarks) → Type 0
HaveStayed before now marks later = (now ≡ before) × (later ≡ marks)

-- The states and the marks where a new node whose name has the number is entered. Where no path leads there, they have stayed.
abbrev pub EntersIfLed : (before now : StatesView) → (marks later : List NodeMarks) → (number : ℕ) → (text led : Bool) → Type 0
EntersIfLed before now marks later number text false = GoTogether before marks → (HaveStayed before now marks later × Halts before number text)
EntersIfLed before now marks later number text true = Enters before now number × AddsSome now marks later

-- the same with its roles
abbrev pub Advances : (before now : StatesView) → (marks later : List NodeMarks) → (number : ℕ) → (text : Bool) → Option (List Role) → Type 0
Advances before now marks later number text None = EntersIfLed before now marks later number text false
Advances before now marks later number text (Some given) = Enters before now number × AddsGiven now marks later given
