-- How a copy goes on, by frames that look each at one node and its children alone.
use Rattle.std.specs.Prelude.{◌≡◌, ℕ, suc, ◌≤◌, true, false, List, [], ◌∷◌, ◌++◌, length, Option, Some, None, ◌⊎◌}
use Rattle.gcx_base.specs.declared.kind.Kind.TheVariants.{Document, Element, Text}
use Rattle.gcx_model.specs.Tree.{Node, kind_of, Tree, opening, is_closed}
use Rattle.gcx_model.specs.Members.{In}
use Rattle.gcx_model.specs.Answer.{children}
use Rattle.gcx_model.specs.Written.{start_tag, end_tag, escaped}
use Rattle.gcx_model.specs.Core.{Copy, BodyTree, Then, PlanTree}
use Rattle.gcx_model.specs.Truth.{Env}
use Rattle.gcx_model.specs.Run.{Action, Wrote, seq, run, env0}
use Rattle.gcx_model.specs.Nodes.{Grown}
use Rattle.gcx_model.specs.Cores.{Good}
use Rattle.gcx_model.specs.Placed.{Placed}
use Rattle.gcx_model.specs.Held.{held, held_tree}
use Rattle.gcx_model.specs.Growth.{Leads}
use Rattle.gcx_model.specs.Points.{actions, so_far, CoreState, Frame, Rest, to_come, PointAt}
use Rattle.gcx_model.specs.Copying.{CopyFrame, Inside, has_inside, copy_all, IsCopyPoint, next_children, copy_left, FinePoint}
use Rattle.move_laws.specs.Moves.{IsNext, NoneLeft, AtPoint}

-- Behind the actions `before` of a copy come those that are left in its frames, and it is done where these are.
abbrev pub CopyGoesOn : Type 0
CopyGoesOn = (P : Tree) → Grown P → (n : Node) → In n P.nodes → (before : List Action) (inner : List CopyFrame) → IsCopyPoint P n before inner
    → ((copy_all P n).acts ≡ before ++ (copy_left P inner).acts) × ((copy_all P n).done ≡ (copy_left P inner).done)

-- the first actions of a copy: none, or all of one that is done, or those behind which its frames are such a point
pub data Cut (P : Tree) (n : Node) (before : List Action) : Type 0 where
  AtStart : before ≡ [] → Cut P n before
  AtEnd : copy_all P n ≡ record { acts = before; done = true } → Cut P n before
  Amid : (inner : List CopyFrame) → IsCopyPoint P n before inner → Cut P n before

-- Wherever the actions of a copy are cut in two, it is one of these.
abbrev pub CopyIsCut : Type 0
CopyIsCut = (P : Tree) → Grown P → (n : Node) → In n P.nodes → (before rest : List Action) → (copy_all P n).acts ≡ before ++ rest → Cut P n before

-- these frames are the point behind k actions, within a copy or not, over an open tree that has grown so far
pub record AtFinePoint (plan : PlanTree) (P : Tree) (k : ℕ) (inner : List CopyFrame) (fs : List Frame) : Type 0 where
  pub grown : Leads opening P
  pub point : FinePoint plan P k inner fs

-- From such a point on, all that is still to come follows on the first k actions.
abbrev pub FineResume : Type 0
FineResume = (plan : PlanTree) (P : Tree) (k : ℕ) (inner : List CopyFrame) (fs : List Frame) → AtFinePoint plan P k inner fs
    → (actions plan P ≡ so_far plan P k ++ (seq (copy_left P inner) (to_come P fs)).acts) × ((run plan.body env0 P).done ≡ (seq (copy_left P inner) (to_come P fs)).done)

-- Behind each number of actions there is one, above a rest.
abbrev pub FinePoints : Type 0
FinePoints = (plan : PlanTree) (P : Tree) → Leads opening P → (k : ℕ) → (inner : List CopyFrame) × (d : BodyTree) × (env : Env) × (below : List Frame) × FinePoint plan P k inner (Rest d env ∷ below)

-- It stays one while tokens come.
abbrev pub FinePointStays : Type 0
FinePointStays = (plan : PlanTree) (P Q : Tree) (k : ℕ) → Leads opening P → Leads P Q → k ≤ length (actions plan P) → (inner : List CopyFrame) (fs : List Frame) → FinePoint plan P k inner fs → FinePoint plan Q k inner fs

-- A copy begins: that of a text is the next action; of an element the start tag is, and then come its children; of the document node the children come, with no action.
abbrev pub CopyBegins : Type 0
CopyBegins = (plan : PlanTree) (P : Tree) (k : ℕ) (x : ℕ) (d : BodyTree) (env : Env) (fs : List Frame) → AtPoint plan P k (Rest (Then (Copy x) d) env ∷ fs)
    → ((b : List ℕ) → kind_of (env x) ≡ Text b → IsNext plan P k (Wrote (escaped b)) × PointAt plan P (suc k) (Rest d env ∷ fs))
    × ((name : List ℕ) → kind_of (env x) ≡ Element name → IsNext plan P k (Wrote (start_tag name)) × FinePoint plan P (suc k) (Inside (env x) None ∷ []) (Rest d env ∷ fs))
    × (kind_of (env x) ≡ Document → FinePoint plan P k (Inside (env x) None ∷ []) (Rest d env ∷ fs))

-- A copy goes on with the next child: a text is the next action; of an element the start tag is, and then come its children.
abbrev pub CopySteps : Type 0
CopySteps = (plan : PlanTree) (P : Tree) (k : ℕ) (m : Node) (present : Option Node) (inner : List CopyFrame) (fs : List Frame) (c : Node) (post : List Node)
    → AtFinePoint plan P k (Inside m present ∷ inner) fs → next_children P m present ≡ c ∷ post
    → ((b : List ℕ) → kind_of c ≡ Text b → IsNext plan P k (Wrote (escaped b)) × FinePoint plan P (suc k) (Inside m (Some c) ∷ inner) fs)
    × ((name : List ℕ) → kind_of c ≡ Element name → IsNext plan P k (Wrote (start_tag name)) × FinePoint plan P (suc k) (Inside c None ∷ Inside m (Some c) ∷ inner) fs)

-- With no next child, and none that comes, the copy of an element ends: its end tag is the next action; that of the document node ends with no action.
abbrev pub CopyEnds : Type 0
CopyEnds = (plan : PlanTree) (P : Tree) (k : ℕ) (m : Node) (present : Option Node) (inner : List CopyFrame) (fs : List Frame)
    → AtFinePoint plan P k (Inside m present ∷ inner) fs → next_children P m present ≡ [] → is_closed P m ≡ true
    → ((name : List ℕ) → kind_of m ≡ Element name → IsNext plan P k (Wrote (end_tag name)) × FinePoint plan P (suc k) inner fs)
    × (kind_of m ≡ Document → FinePoint plan P k inner fs)

-- With no next child yet, no action is left, and the run isn't done.
abbrev pub CopyWaits : Type 0
CopyWaits = (plan : PlanTree) (P : Tree) (k : ℕ) (m : Node) (present : Option Node) (inner : List CopyFrame) (fs : List Frame)
    → AtFinePoint plan P k (Inside m present ∷ inner) fs → next_children P m present ≡ [] → is_closed P m ≡ false → NoneLeft plan P k false

-- Each frame is of a node that can have children; its present node is one of these; and it stands at the bottom, or on the frame whose present child its node is.
abbrev pub CopyFramesStand : Type 0
CopyFramesStand = (plan : PlanTree) (P : Tree) (k : ℕ) (above : List CopyFrame) (m : Node) (present : Option Node) (below : List CopyFrame) (fs : List Frame)
    → FinePoint plan P k (above ++ Inside m present ∷ below) fs
    → (has_inside (kind_of m) ≡ true) × ((c : Node) → present ≡ Some c → In c (children P m)) × ((below ≡ []) ⊎ ((o : Node) × (rest : List CopyFrame) × (below ≡ Inside o (Some m) ∷ rest)))

-- The nodes of these frames are held, and each has over the held nodes the children that it has over the tree.
abbrev pub InsideHeld : Type 0
InsideHeld = (core : BodyTree) → Good core → (plan : PlanTree) → Placed core plan → (P : Tree) (k : ℕ) → CoreState plan P k
    → (above : List CopyFrame) (m : Node) (present : Option Node) (below : List CopyFrame) (fs : List Frame) → FinePoint plan P k (above ++ Inside m present ∷ below) fs
    → In m (held plan P (so_far plan P k)) × (children (held_tree plan P (so_far plan P k)) m ≡ children P m)
