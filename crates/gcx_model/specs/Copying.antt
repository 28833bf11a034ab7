-- The point within a copy, as a stack of frames that look each at one node and its children alone (this project's).
use Rattle.std.specs.Prelude.{◌≡◌, ℕ, Bool, true, false, List, [], ◌∷◌, ◌++◌, length, Option, Some, None}
use Rattle.gcx_base.specs.declared.kind.Kind.{Kind}
use Rattle.gcx_base.specs.declared.kind.Kind.TheVariants.{Document, Element, Text}
use Rattle.gcx_model.specs.Tree.{Node, kind_of, Tree, is_closed}
use Rattle.gcx_model.specs.Answer.{children}
use Rattle.gcx_model.specs.Written.{start_tag, end_tag}
use Rattle.gcx_model.specs.Core.{PlanTree}
use Rattle.gcx_model.specs.Truth.{Env}
use Rattle.gcx_model.specs.Run.{Action, Wrote, Out, idle, seq, loop, copy}
use Rattle.gcx_model.specs.Points.{Frame, CopyPart, later, PointAt}

-- within the copy of a node: the child whose copy is going on in the frame above, or else the last one whose copy is over, if there is one
pub data CopyFrame : Type 0 where
  Inside : (node : Node) (present : Option Node) → CopyFrame

-- all but texts have children
abbrev pub has_inside : Kind → Bool
has_inside Document = true
has_inside (Element name) = true
has_inside (Text b) = false

-- what is written before the children
abbrev pub begun : Kind → List Action
begun Document = []
begun (Element name) = Wrote (start_tag name) ∷ []
begun (Text b) = []

-- and behind them
abbrev pub ended : Kind → List Action
ended Document = []
ended (Element name) = Wrote (end_tag name) ∷ []
ended (Text b) = []

-- the copy of a node; no tree is deeper than it has nodes
abbrev pub copy_all : Tree → Node → Out
copy_all P n = copy (length P.nodes) P n

-- the copies of some children, one after the other
abbrev pub copies : Tree → List Node → Out
copies P ns = loop (copy_all P) ns true

abbrev pub last_of : List Node → Option Node
last_of [] = None
last_of (n ∷ []) = Some n
last_of (m ∷ n ∷ ns) = last_of (n ∷ ns)

-- Behind the actions `before` of the copy of n that of m begins, above these frames: before each child on the way the copies of those in front of it are done.
pub data ComesTo (P : Tree) (n : Node) : (m : Node) → (before : List Action) → List CopyFrame → Type 0 where
  Itself : ComesTo P n n [] []
  Below : {m : Node} {before : List Action} {below : List CopyFrame} → (pre : List Node) (c : Node) (post : List Node) → ComesTo P n m before below
      → has_inside (kind_of m) ≡ true → children P m ≡ pre ++ c ∷ post → (copies P pre).done ≡ true → ComesTo P n c (before ++ (begun (kind_of m) ++ (copies P pre).acts)) (Inside m (Some c) ∷ below)

-- These frames are the point behind the actions `before` of the copy of n: the one at the top is within the copy of its node, and those of the first children are done.
pub data IsCopyPoint (P : Tree) (n : Node) : (before : List Action) → List CopyFrame → Type 0 where
  InNode : {m : Node} {before : List Action} {below : List CopyFrame} → (pre post : List Node) → ComesTo P n m before below
      → has_inside (kind_of m) ≡ true → children P m ≡ pre ++ post → (copies P pre).done ≡ true → IsCopyPoint P n (before ++ (begun (kind_of m) ++ (copies P pre).acts)) (Inside m (last_of pre) ∷ below)

-- the children whose copies are still to come
abbrev pub next_children : Tree → Node → (present : Option Node) → List Node
next_children P n None = children P n
next_children P n (Some c) = later c (children P n)

-- what is still to come of the copy, of the frames from the top: the copies of the next children, and once no more come, the end tag
abbrev pub copy_left : Tree → List CopyFrame → Out
copy_left P [] = idle true
copy_left P (Inside n present ∷ fs) = seq (seq (loop (copy_all P) (next_children P n present) (is_closed P n)) (record { acts = ended (kind_of n); done = true })) (copy_left P fs)

-- Behind the first k actions of a plan's run: within the copy of a variable's node these frames are the point, above the frames fs.
pub record CopyingAt (plan : PlanTree) (P : Tree) (k : ℕ) (inner : List CopyFrame) (fs : List Frame) : Type 0 where
  pub var : ℕ
  pub env : Env
  pub made : List Action
  pub point : PointAt plan P k (CopyPart var env (length made) ∷ fs)
  pub inside : IsCopyPoint P (env var) made inner

-- the same for a point of both kinds: with no frames of a copy it isn't within one
abbrev pub FinePoint : PlanTree → Tree → ℕ → List CopyFrame → List Frame → Type 0
FinePoint plan P k [] fs = PointAt plan P k fs
FinePoint plan P k (f ∷ inner) fs = CopyingAt plan P k (f ∷ inner) fs
