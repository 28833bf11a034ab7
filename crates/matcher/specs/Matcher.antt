-- What a matcher stands for (this project's).
use Rattle.std.specs.Prelude.{◌≡◌, ◌<◌, ◌≤◌, ◌+◌, ◌↔◌, ◌⊎◌, ℕ, suc, Bool, true, false, [], length, Some, slice_get}
use Rattle.gcx_model.specs.Tree.{Node, above}
use Rattle.gcx_model.specs.Paths.{hits}
use Rattle.gcx_model.specs.Core.{OffTree}
use Rattle.gcx_model.specs.Held.{signed}
use Rattle.gcx_model.specs.Growth.{level}
use Rattle.gcx_model.specs.Members.{In}
use Rattle.gcx_model.specs.Past.{Past, IsPast, IsLast}
use Rattle.gcx_model.specs.Placed.{offs_in}
use Rattle.path_states.specs.PathTree.{IsPathTree}
use Rattle.matcher.specs.Frame.{IsFrame}
use Rattle.matcher.specs.Signs.{InTurn}
use Rattle.matcher.specs.View.{FrameView, MatcherView, innermost_frame}
use Rattle.matcher.specs.declared.signs.Sign.{Sign}

-- the statement that is signed at a node of the level, with the number of its steps to the role's variable
pub record IsSign (past : Past) (a : Node) (s : Sign) : Type 0 where
  pub off : OffTree
  pub of : In off (offs_in past.plan.body)
  pub role : off.role ≡ s.role
  pub steps : length off.rel ≡ s.steps
  pub node : Node
  pub among : In node (above a)
  pub at : level node ≡ s.level
  pub is : signed past.acts off node ≡ true

-- The matcher stands for the tree of the past with its actions; `text` says whether the innermost node is the last text.
-- The nodes from the document node on have frames. A node below them is hit by no path, and so is none that comes below it.
pub record MatcherAt (m : MatcherView) (past : Past) (text : Bool) : Type 0 where
  pub is_past : IsPast past
  pub tree : IsPathTree past.plan m.tree
  pub flag : m.text ≡ text
  pub here : Node
  pub innermost : IsLast past.tree text here
  pub some : 0 < length m.frames
  pub levels : length m.frames + m.idle ≡ suc (level here)
  pub frames : (a : Node) (frame : FrameView) → In a (above here) → slice_get m.frames (level a) ≡ Some frame → IsFrame past.plan past.tree m.tree.states.items tree.path frame a
  pub idle : (a : Node) → In a (above here) → length m.frames ≤ level a → (c : ℕ) → c < length m.tree.states.items → hits 0 (tree.path c) a ≡ false
  pub over : (frame : FrameView) → innermost_frame m.frames ≡ Some frame → 0 < m.idle → (frame.pending ≡ []) ⊎ ((text ≡ true) × (m.idle ≡ 1))
  pub signs : (s : Sign) → In s m.signs ↔ IsSign past here s
  pub marked : (s : Sign) (frame : FrameView) → In s m.signs → slice_get m.frames s.level ≡ Some frame → frame.signed ≡ true
  pub turn : InTurn m.signs
  pub fresh : text ≡ true → (o : OffTree) → signed past.acts o here ≡ false
