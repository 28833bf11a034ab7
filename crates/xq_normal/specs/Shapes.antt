-- This follows the code, for its proofs: no public clause speaks of it.
-- How often a condition is copied when its If is moved inside the loops of its branches.
use Rattle.std.specs.Prelude.{ℕ, ◌+◌, ◌-◌, ◌^◌, min, Bool, true, false, not, ◌&&◌, ◌||◌, if◌then◌else◌}
use Rattle.gcx_model.specs.Core.{ItemTree, Write, Copy, For, If, SignOff, BodyTree, Nil, Then}
use Rattle.xq_normal.specs.declared.shape.Shape.{Shape as CodeShape}
use Rattle.xq_normal.specs.declared.shape.Shape.TheVariants as code

-- a count that stands still at its type's end
abbrev pub capped : ℕ → ℕ
capped n = min n (2 ^ 64 - 1)

-- A body is empty, or one run of items that aren't loops, or it has loops.
-- With loops: how many Ifs a condition is copied to when it is moved into the body, but for that of a run at its front; whether it begins with a run, and whether it ends with one.
pub data ShapeTree : Type 0 where
  NoItems : ShapeTree
  OneRun : ShapeTree
  HasLoops : (inner : ℕ) (front back : Bool) → ShapeTree

abbrev pub once : Bool → ℕ
once true = 1
once false = 0

-- the shape of two bodies, one behind the other: a run at the end of the first and one at the front of the second are one run
abbrev pub beside : ShapeTree → ShapeTree → ShapeTree
beside NoItems s = s
beside OneRun NoItems = OneRun
beside OneRun OneRun = OneRun
beside OneRun (HasLoops i f b) = HasLoops i true b
beside (HasLoops i f b) NoItems = HasLoops i f b
beside (HasLoops i f b) OneRun = HasLoops (i + once (not b)) f true
beside (HasLoops i f b) (HasLoops j g c) = HasLoops (i + (j + once (g && not b))) f c

-- how many copies moving a condition into a body makes
abbrev pub copies : ShapeTree → ℕ
copies NoItems = 0
copies OneRun = 1
copies (HasLoops i f b) = i + once f

-- and into the body of a loop, where an empty one gets an If too
abbrev pub turn_copies : ShapeTree → ℕ
turn_copies NoItems = 1
turn_copies OneRun = 1
turn_copies (HasLoops i f b) = i + once f

abbrev pub is_looped : ShapeTree → Bool
is_looped NoItems = false
is_looped OneRun = false
is_looped (HasLoops i f b) = true

abbrev mutual
  pub item_shape : ItemTree → ShapeTree
  item_shape (Write s) = OneRun
  item_shape (Copy x) = OneRun
  item_shape (For x y s d) = HasLoops (turn_copies (shape_of d)) false false
  item_shape (If c a b) = OneRun
  item_shape (SignOff o) = OneRun

  pub shape_of : BodyTree → ShapeTree
  shape_of Nil = NoItems
  shape_of (Then i d) = beside (item_shape i) (shape_of d)

-- how many copies an If has of its condition, and its shape, when it is moved inside the loops of branches of these shapes
abbrev pub branch_copies : ShapeTree → ShapeTree → ℕ
branch_copies a b = if is_looped a || is_looped b then copies a + copies b else 1

abbrev pub branch_shape : ShapeTree → ShapeTree → ShapeTree
branch_shape a b = if is_looped a || is_looped b then beside a b else OneRun

-- the shape as the code has it
abbrev pub code_shape : ShapeTree → CodeShape
code_shape NoItems = code.Empty
code_shape OneRun = code.Run
code_shape (HasLoops i f b) = code.Loops (capped i) f b
