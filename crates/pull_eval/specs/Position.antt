-- Where a machine stands beside the rows of a buffer (this project's).
use Rattle.std.specs.Prelude.{◌≡◌, ◌<◌, ◌≤◌, ◌⊎◌, ℕ, true, false, List, [], ◌∷◌, ◌++◌, length, map, reverse, Option, Some, None}
use Rattle.gcx_base.specs.declared.steps.Step.{Step}
use Rattle.gcx_model.specs.Tree.{Node, serial_of, Tree}
use Rattle.gcx_model.specs.Paths.{matches}
use Rattle.gcx_model.specs.Members.{In}
use Rattle.gcx_model.specs.Core.{ItemTree, Write, Copy, For, If, BodyTree, Nil, Then, PlanTree}
use Rattle.gcx_model.specs.Core as tree
use Rattle.gcx_model.specs.Truth.{Env, bind_var}
use Rattle.gcx_model.specs.Run.{env0}
use Rattle.gcx_model.specs.Copying.{CopyFrame, Inside, FinePoint}
use Rattle.gcx_model.specs.Points.{Frame, Rest, LoopRound, later, Bound_in}
use Rattle.gcx_model.specs.ItemView.{item_tree, body_of}
use Rattle.gcx_model.specs.declared.item.Item.{Item}
use Rattle.gcx_model.specs.declared.item.Item.TheVariants as item
use Rattle.gcx_model.specs.declared.item.Off.{Off}
use Rattle.node_store.specs.declared.store.Place.{Place}
use Rattle.buf_tree.specs.Shape.{Cell}
use Rattle.cond_eval.specs.Asking.{PlacedAt, IsBound}
use Rattle.pull_eval.specs.Turns.{TurnsStand}
use Rattle.pull_eval.specs.declared.block.Next.{Next}
use Rattle.pull_eval.specs.declared.block.Next.TheVariants.{Unsought, Found, NoneUpTo}
use Rattle.pull_eval.specs.declared.block.Round.{Round as CodeRound}
use Rattle.pull_eval.specs.declared.block.Block.{Block}
use Rattle.pull_eval.specs.declared.block.Copying.{Copying}
use Rattle.pull_eval.specs.declared.position.Position.{Position}

-- the items as a plain tree
abbrev pub items : List Item → BodyTree
items is = body_of (map item_tree is)

-- what is known of the matches of a loop behind that at hand, of which these are all
abbrev pub KnowsNext : List Cell → (behind : List Node) → Next → Type 0
KnowsNext rows ms Unsought = Unit {0}
KnowsNext rows ms (Found p) = (m : Node) × (rest : List Node) × (ms ≡ m ∷ rest) × PlacedAt rows (serial_of m) p.0
KnowsNext rows ms (NoneUpTo s) = (m : Node) → In m ms → s.0 < serial_of m

-- the last item is a statement
abbrev pub EndsWithOff : List Item → Type 0
EndsWithOff is = (front : List Item) × (o : Off) × (is ≡ front ++ item.Off o ∷ [])

-- where the next match isn't looked for yet, a statement is still to come in the body, before which it is
abbrev pub LooksInTime : Next → List Item → Type 0
LooksInTime Unsought rest = EndsWithOff rest
LooksInTime (Found p) rest = Unit {0}
LooksInTime (NoneUpTo s) rest = Unit {0}

-- where the serial up to which there is none is that of a node, not before the match at hand
abbrev pub IsUpTo : Tree → Node → Next → Type 0
IsUpTo P n Unsought = Unit {0}
IsUpTo P n (Found p) = Unit {0}
IsUpTo P n (NoneUpTo s) = (serial_of n ≤ s.0) × (s.0 < length P.nodes)

-- the loop of the round, at the match n
pub record IsRound (rows : List Cell) (P : Tree) (r : CodeRound) (x y : ℕ) (s : Step) (e : BodyTree) (env : Env) (n : Node) : Type 0 where
  pub var : r.var.0 ≡ x
  pub step : r.step.now ≡ s
  pub body : items r.body.now ≡ e
  pub context : PlacedAt rows (serial_of (env y)) r.context.0
  pub present : PlacedAt rows (serial_of n) r.present.0
  pub next : KnowsNext rows (later n (matches P (serial_of (env y)) (s ∷ []))) r.next
  pub upto : IsUpTo P n r.next

-- Where a loop comes next, its first match isn't among the nodes up to the serial k, which is 0 or that of a node.
abbrev pub SeenItem : Tree → Env → ItemTree → (k : ℕ) → Type 0
SeenItem P env (Write b) k = Unit {0}
SeenItem P env (Copy x) k = Unit {0}
SeenItem P env (For x y s d) k = ((m : Node) → In m (matches P (serial_of (env y)) (s ∷ [])) → k < serial_of m) × ((k ≡ 0) ⊎ (k < length P.nodes))
SeenItem P env (If c a b) k = Unit {0}
SeenItem P env (tree.SignOff o) k = Unit {0}

abbrev pub SeenTo : Tree → Env → BodyTree → (k : ℕ) → Type 0
SeenTo P env Nil k = Unit {0}
SeenTo P env (Then i d) k = SeenItem P env i k

-- The frames that the blocks stand for, the top one first: of each the rest of its body, and below it the round whose body it is.
pub data AreFrames (rows : List Cell) (P : Tree) : List Block → List Frame → Type 0 where
  none : AreFrames rows P [] []
  alone : {b : Block} {bs : List Block} {env : Env} {fs : List Frame} → b.round ≡ None → SeenTo P env (items b.rest.now) b.seen → AreFrames rows P bs fs
      → AreFrames rows P (b ∷ bs) (Rest (items b.rest.now) env ∷ fs)
  in_round : {b : Block} {bs : List Block} {fs : List Frame} (r : CodeRound) {x y : ℕ} {s : Step} {e : BodyTree} {env : Env} {n : Node} → b.round ≡ Some r → IsRound rows P r x y s e env n → LooksInTime r.next b.rest.now
      → SeenTo P (bind_var env x n) (items b.rest.now) b.seen → AreFrames rows P bs fs → AreFrames rows P (b ∷ bs) (Rest (items b.rest.now) (bind_var env x n) ∷ LoopRound x y s e env n ∷ fs)

-- the child whose copy is over last stands at the place
abbrev pub PresentAt : List Cell → Option Node → Option Place → Type 0
PresentAt rows None None = Unit {0}
PresentAt rows None (Some p) = ⊥
PresentAt rows (Some c) None = ⊥
PresentAt rows (Some c) (Some p) = PlacedAt rows (serial_of c) p.0

-- the copy in progress: within the node of its innermost frame, of the node of its outermost one
pub record IsCopy (rows : List Cell) (c : Copying) (inner : List CopyFrame) : Type 0 where
  pub node : Node
  pub present : Option Node
  pub below : List CopyFrame
  pub innermost : inner ≡ Inside node present ∷ below
  pub at_node : PlacedAt rows (serial_of node) c.node.0
  pub at_present : PresentAt rows present c.present
  pub over : List CopyFrame
  pub copied : Node
  pub last : Option Node
  pub outermost : inner ≡ over ++ Inside copied last ∷ []
  pub at_copied : PlacedAt rows (serial_of copied) c.top.0

abbrev pub Copies : List Cell → Option Copying → List CopyFrame → Type 0
Copies rows None inner = inner ≡ []
Copies rows (Some c) inner = IsCopy rows c inner

-- The position is the point behind k actions of the plan's run, beside these rows. Before the first move variable 0 isn't bound.
pub record StandsAt (plan : PlanTree) (w : Position) (rows : List Cell) (P : Tree) (k : ℕ) : Type 0 where
  pub inner : List CopyFrame
  pub fs : List Frame
  pub point : FinePoint plan P k inner fs
  pub frames : AreFrames rows P (w.top ∷ reverse w.below.items) fs
  pub copies : Copies rows w.copying inner
  pub bound : w.is_begun ≡ true → (x : ℕ) (n : Node) → Bound_in x n fs → IsBound rows w.env x n
  pub begins : w.is_begun ≡ false → (inner ≡ []) × (fs ≡ Rest plan.body env0 ∷ [])
  pub turns : TurnsStand rows P w.turns.items
