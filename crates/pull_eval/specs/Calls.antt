-- What each call makes of a position, and what it finds of the rows. Private functions alone speak of it.
use Rattle.std.specs.Prelude.{◌≡◌, ◌<◌, ℕ, true, List, Option, Some, MatchOption}
use Rattle.gcx_model.specs.Tree.{Tree}
use Rattle.gcx_model.specs.Members.{In}
use Rattle.gcx_model.specs.Core.{CondTree, If, OffTree, BodyTree, Then}
use Rattle.gcx_model.specs.Answer.{child_step}
use Rattle.gcx_model.specs.Past.{Past, past_acted}
use Rattle.gcx_model.specs.Placed.{offs_in}
use Rattle.gcx_model.specs.Run.{Offed}
use Rattle.node_store.specs.declared.store.Place.{Place}
use Rattle.buf_tree.specs.Shape.{Cell, num}
use Rattle.buf_tree.specs.Match.{IsChild, Unreached, FirstReached}
use Rattle.buf_tree.specs.Stands.{StandsFor}
use Rattle.buf_tree.specs.View.{View, serial_at}
use Rattle.pull_eval.specs.Acting.{Beside, Moves, IsNextItem, ChosenBranch, IsOver}
use Rattle.pull_eval.specs.Copies.{risen}
use Rattle.pull_eval.specs.Position.{items}
use Rattle.pull_eval.specs.declared.block.Copying.{Copying}
use Rattle.pull_eval.specs.declared.machine.Acted.{Acted}
use Rattle.pull_eval.specs.declared.position.Position.{Position}

-- ---- moves from the position m to n, for each past beside which it stands

abbrev pub MovesTo : (m n : Position) → (v w : View) → (before after : List ℕ) → Option Acted → Type 0
MovesTo m n v w before after a = (past : Past) (k : ℕ) → Beside m v past k → Moves past k m n v w before after a

-- nothing is written, whatever was before
abbrev pub MovesSilently : (m n : Position) → (v w : View) → Option Acted → Type 0
MovesSilently m n v w a = (past : Past) (k : ℕ) (out : List ℕ) → Beside m v past k → Moves past k m n v w out out a

-- the same where what finds the truth of conditions stands for the tree
abbrev pub MovesAsking : (before after : Tree → Type 0) → (m n : Position) → View → Option Acted → Type 0
MovesAsking before after m n v a = (past : Past) (k : ℕ) (out : List ℕ) → Beside m v past k → before past.tree → Moves past k m n v v out out a × after past.tree

-- into this branch of the condition that comes next, where it is chosen
abbrev pub MovesInto : (m n : Position) → (branch rest : BodyTree) → Option Acted → Type 0
MovesInto m n branch rest a = (c : CondTree) (this other : BodyTree) (v : View) (past : Past) (k : ℕ) (out : List ℕ) → IsNextItem m (If c this other) rest → (b : Beside m v past k)
    → ChosenBranch past.tree b.position.fs c this other branch → Moves past k m n v v out out a

-- behind a body that is over
abbrev pub MovesBehind : (m n : Position) → Option Acted → Type 0
MovesBehind m n a = (v : View) (past : Past) (k : ℕ) (out : List ℕ) → (b : Beside m v past k) → IsOver past.tree b.position.fs → Moves past k m n v v out out a

-- ---- what was asked

-- If a condition comes next, it was asked last.
pub record WasAsked (asked : CondTree → Type 0) (w : Position) : Type 0 where
  pub begun : w.is_begun ≡ true
  pub last : (c : CondTree) (this other rest : BodyTree) → items w.top.rest.now ≡ Then (If c this other) rest → asked c

-- ---- what is found

-- the next child of the node at p, behind that at q or the first one
abbrev pub FindsChild : List Cell → (p q : ℕ) → Option Place → Type 0
FindsChild rows p q found = (c d : Cell) → In c rows → In d rows → c.place ≡ p → d.place ≡ q → MatchOption found (Unreached rows c child_step (num d)) (λ r. FirstReached rows c child_step (num d) r.0)

-- ---- what a statement and the end of a copy do

-- the statement is carried out for the node at the place, whatever was before
abbrev pub SignsFor : (before after : View) → OffTree → (place : ℕ) → Type 0
SignsFor v w o p = (past : Past) → StandsFor v past → In o (offs_in past.plan.body) → StandsFor w (past_acted (Offed o (serial_at p v.rows)) past)

-- behind the copy of a node below the top it goes on within its parent's
abbrev pub RisesTo : List Cell → Copying → Option Copying → Type 0
RisesTo rows k next = (c d t : Cell) → In c rows → In d rows → In t rows → c.place ≡ k.node.0 → t.place ≡ k.top.0 → num t < num c → IsChild d c → next ≡ Some (risen k d.place)
