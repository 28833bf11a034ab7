-- What projector and machine over one buffer stand for, by their own calls (this project's).
use Rattle.std.specs.Prelude.{◌≡◌, ℕ, true, List, ◌++◌, map}
use Rattle.gcx_model.specs.Core.{PlanTree}
use Rattle.gcx_model.specs.Tree.{TreeToken as Said, opening, grow_all}
use Rattle.gcx_model.specs.Growth.{may_all}
use Rattle.gcx_model.specs.Seen.{AreWithin}
use Rattle.doc_reader.specs.Standing.{Token, said_of}
use Rattle.buf_tree.specs.View.{View}
use Rattle.projector.specs.View.{ProjectorView}
use Rattle.pull_eval.specs.declared.position.Position.{Position}
use Rattle.run_part.specs.Actors.{ActorsStand}

-- They stand for the tree of these tokens with so many actions taken, and the tokens that are left may come after it.
pub record Demands (p : ProjectorView) (w : Position) (v : View) (left : List Token) : Type 0 where
  pub plan : PlanTree
  pub fed : List Said
  pub taken : ℕ
  pub stand : ActorsStand plan (λ _. Unit {0}) p w v (grow_all fed opening) taken
  pub may : may_all (fed ++ map said_of left) opening ≡ true
  pub within : AreWithin (fed ++ map said_of left)
