-- What a projector's calls made, a record or a statement for each call (this project's).
use Rattle.std.specs.Prelude.{◌≡◌, true, List, length}
use Rattle.gcx_base.specs.declared.ids.Role.{Role}
use Rattle.gcx_model.specs.Tree.{Root, TreeToken}
use Rattle.gcx_model.specs.Core.{PlanTree, BodyTree}
use Rattle.gcx_model.specs.Cores.{Good}
use Rattle.gcx_model.specs.Placed.{Placed}
use Rattle.gcx_model.specs.Growth.{may_come}
use Rattle.gcx_model.specs.Held.{roles_given}
use Rattle.gcx_model.specs.Past.{Past, opening_past, past_fed}
use Rattle.buf_tree.specs.View.{View}
use Rattle.buf_tree.specs.Calls.{Started, numbers}
use Rattle.buf_tree.specs.Stands.{StandsFor}
use Rattle.projector.specs.declared.projector.Fed.{Fed}
use Rattle.projector.specs.declared.projector.Fed.TheVariants as outcomes
use Rattle.projector.specs.declared.projector.Tally.{Tally}
use Rattle.projector.specs.declared.projector.Tally.TheVariants as tallies
use Rattle.projector.specs.View.{ProjectorView}
use Rattle.projector.specs.Projector.{Projects, Places, DoesBy, Changes}

-- `new`: for a placed plan the projector stands for the opening past, and keeps the place in each buffer that has just begun
pub record BeginsFor (plan : PlanTree) (p : ProjectorView) : Type 0 where
  pub stands : (core : BodyTree) → Good core → Placed core plan → Projects p (opening_past plan)
  pub place : (v : View) (given : List Role) → Started v given → Places p v

-- `document`: these are the roles that the document node is given
abbrev pub GivesDocument : ProjectorView → List Role → Type 0
GivesDocument p given = (past : Past) → Projects p past → numbers given ≡ roles_given past.plan past.tree Root

-- `feed_token`: where projector and buffer stood for a past, they stand for it with the token, and the place is kept; what the
-- token did is answered, and is all that it made of the buffer. `stood` says of which pasts the projector stood.
pub record Feeds (stood : Past → Type 0) (p : ProjectorView) (v w : View) (t : TreeToken) (answer : Fed) : Type 0 where
  pub stands : (past : Past) → StandsFor v past → stood past → may_come t past.tree ≡ true
      → Projects p (past_fed t past) × StandsFor w (past_fed t past)
  pub place : Places p w
  pub fed : (past : Past) → StandsFor v past → stood past → may_come t past.tree ≡ true → DoesBy answer t past
  pub changes : Changes stood v w t answer

-- the number of the roles alone
abbrev pub tally_of : Fed → Tally
tally_of (outcomes.Opened s given) = tallies.Opened (length given)
tally_of (outcomes.Closed s) = tallies.Closed

-- the same, with the tally of what the token did
pub record Tallies (stood : Past → Type 0) (p : ProjectorView) (v w : View) (t : TreeToken) (tally : Tally) : Type 0 where
  pub fed : Fed
  pub feeds : Feeds stood p v w t fed
  pub is : tally ≡ tally_of fed
