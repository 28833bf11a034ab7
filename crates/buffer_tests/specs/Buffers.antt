-- What tests of buffers have fed.
use Rattle.std.specs.Prelude.{◌≡◌, ℕ, true, false, List, map}
use Rattle.gcx_base.specs.Limits.{full_limits}
use Rattle.gcx_model.specs.Core.{PlanTree}
use Rattle.gcx_model.specs.ItemView.{off_tree}
use Rattle.gcx_model.specs.Members.{In}
use Rattle.gcx_model.specs.Past.{Past}
use Rattle.gcx_model.specs.Placed.{offs_in}
use Rattle.gcx_model.specs.Seen.{seen_tree}
use Rattle.gcx_model.specs.declared.item.Off.{Off}
use Rattle.doc_reader.specs.Standing.{ReaderView, Stands, said_of, Token}
use Rattle.buf_tree.specs.View.{View}
use Rattle.buf_tree.specs.Spread.{is_spread_in}
use Rattle.buf_tree.specs.Stands.{StandsFor}
use Rattle.projector.specs.declared.projector.Projector.{Projector}
use Rattle.projector.specs.Projector.{Projects, Places}

-- The reader was given a whole document, and the tokens that it gave since were fed to the projector and the buffer.
pub record IsFed (plan : PlanTree) (r : ReaderView) (p : Projector) (v : View) : Type 0 where
  pub document : List ℕ
  pub given : List Token
  pub read : Stands r full_limits document true given
  pub past : Past
  pub plan_is : past.plan ≡ plan
  pub tree_is : past.tree ≡ seen_tree (map said_of given)
  pub stands : StandsFor v past
  pub projects : Projects p past
  pub place : Places p v

-- A buffer to which tokens were fed is one when a statement of the plan was carried out, whatever fed it.
abbrev pub StaysFed : Off → (before after : View) → Type 0
StaysFed off v w = (plan : PlanTree) (reader : ReaderView) (projector : Projector) → IsFed plan reader projector v → In (off_tree off) (offs_in plan.body)
    → IsFed plan reader projector w

-- No role of a base of the plan is spread.
abbrev pub OwnPlain : PlanTree → View → Type 0
OwnPlain plan v = (off : Off) → In (off_tree off) (offs_in plan.body) → is_spread_in v.spread off.own.0 ≡ false
