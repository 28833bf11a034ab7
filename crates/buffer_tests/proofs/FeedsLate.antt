-- What is fed in tests where rows are made late.
use Rattle.std.proofs.Common.{◌≡◌, ℕ, ◌≤◌, Bool, true, List, ◌∷◌, ◌++◌, [], length, map, refl, sym, ◌∙◌, ap, subst, Option}
use Rattle.std.specs.Prelude.{IsUtf8, slice_range}
use Rattle.gcx_base.specs.Name.{IsNameBytes}
use Rattle.gcx_base.specs.declared.limits.Limits.{Limits}
use Rattle.gcx_base.specs.Limits.{full_limits}
use Rattle.gcx_model.specs.Tree.{Node, Tree, grow}
use Rattle.gcx_model.specs.Core.{PlanTree}
use Rattle.gcx_model.specs.Growth.{may_come}
use Rattle.gcx_model.specs.Past.{past_fed}
use Rattle.gcx_model.specs.Seen.{seen_tree}
use Rattle.doc_reader.specs.Standing.{ReaderView, Stands, waiting, said_of, Token as Given}
use Rattle.buf_tree.specs.Loose.{Loosely, with_passed}
use Rattle.buf_tree.specs.View.{View}
use Rattle.projector.specs.declared.projector.Projector.{Projector}
use Rattle.projector.specs.declared.projector.Tally.{Tally}
use Rattle.projector.specs.Late.{FeedsLate, IsNamePart, IsShallow, IsTextPart, MayBeFedLate, passed_in}
use Rattle.projector.proofs.Loosely.{exact_stand, late_place, late_stands}
use Rattle.buffer_tests.specs.Buffers.{IsFed}
use Rattle.buffer_tests.specs.Late.{IsFedLate, LiesAt}
use Rattle.buffer_tests.proofs.Feeds.{given_more, next_comes, not_deep, open_low}

-- the part is a name, or a text
pub name_part : (bytes : List ℕ) (from to : ℕ) (part name : List ℕ) → part ≡ name → IsNameBytes name → LiesAt bytes from to part → IsNamePart bytes from to × (slice_range bytes from to ≡ name)
name_part bytes from to part name e named l = (record { ordered = l.0; within = l.1; named = subst (λ (b : List ℕ). IsNameBytes b) (sym (l.2 ∙ e)) named }, l.2 ∙ e)

pub text_part : (bytes : List ℕ) (from to : ℕ) (part text : List ℕ) → part ≡ text → IsUtf8 text → LiesAt bytes from to part → IsTextPart bytes from to × (slice_range bytes from to ≡ text)
text_part bytes from to part text e utf8 l = (record { ordered = l.0; within = l.1; utf8 = subst (λ (b : List ℕ). IsUtf8 b) (sym (l.2 ∙ e)) utf8 }, l.2 ∙ e)

-- at first none is passed
pub late_of : (plan : PlanTree) (bytes : List ℕ) (r : ReaderView) (p : Projector) (v : View) → IsFed plan r p v → IsFedLate plan bytes r p v
late_of plan bytes r p v f = record {
  document = f.document;
  given = f.given;
  read = f.read;
  past = f.past;
  plan_is = f.plan_is;
  tree_is = f.tree_is;
  stand = exact_stand bytes p v f.past f.projects f.stands;
  place = f.place;
}

module _ (plan : PlanTree) (bytes : List ℕ) (r : ReaderView) (p : Projector) (v : View) (f : IsFedLate plan bytes r p v) where
  comes : (t : Given) (rest : List Given) → waiting r ≡ t ∷ rest → may_come (said_of t) f.past.tree ≡ true
  comes t rest e = subst (λ (P : Tree). may_come (said_of t) P ≡ true) (sym f.tree_is) (next_comes r full_limits f.document true f.given f.read t rest e)

  pub may_late : (t : Given) (rest : List Given) → waiting r ≡ t ∷ rest → MayBeFedLate bytes p v (said_of t)
  may_late t rest e = record { past = f.past; stand = f.stand; may = comes t rest e }

  pub shallow_late : Loosely IsShallow (passed_in bytes p.passed) v
  shallow_late places e =
      open_low (with_passed places (passed_in bytes p.passed) v) f.past 1000 (f.stand.buffer places e) (λ n at. not_deep r full_limits f.document true f.given f.read n (ap (λ (P : Tree). P.at) (sym f.tree_is) ∙ at))

  pub fed_late : (t : Given) (rest : List Given) → waiting r ≡ t ∷ rest → (r' : ReaderView) (p' : Projector) (w : View) (answer : Option Tally)
      → ((lim : Limits) (b : List ℕ) (over : Bool) (given : List Given) → Stands r lim b over given → Stands r' lim b over (given ++ t ∷ [])) → FeedsLate bytes p p' v w (said_of t) answer → IsFedLate plan bytes r' p' w
  fed_late t rest e r' p' w answer reads feeds = record {
    document = f.document;
    given = f.given ++ t ∷ [];
    read = reads full_limits f.document true f.given f.read;
    past = past_fed (said_of t) f.past;
    plan_is = f.plan_is;
    tree_is = ap (grow (said_of t)) f.tree_is ∙ sym (given_more f.given t);
    stand = late_stands bytes p p' v w (said_of t) answer feeds f.past f.stand (comes t rest e);
    place = late_place bytes p p' v w (said_of t) answer feeds f.place;
  }
