-- What is known of a run, put together.
use Rattle.std.proofs.Common.{◌≡◌, ◌<◌, List, [], ◌∷◌, ◌++◌, length, map, None, refl, sym, ◌∙◌, ap, subst, arith}
use Rattle.gcx_model.specs.Core.{PlanTree}
use Rattle.gcx_model.specs.Points.{actions}
use Rattle.gcx_model.specs.Run.{Action}
use Rattle.gcx_model.specs.Tree.{Tree, TreeToken, opening}
use Rattle.tree_laws.proofs.Matches.{Grown, Grown-all, Grown-opening}
use Rattle.time_laws.proofs.Clocks.{no_fewer}
use Rattle.time_laws.specs.Times.{IsClock, TimedAction, act_of, timed_acts}
use Rattle.trace_check.specs.Acting.{Shown, ShownAct, action_shown, seen, shown, what_shown}
use Rattle.trace_check.specs.Telling.{IsCourse}
use Rattle.trace_check.specs.Timing.{clock_in, HasTaken, IsTimed}
use Rattle.trace_check.specs.Wanting.{IsWanted, given_all, lists_in, numbers_in}
use Rattle.trace_check.specs.declared.acts.TimedAct as code
use Rattle.trace_check.specs.declared.course.Course.{Course}
use Rattle.trace_check.specs.declared.timed.Timed.{Timed}
use Rattle.trace_check.proofs.Clocked.{clocked}
use Rattle.trace_check.proofs.Whole.{whole_acts}

-- all actions of the run are those of the whole tree
pub all_acts : (us : List TreeToken) (d : Timed) → HasTaken us d → d.tree.at ≡ None → (plan : PlanTree) → map act_of (timed_acts (clock_in d) d.tree plan) ≡ actions plan d.tree
all_acts us d h shut plan =
    subst (λ (P : Tree). IsClock (clock_in d) us P (length us) → map act_of (timed_acts (clock_in d) P plan) ≡ actions plan P) (sym h.tree_is)
    (λ ck. whole_acts (clock_in d) us ck plan) (clocked us d h shut)

-- the tree is that of an open tree's tokens, so it has its document node
pub timed_grown : (ts : List TreeToken) (d : Timed) → IsTimed ts d → Grown d.tree
timed_grown ts d h = subst (λ (P : Tree). Grown P) (sym h.closed.taken.tree_is) (Grown-all (ts ++ h.closed.closing) opening Grown-opening)

pub timed_some : (ts : List TreeToken) (d : Timed) → IsTimed ts d → 0 < length d.tree.nodes
timed_some ts d h = let n = no_fewer (ts ++ h.closed.closing) opening in let e = ap (λ (P : Tree). length P.nodes) h.closed.taken.tree_is in omega (arith, n, e)

abbrev what : ShownAct → Shown
what s = s.what

shown_what : (acts : List code.TimedAct) → map what_shown acts ≡ map what (map shown acts)
shown_what [] = refl
shown_what (a ∷ acts) = ap (λ (l : List Shown). what_shown a ∷ l) (shown_what acts)

seen_what : (T : List TimedAction) → map action_shown (map act_of T) ≡ map what (map seen T)
seen_what [] = refl
seen_what (a ∷ T) = ap (λ (l : List Shown). action_shown a.act ∷ l) (seen_what T)

-- the kept actions, without their times
pub kept_acts : (acts : List code.TimedAct) (T : List TimedAction) (all : List Action) → map shown acts ≡ map seen T → map act_of T ≡ all → map what_shown acts ≡ map action_shown all
kept_acts acts T all e f = shown_what acts ∙ (ap (map what) e ∙ (sym (seen_what T) ∙ ap (map action_shown) f))

pub is_course : (plan : PlanTree) (ts : List TreeToken) (c : Course) → IsTimed ts c.timed → map shown c.acts.items ≡ map seen (timed_acts (clock_in c.timed) c.timed.tree plan)
    → map numbers_in c.given.items ≡ given_all plan c.timed.tree
    → ((all : List Action) → map what_shown c.acts.items ≡ map action_shown all → IsWanted c.timed.tree all c.leaving.until.items (lists_in c.leaving.freed.items))
    → IsCourse plan ts c
is_course plan ts c timed acts given wanted = record {
  timed = timed;
  acts = acts;
  given = given;
  wanted = wanted (actions plan c.timed.tree)
      (kept_acts c.acts.items (timed_acts (clock_in c.timed) c.timed.tree plan) (actions plan c.timed.tree) acts (all_acts _ c.timed timed.closed.taken timed.closed.shut plan));
}
