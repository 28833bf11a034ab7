-- What the next action makes of the actors.
use Rattle.std.proofs.Common.{◌≡◌, ℕ, suc, ◌<◌, ◌≤◌, Bool, true, false, List, [], ◌∷◌, ◌++◌, length, refl, sym, ◌∙◌, ap, subst, arith}
use Rattle.std.specs.List.{filter}
use Rattle.std.proofs.lemmas.List.{append-nil, take-append-le}
use Rattle.gcx_model.specs.Tree.{Tree}
use Rattle.gcx_model.specs.Core.{PlanTree}
use Rattle.gcx_model.specs.Run.{Action, Wrote, Offed}
use Rattle.gcx_model.specs.Held.{sum_given}
use Rattle.gcx_model.specs.Points.{so_far, CoreState}
use Rattle.gcx_model.specs.Past.{Past, past_acted, is_ahead, reopened}
use Rattle.move_laws.specs.Moves.{IsNext, NoneLeft}
use Rattle.move_laws.proofs.Keeping.{taken_are_there}
use Rattle.run_laws.proofs.Summing.{taken_is_given}
use Rattle.matcher.specs.Matcher.{MatcherAt}
use Rattle.buf_tree.specs.Shape.{Cell}
use Rattle.buf_tree.specs.View.{View, capped}
use Rattle.projector.specs.Projector.{Projects, Places}
use Rattle.projector.specs.declared.projector.Projector.{Projector}
use Rattle.pull_eval.specs.Acting.{Beside, SamePlaces, TakesAction}
use Rattle.pull_eval.specs.declared.machine.Acted.{Acted}
use Rattle.pull_eval.specs.declared.machine.Acted.TheVariants as acted
use Rattle.pull_eval.specs.declared.position.Position.{Position}
use Rattle.run_part.specs.Actors.{ActorsStand, past_at, Goes, all_of}
use Rattle.run_part.proofs.Writing.{goes_act}
use Rattle.run_part.proofs.RowsHeld.{keeps_fewer}

-- no departure is kept
abbrev pub told_all : View → View
told_all v = record v { gone = [] }

pub beside_told : (w : Position) (v : View) (past : Past) (k : ℕ) → Beside w v past k → Beside w (told_all v) past k
beside_told w v past k b = record {
  state = b.state;
  acts = b.acts;
  buffer = record { is_past = b.buffer.is_past; spread = b.buffer.spread; rows = b.buffer.rows; kept = b.buffer.kept; waiting = b.buffer.waiting; nodes = b.buffer.nodes };
  taken = b.taken;
  position = b.position;
}

same_places : (xs : List Cell) → SamePlaces xs xs
same_places xs c i = (c, i, refl, refl)

module _ (plan : PlanTree) (p : Projector) (P : Tree) (k fed : ℕ) where
  -- what was heard before the last token doesn't change with an action
  heard_acted : (a : Action) → fed ≤ length (so_far plan P k) → Projects p (past_at plan P k fed) → Projects p (past_acted a (past_at plan P k fed))
  heard_acted a l h = record {
    matcher = subst (λ (A : List Action). MatcherAt p.matcher (record { plan = plan; tree = reopened P; acts = filter (is_ahead (reopened P)) A; fed = 0 }) false)
        (sym (take-append-le fed (so_far plan P k) (a ∷ []) l)) h.matcher;
    none = h.none;
  }

  acted_is : (a : Action) → IsNext plan P k a → past_acted a (past_at plan P k fed) ≡ past_at plan P (suc k) fed
  acted_is a n = ap (λ (A : List Action). record { plan = plan; tree = P; acts = A; fed = fed }) (sym n.taken)

-- the actors stand for one action more
pub stands_acted : (plan : PlanTree) (before now : Tree → Type 0) (p : Projector) (w m : Position) (v u : View) (P : Tree) (k : ℕ) (s : ActorsStand plan before p w v P k) (a : Action)
    → IsNext plan P k a → SamePlaces v.rows u.rows → Beside m u (past_acted a (past_at plan P k s.fed)) (suc k) → now P → ActorsStand plan now p m (told_all u) P (suc k)
stands_acted plan before now p w m v u P k s a n same b st =
    let e = acted_is plan p P k s.fed a n in
    let keeps : Places p u = keeps_fewer v u (past_at plan P k s.fed) (past_acted a (past_at plan P k s.fed)) s.beside.buffer b.buffer refl same p.at s.keeps in
    record {
      fed = s.fed;
      projects = subst (λ (x : Past). Projects p x) e (heard_acted plan p P k s.fed a s.beside.buffer.is_past.within s.projects);
      keeps = keeps;
      gone = refl;
      beside = subst (λ (x : Past). Beside m (told_all u) x (suc k)) e (beside_told m u (past_acted a (past_at plan P k s.fed)) (suc k) b);
      stand = st;
    }

-- What an answer of the machine makes of the actors: an action more, or none is left.
abbrev pub Did : (plan : PlanTree) (now : Tree → Type 0) (p : Projector) (m : Position) (v u : View) (P : Tree) (k : ℕ) (out new : List ℕ) → Acted → Type 0
Did plan now p m v u P k out new (acted.Wrote n) = (k < all_of plan P) × ActorsStand plan now p m (told_all u) P (suc k) × Goes plan P k P (suc k) out new
Did plan now p m v u P k out new (acted.SignedOff s r) = (k < all_of plan P) × ActorsStand plan now p m (told_all u) P (suc k) × Goes plan P k P (suc k) out new
Did plan now p m v u P k out new acted.Blocked = (k ≡ all_of plan P) × ActorsStand plan now p m u P k × (new ≡ out)
Did plan now p m v u P k out new acted.Finished = (k ≡ all_of plan P) × ActorsStand plan now p m u P k × (new ≡ out)

over_is : (plan : PlanTree) (P : Tree) (k : ℕ) (d : Bool) → CoreState plan P k → NoneLeft plan P k d → k ≡ all_of plan P
over_is plan P k d st n = let a = taken_are_there plan P k st in let b = n.over in omega arith

goes_to : (plan : PlanTree) (P : Tree) (k j : ℕ) (u v w : List ℕ) → v ≡ w → Goes plan P k P j u v → Goes plan P k P j u w
goes_to plan P k j u v w e g = subst (λ (z : List ℕ). Goes plan P k P j u z) e g

pub did : (plan : PlanTree) (before now : Tree → Type 0) (p : Projector) (w m : Position) (v u : View) (P : Tree) (k : ℕ) (s : ActorsStand plan before p w v P k) (out new : List ℕ) (a : Acted)
    → TakesAction (past_at plan P k s.fed) k m v u out new a → now P → Did plan now p m v u P k out new a
did plan before now p w m v u P k s out new (acted.Wrote n) t st =
    let same : SamePlaces v.rows u.rows = subst (λ (z : View). SamePlaces v.rows z.rows) (sym t.4) (same_places v.rows) in
    (t.1.left, stands_acted plan before now p w m v u P k s (Wrote t.0) t.1 same t.5 st, goes_to plan P k (suc k) out (out ++ t.0) new (sym t.3) (goes_act plan P k (Wrote t.0) out t.1.taken))
did plan before now p w m v u P k s out new (acted.SignedOff z r) t st =
    (t.1.left, stands_acted plan before now p w m v u P k s (Offed t.0 z.0) t.1 t.5 t.6 st, goes_to plan P k (suc k) out (out ++ []) new (append-nil out ∙ sym t.3) (goes_act plan P k (Offed t.0 z.0) out t.1.taken))
did plan before now p w m v u P k s out new acted.Blocked t st =
    (over_is plan P k false s.beside.state t.0, record { fed = s.fed; projects = s.projects; keeps = ap_rows s.keeps; gone = ap (λ (z : View). z.gone) t.2 ∙ s.gone; beside = t.3; stand = st }, t.1)
  where
    ap_rows : Places p v → Places p u
    ap_rows h = subst (λ (z : View). Places p z) (sym t.2) h
did plan before now p w m v u P k s out new acted.Finished t st =
    (over_is plan P k true s.beside.state t.0, record { fed = s.fed; projects = s.projects; keeps = ap_rows s.keeps; gone = ap (λ (z : View). z.gone) t.2 ∙ s.gone; beside = t.3; stand = st }, t.1)
  where
    ap_rows : Places p v → Places p u
    ap_rows h = subst (λ (z : View). Places p z) (sym t.2) h

-- never is more taken back than given
pub taken_few : (plan : PlanTree) (now : Tree → Type 0) (p : Projector) (w : Position) (v : View) (P : Tree) (k : ℕ) → ActorsStand plan now p w v P k → v.taken ≤ capped (sum_given plan P)
taken_few plan now p w v P k s =
    let a = (taken_is_given.1 plan P (so_far plan P k)).0 in
    let b = s.beside.taken in
    omega arith
