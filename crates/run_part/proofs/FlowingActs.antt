-- What flows of the actions of a loop.
use Rattle.std.proofs.Common.{◌≡◌, ◌∙◌, ◌++◌, ℕ, Bool, true, false, List, [], Option, length, refl, subst, sym}
use Rattle.std.proofs.lemmas.List.{append-nil}
use Rattle.gcx_model.specs.Core.{PlanTree}
use Rattle.gcx_model.specs.Tree.{Tree}
use Rattle.outside.specs.Places.{Few}
use Rattle.run_part.specs.Actors.{ActsOneFrom, ActsSomeFrom, StandAt}
use Rattle.run_part.specs.Flows.{ActsFlows, ActsSomeFlows, FewBoth, Flows}
use Rattle.run_part.specs.Telling.{TellsAction, TellsFront}
use Rattle.run_part.specs.View.{LinesView}
use Rattle.run_part.proofs.Acting.{reached_end, reached_some, some_now}
use Rattle.run_part.proofs.TellingActs.{ToldReached, told_end, told_part, told_some}

-- none was taken: so few bytes wait as before
pub few_still : (most : Option ℕ) (wanted : Bool) (u v : List ℕ) (l m : LinesView) → v ≡ u → (wanted ≡ true → m.waits ≡ l.waits ++ []) → (wanted ≡ false → l.waits ≡ []) → (wanted ≡ false → m.waits ≡ []) → FewBoth most u l → FewBoth most v m
few_still most wanted u v l m out told was now few = (subst (λ (z : List ℕ). Few most (length z)) (sym out) few.0, subst (λ (z : List ℕ). Few most (length z)) (sym (same wanted refl)) few.1)
  where
    same : (b : Bool) → wanted ≡ b → m.waits ≡ l.waits
    same true e = told e ∙ append-nil l.waits
    same false e = now e ∙ sym (was e)

module _ {C : Type 0} (stands : C → Tree → Type 0) (wanted : Bool) where
  -- the state that a loop has reached, from each for which they stood
  abbrev pub ReachedFrom : (x w : Flows C) → Type 0
  ReachedFrom x w = (plan : PlanTree) (P : Tree) (k : ℕ) → StandAt stands plan x.actors P k → ToldReached stands plan wanted w.actors P k x.out w.out x.trace w.trace

  module _ (x w : Flows C) (r : ReachedFrom x w) where
    -- no more turns are left
    pub acts_spent : ActsSomeFlows stands wanted x w
    acts_spent = record {
      acts = λ plan P k h. let q = r plan P k h in some_now stands plan w.actors P k q.reached.taken x.out w.out q.reached.actors q.reached.goes;
      told = λ e plan P k h. told_some stands plan wanted w.actors P k x.out w.out x.trace w.trace (r plan P k h) e;
    }

    module _ (y : Flows C) where
      -- no action is left
      pub acts_ended : ActsOneFrom stands w.actors y.actors w.out y.out false → (wanted ≡ true → TellsAction stands w.actors w.trace y.trace false) → ActsFlows stands wanted x y
      acts_ended one told = record {
        acts = λ plan P k h.
            let q = r plan P k h in
            reached_end stands plan w.actors y.actors P k x.out w.out y.out q.reached (one plan P q.reached.taken q.reached.actors);
        told = λ e plan P k h.
            let q = r plan P k h in
            told_end stands plan wanted w.actors P k x.out w.out x.trace w.trace q y.actors y.out y.trace e (one plan P q.reached.taken q.reached.actors) (told e plan P q.reached.taken q.reached.actors);
      }

      -- memory ran out
      pub acts_broke : ActsSomeFrom stands w.actors y.actors w.out y.out → (wanted ≡ true → TellsFront stands w.actors w.trace y.trace) → ActsSomeFlows stands wanted x y
      acts_broke some front = record {
        acts = λ plan P k h.
            let q = r plan P k h in
            reached_some stands plan w.actors y.actors P k x.out w.out y.out q.reached (some plan P q.reached.taken q.reached.actors);
        told = λ e plan P k h.
            let q = r plan P k h in
            told_part stands plan wanted w.actors P k x.out w.out x.trace w.trace q y.trace e (front e plan P q.reached.taken q.reached.actors);
      }
