-- The actions of an engine, one after the other.
use Rattle.std.proofs.Common.{◌≡◌, ℕ, suc, ◌<◌, ◌≤◌, true, false, List, sym, subst, arith}
use Rattle.std.specs.Prelude.{Result, OnErr}
use Rattle.std.specs.declared.result.Result.TheVariants.{Ok, Err}
use Rattle.gcx_model.specs.Tree.{Tree}
use Rattle.gcx_base.specs.declared.ids.Role.{Role}
use Rattle.gcx_base.specs.declared.ids.Serial.{Serial}
use Rattle.gcx_model.specs.Core.{PlanTree}
use Rattle.gcx_model.specs.Held.{sum_given}
use Rattle.move_laws.proofs.Keeping.{taken_are_there}
use Rattle.buf_tree.specs.View.{View, capped}
use Rattle.projector.specs.declared.projector.Projector.{Projector}
use Rattle.pull_eval.specs.Acting.{Acts, MayAct}
use Rattle.pull_eval.specs.declared.machine.Acted.{Acted}
use Rattle.pull_eval.specs.declared.machine.Acted.TheVariants as acted
use Rattle.pull_eval.specs.declared.position.Position.{Position}
use Rattle.run_part.specs.Actors.{ActorsStand, past_at, ActsOn, ActsOne, ActsSome, Goes, SomeActors, all_of, StandAt}
use Rattle.run_part.proofs.Writing.{goes_none, goes_on}
use Rattle.run_part.proofs.Taking.{Did, did, taken_few, told_all}
use Rattle.run_part.specs.View.{ActorsView}

pub acts_by : (plan : PlanTree) (before now : Tree → Type 0) (p : Projector) (w m : Position) (v u : View) (out new : List ℕ) (a : Acted) → Acts before now w m v u out new a
    → (P : Tree) (k : ℕ) → ActorsStand plan before p w v P k → Did plan now p m v u P k out new a
acts_by plan before now p w m v u out new a h P k s = let t = h (past_at plan P k s.fed) k s.beside s.stand in did plan before now p w m v u P k s out new a t.0 t.1

-- no more actions are taken than there are
pub there : (plan : PlanTree) (stands : Tree → Type 0) (p : Projector) (w : Position) (v : View) (P : Tree) (k : ℕ) → ActorsStand plan stands p w v P k → k ≤ all_of plan P
there plan stands p w v P k s = taken_are_there plan P k s.beside.state

module _ {C : Type 0} (stands : C → Tree → Type 0) (plan : PlanTree) where
  -- what stands where memory ran out
  pub some_now : (e : ActorsView C) (P : Tree) (k j : ℕ) (u v : List ℕ) → StandAt stands plan e P j → Goes plan P k P j u v → ActsSome plan e P k u v
  some_now e P k j u v a g = record {
    taken = j;
    there = there plan (stands e.machine.conds) e.projector e.machine.position e.buffer P j a;
    goes = g;
    balance = taken_few plan (stands e.machine.conds) e.projector e.machine.position e.buffer P j a;
  }

  -- the state that a loop has reached
  pub record Reached (e : ActorsView C) (P : Tree) (k : ℕ) (u v : List ℕ) : Type 0 where
    pub taken : ℕ
    pub actors : StandAt stands plan e P taken
    pub goes : Goes plan P k P taken u v

  abbrev pub reached_none : (old : ActorsView C) (P : Tree) (k : ℕ) (u : List ℕ) → StandAt stands plan old P k → Reached old P k u u
  reached_none old P k u a = record { taken = k; actors = a; goes = goes_none plan P k u }

  module _ (e d : ActorsView C) (P : Tree) (k : ℕ) (u v w : List ℕ) (r : Reached e P k u v) where
    abbrev pub reached_on : ActsOne stands plan d P r.taken true v w → Reached d P k u w
    reached_on o = record { taken = suc r.taken; actors = o.1; goes = goes_on plan P k P r.taken P (suc r.taken) u v w r.goes o.2 }

    pub reached_end : ActsOne stands plan d P r.taken false v w → ActsOn stands plan d P k u w
    reached_end o =
        let g : Goes plan P k P r.taken u w = subst (λ (z : List ℕ). Goes plan P k P r.taken u z) (sym o.2) r.goes in
        record { actors = subst (λ z. StandAt stands plan d P z) o.0 o.1; goes = subst (λ z. Goes plan P k P z u w) o.0 g }

    pub reached_some : ActsSome plan d P r.taken v w → ActsSome plan d P k u w
    reached_some s = record { taken = s.taken; there = s.there; goes = goes_on plan P k P r.taken P s.taken u v w r.goes s.goes; balance = s.balance }

  -- nothing changed, but for the machine
  pub some_still : (old e : ActorsView C) (P : Tree) (k : ℕ) (u v : List ℕ) → v ≡ u → e.buffer ≡ old.buffer → StandAt stands plan old P k → ActsSome plan e P k u v
  some_still old e P k u v out buffer a =
      let few = taken_few plan (stands old.machine.conds) old.projector old.machine.position old.buffer P k a in
      record {
        taken = k;
        there = there plan (stands old.machine.conds) old.projector old.machine.position old.buffer P k a;
        goes = subst (λ (z : List ℕ). Goes plan P k P k u z) (sym out) (goes_none plan P k u);
        balance = subst (λ (z : View). z.taken ≤ capped (sum_given plan P)) (sym buffer) few;
      }

pub may_act : {C : Type 0} (stands : C → Tree → Type 0) (a : ActorsView C) → SomeActors stands a → MayAct (stands a.machine.conds) a.machine.position a.buffer
may_act stands a m = record { past = past_at m.plan m.tree m.taken m.of.fed; taken = m.taken; beside = m.of.beside; stand = m.of.stand }

pub some_reached : {C : Type 0} (stands : C → Tree → Type 0) (old e : ActorsView C) (u v : List ℕ) (m : SomeActors stands old) → Reached stands m.plan e m.tree m.taken u v → SomeActors stands e
some_reached stands old e u v m r = record { plan = m.plan; tree = m.tree; taken = r.taken; of = r.actors }

pub on_err : {T E : Type 0} (r : Result T E) (X : Type 0) → X → OnErr r X
on_err (Ok x) X h = tt
on_err (Err e) X h = h

-- What was done, where it is known which.
module _ (plan : PlanTree) (now : Tree → Type 0) (p : Projector) (m : Position) (v u : View) (P : Tree) (k : ℕ) (out new : List ℕ) where
  abbrev pub DidOne : Type 0
  DidOne = (k < all_of plan P) × ActorsStand plan now p m (told_all u) P (suc k) × Goes plan P k P (suc k) out new

  abbrev pub DidNone : Type 0
  DidNone = (k ≡ all_of plan P) × ActorsStand plan now p m u P k × (new ≡ out)

  pub did_wrote : (a : Acted) (n : ℕ) → a ≡ acted.Wrote n → Did plan now p m v u P k out new a → DidOne
  did_wrote a n e h = subst (λ (z : Acted). Did plan now p m v u P k out new z) e h

  pub did_signed : (a : Acted) (x : Serial) (r : Role) → a ≡ acted.SignedOff x r → Did plan now p m v u P k out new a → DidOne
  did_signed a x r e h = subst (λ (z : Acted). Did plan now p m v u P k out new z) e h

  pub did_blocked : (a : Acted) → a ≡ acted.Blocked → Did plan now p m v u P k out new a → DidNone
  did_blocked a e h = subst (λ (z : Acted). Did plan now p m v u P k out new z) e h

  pub did_finished : (a : Acted) → a ≡ acted.Finished → Did plan now p m v u P k out new a → DidNone
  did_finished a e h = subst (λ (z : Acted). Did plan now p m v u P k out new z) e h

module _ {C : Type 0} (stands : C → Tree → Type 0) (plan : PlanTree) (old e : ActorsView C) (P : Tree) (k : ℕ) (u v : List ℕ)
    (one : DidOne plan (stands e.machine.conds) e.projector e.machine.position old.buffer e.buffer P k u v) where
  -- an action was taken, and its departures are told
  pub acts_told : (d : ActorsView C) → d ≡ record e { buffer = told_all e.buffer } → ActsOne stands plan d P k true u v
  acts_told d told = (one.0, subst (λ (z : ActorsView C). StandAt stands plan z P (suc k)) (sym told) one.1, one.2)

  -- memory ran out before they were
  pub acts_untold : ActsSome plan e P k u v
  acts_untold =
      let l = one.0 in
      let few = taken_few plan (stands e.machine.conds) e.projector e.machine.position (told_all e.buffer) P (suc k) one.1 in
      record { taken = suc k; there = omega arith; goes = one.2; balance = few }
