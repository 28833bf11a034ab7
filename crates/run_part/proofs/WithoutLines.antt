-- Work whose lines aren't wanted: its output alone flows.
use Rattle.std.proofs.Common.{◌≡◌, ◌≤◌, ℕ, false, List, [], Option, Some, None, arith, subst, sym}
use Rattle.std.proofs.lemmas.Bool.{false≢true}
use Rattle.gcx_model.specs.Tree.{Tree, TreeToken as Said}
use Rattle.outside.specs.Places.{Few, PlaceView}
use Rattle.run_part.specs.Actors.{ActsOnFrom, ActsSomeFrom}
use Rattle.run_part.specs.FlowLaws.{none_apart}
use Rattle.run_part.specs.Flows.{ActsFlows, ActsSomeFlows, Flows, MayWriteBoth, TakesFlows, TakesSomeFlows, flow_at, none_seen}
use Rattle.run_part.specs.Late.{BreaksLent, FeedsLent}
use Rattle.run_part.specs.declared.pace.Work.{Work}

-- what flows of it, where its output goes to this place
abbrev pub alone : {N C W : Type 0} → (sinks : W → ℕ → PlaceView) → (place : ℕ) → Work N C → W → Flows C
alone sinks place a w = record { actors = a.actors; ahead = a.ahead; out = flow_at (sinks w) place a.out.items; trace = [] }

-- no lines wait
pub few_none : (most : Option ℕ) → Few most 0
few_none None = tt
few_none (Some m) = let z : 0 ≤ m = omega arith in z

-- and they are written nowhere
pub may_alone : {W : Type 0} (may : W → ℕ → Type 0) (w : W) (place : ℕ) → may w place → MayWriteBoth may w (none_seen place)
may_alone may w place here = record { out = here; lines = λ p e. absurd (none_apart p e) }

-- ---- actions, behind which the output still goes to its place

module _ {N C W : Type 0} (stands : C → Tree → Type 0) (sinks : W → ℕ → PlaceView) (a b : Work N C) (v w : W) (place now : ℕ) (same : now ≡ place) where
  pub acts_alone : ActsFlows stands false (alone sinks place a v) (alone sinks now b w) → ActsOnFrom stands a.actors b.actors (flow_at (sinks v) place a.out.items) (flow_at (sinks w) place b.out.items)
  acts_alone h = subst (λ (n : ℕ). ActsOnFrom stands a.actors b.actors (flow_at (sinks v) place a.out.items) (flow_at (sinks w) n b.out.items)) same h.acts

  pub some_alone : ActsSomeFlows stands false (alone sinks place a v) (alone sinks now b w) → ActsSomeFrom stands a.actors b.actors (flow_at (sinks v) place a.out.items) (flow_at (sinks w) place b.out.items)
  some_alone h = subst (λ (n : ℕ). ActsSomeFrom stands a.actors b.actors (flow_at (sinks v) place a.out.items) (flow_at (sinks w) n b.out.items)) same h.acts

-- ---- tokens, in groups of so many

module _ {C : Type 0} (stands : C → Tree → Type 0) (x y : Flows C) (more : List Said) (ahead : ℕ) (is : x.ahead ≡ ahead) where
  pub takes_alone : FeedsLent stands ahead x.actors y.actors more x.out y.out → TakesFlows stands false x y more
  takes_alone feeds = record {
    feeds = subst (λ (n : ℕ). FeedsLent stands n x.actors y.actors more x.out y.out) (sym is) feeds;
    told = λ wanted. absurd (false≢true wanted);
  }

  pub breaks_alone : BreaksLent stands ahead x.actors y.actors more x.out y.out → TakesSomeFlows stands false x y more
  breaks_alone breaks = record {
    breaks = subst (λ (n : ℕ). BreaksLent stands n x.actors y.actors more x.out y.out) (sym is) breaks;
    told = λ wanted. absurd (false≢true wanted);
  }
