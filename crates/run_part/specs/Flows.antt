-- What flows from a part to its places, and what waits (this project's).
use Rattle.std.specs.Prelude.{◌≡◌, ℕ, Bool, true, List, [], ◌++◌, length, Option, Some, None}
use Rattle.gcx_model.specs.Tree.{Tree, TreeToken as Said}
use Rattle.outside.specs.Places.{Few, PlaceView, went_at, went_to}
use Rattle.run_part.specs.Actors.{ActsOnFrom, ActsSomeFrom}
use Rattle.run_part.specs.Late.{BreaksLent, FeedsLent}
use Rattle.run_part.specs.Telling.{TellsAll, TellsFront, TellsLent, TellsSomeLent}
use Rattle.run_part.specs.View.{ActorsView, LinesView}
use Rattle.run_part.specs.declared.pace.Work.{Work}

-- ---- lines

-- no lines, where the output goes to this place
abbrev pub none_seen : (place : ℕ) → LinesView
none_seen place = record { waits = []; output_at = place; lines_at = None }

-- those of a trace: the output goes to place 0, and they to place 1
abbrev pub trace_seen : (text : List ℕ) → LinesView
trace_seen text = record { waits = text; output_at = 0; lines_at = Some 1 }

-- ---- what flows

-- what went to a place, and then what waits for it
abbrev pub flow_at : (sinks : ℕ → PlaceView) → (place : ℕ) → (waits : List ℕ) → List ℕ
flow_at sinks place waits = went_to (sinks place) ++ waits

-- the actors, with what flowed of their output and of their lines
pub record Flows (C : Type 0) : Type 0 where
  pub actors : ActorsView C
  pub ahead : ℕ
  pub out : List ℕ
  pub trace : List ℕ

-- those of the actors and their output, of the lines, and of what is outside
abbrev pub flows : {N C S W : Type 0} → (seen : S → LinesView) → (sinks : W → ℕ → PlaceView) → Work N C × S × W → Flows C
flows seen sinks w = record {
  actors = w.0.actors;
  ahead = w.0.ahead;
  out = flow_at (sinks w.2) (seen w.1).output_at w.0.out.items;
  trace = went_at (sinks w.2) (seen w.1).lines_at ++ (seen w.1).waits;
}

-- ---- how much waits, and where it goes

-- of the output and of the lines so few bytes wait
abbrev pub FewBoth : (most : Option ℕ) → (out : List ℕ) → LinesView → Type 0
FewBoth most out l = Few most (length out) × Few most (length l.waits)

-- both may be written
pub record MayWriteBoth {W : Type 0} (may : W → ℕ → Type 0) (w : W) (l : LinesView) : Type 0 where
  pub out : may w l.output_at
  pub lines : (p : ℕ) → l.lines_at ≡ Some p → may w p

-- they go where they went
pub record SameOutlets (l m : LinesView) : Type 0 where
  pub output_is : m.output_at ≡ l.output_at
  pub lines_is : m.lines_at ≡ l.lines_at

-- no other place was written to
abbrev pub OnlyBoth : LinesView → (a b : ℕ → PlaceView) → Type 0
OnlyBoth l a b = (k : ℕ) → (k ≡ l.output_at → ⊥) → (l.lines_at ≡ Some k → ⊥) → b k ≡ a k

abbrev pub OnlyAt : (place : ℕ) → (a b : ℕ → PlaceView) → Type 0
OnlyAt place a b = (k : ℕ) → (k ≡ place → ⊥) → b k ≡ a k

-- of what waited nothing is lost, where there is a place, and the other places are as they were
pub record SpilledAt (place : Option ℕ) (a b : ℕ → PlaceView) (old new : List ℕ) : Type 0 where
  pub flows : went_at b place ++ new ≡ went_at a place ++ old
  pub others : (k : ℕ) → (place ≡ Some k → ⊥) → b k ≡ a k

-- Both flows are as they were.
pub record FlowsStay {C : Type 0} (old new : Flows C) : Type 0 where
  pub out : new.out ≡ old.out
  pub trace : new.trace ≡ old.trace

abbrev pub FlowsSame : {N C S W : Type 0} → (seen : S → LinesView) → (sinks : W → ℕ → PlaceView) → (old new : Work N C × S × W) → Type 0
FlowsSame seen sinks old new = FlowsStay (flows seen sinks old) (flows seen sinks new)

-- ---- actions

-- every action left was taken, and its lines told
pub record ActsFlows {C : Type 0} (stands : C → Tree → Type 0) (wanted : Bool) (old new : Flows C) : Type 0 where
  pub acts : ActsOnFrom stands old.actors new.actors old.out new.out
  pub told : wanted ≡ true → TellsAll stands old.actors old.trace new.trace

-- or some of them, before memory ran out
pub record ActsSomeFlows {C : Type 0} (stands : C → Tree → Type 0) (wanted : Bool) (old new : Flows C) : Type 0 where
  pub acts : ActsSomeFrom stands old.actors new.actors old.out new.out
  pub told : wanted ≡ true → TellsFront stands old.actors old.trace new.trace

abbrev pub ActsWork : {N C S W : Type 0} → (C → Tree → Type 0) → (wanted : Bool) → (seen : S → LinesView) → (sinks : W → ℕ → PlaceView) → (old new : Work N C × S × W) → Type 0
ActsWork stands wanted seen sinks old new = ActsFlows stands wanted (flows seen sinks old) (flows seen sinks new)

abbrev pub ActsSomeWork : {N C S W : Type 0} → (C → Tree → Type 0) → (wanted : Bool) → (seen : S → LinesView) → (sinks : W → ℕ → PlaceView) → (old new : Work N C × S × W) → Type 0
ActsSomeWork stands wanted seen sinks old new = ActsSomeFlows stands wanted (flows seen sinks old) (flows seen sinks new)

-- What an action leaves of the actors as it was.
pub record ActsAlone {C : Type 0} (old new : ActorsView C) : Type 0 where
  pub projector : new.projector ≡ old.projector
  pub counts : new.counts ≡ old.counts
  pub most : new.buffer.most ≡ old.buffer.most
  pub loans : new.buffer.loans ≡ old.buffer.loans

-- What actions that are written leave as it was.
pub record LeavesWork {N C : Type 0} (old new : Work N C) (l m : LinesView) : Type 0 where
  pub actors : ActsAlone old.actors new.actors
  pub ahead_is : new.ahead ≡ old.ahead
  pub places : SameOutlets l m

-- ---- lent tokens

-- all of them were taken, with every action that is possible behind them, and their lines told
pub record TakesFlows {C : Type 0} (stands : C → Tree → Type 0) (wanted : Bool) (old new : Flows C) (more : List Said) : Type 0 where
  pub feeds : FeedsLent stands old.ahead old.actors new.actors more old.out new.out
  pub told : wanted ≡ true → TellsLent stands old.ahead old.actors more old.trace new.trace

-- or some of them
pub record TakesSomeFlows {C : Type 0} (stands : C → Tree → Type 0) (wanted : Bool) (old new : Flows C) (more : List Said) : Type 0 where
  pub breaks : BreaksLent stands old.ahead old.actors new.actors more old.out new.out
  pub told : wanted ≡ true → TellsSomeLent stands old.ahead old.actors more old.trace new.trace

abbrev pub TakesWork : {N C S W : Type 0} → (C → Tree → Type 0) → (wanted : Bool) → (seen : S → LinesView) → (sinks : W → ℕ → PlaceView) → (old new : Work N C × S × W) → List Said → Type 0
TakesWork stands wanted seen sinks old new more = TakesFlows stands wanted (flows seen sinks old) (flows seen sinks new) more

abbrev pub TakesSomeWork : {N C S W : Type 0} → (C → Tree → Type 0) → (wanted : Bool) → (seen : S → LinesView) → (sinks : W → ℕ → PlaceView) → (old new : Work N C × S × W) → List Said → Type 0
TakesSomeWork stands wanted seen sinks old new more = TakesSomeFlows stands wanted (flows seen sinks old) (flows seen sinks new) more

-- What tokens leave as it was.
pub record LeavesTaking {N C : Type 0} (old new : Work N C) (l m : LinesView) : Type 0 where
  pub loans : new.actors.buffer.loans ≡ old.actors.buffer.loans
  pub ahead_is : new.ahead ≡ old.ahead
  pub places : SameOutlets l m

-- the same where no lines are wanted, and what is written goes to a place
abbrev pub FeedsTo : {N C W : Type 0} → (C → Tree → Type 0) → (ahead place : ℕ) → (sinks : W → ℕ → PlaceView) → (old new : Work N C × W) → List Said → Type 0
FeedsTo stands ahead place sinks old new more =
    FeedsLent stands ahead old.0.actors new.0.actors more (flow_at (sinks old.1) place old.0.out.items) (flow_at (sinks new.1) place new.0.out.items)

abbrev pub BreaksTo : {N C W : Type 0} → (C → Tree → Type 0) → (ahead place : ℕ) → (sinks : W → ℕ → PlaceView) → (old new : Work N C × W) → List Said → Type 0
BreaksTo stands ahead place sinks old new more =
    BreaksLent stands ahead old.0.actors new.0.actors more (flow_at (sinks old.1) place old.0.out.items) (flow_at (sinks new.1) place new.0.out.items)
