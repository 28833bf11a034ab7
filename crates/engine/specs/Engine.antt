-- What an engine stands for, and what its calls write (this project's).
use Rattle.std.specs.Prelude.{◌≡◌, ◌≤◌, ℕ, Bool, true, false, List, [], ◌++◌, length, map, max, Option, Some, None, Result, Ok, Err, ⊤}
use Rattle.gcx_base.specs.declared.limits.Limits.{Limits}
use Rattle.gcx_model.specs.declared.fault.DocFault.{DocFault}
use Rattle.gcx_model.specs.declared.fault.DocFault.TheVariants.{Memory}
use Rattle.gcx_model.specs.Tree.{Tree, TreeToken as Said}
use Rattle.gcx_model.specs.Core.{PlanTree}
use Rattle.gcx_model.specs.PlanView.{plan_tree}
use Rattle.gcx_model.specs.Run.{bytes_written}
use Rattle.gcx_model.specs.Points.{actions}
use Rattle.gcx_model.specs.Demand.{text_of_lines, trace_lines}
use Rattle.gcx_model.specs.Seen.{SeenIs, seen_tree}
use Rattle.doc_reader.specs.Standing.{Token, Stands, IsFault, waiting, said_of}
use Rattle.run_part.specs.Actors.{IsBalanced, StandAt}
use Rattle.engine.specs.View.{EngineView}
use Rattle.run_part.specs.Counts.{CountsOf}

-- the limits that a reader may have
pub record MayLimit (lim : Limits) : Type 0 where
  pub depth : lim.depth ≤ 1000
  pub bytes : lim.bytes ≤ 1099511627776

-- The most rows that the store ever had: those that were counted, or those that it had had when it was lent.
abbrev pub MostIs : {C : Type 0} → (lent : ℕ) → EngineView C → Type 0
MostIs lent e = e.actors.buffer.most ≡ max lent e.actors.counts.peak

-- So it is later too, whatever the store had had.
abbrev pub KeepsMost : {C : Type 0} → (old new : EngineView C) → Type 0
KeepsMost old new = (lent : ℕ) → MostIs lent old → MostIs lent new

-- the actors of an engine stand for the state (P, k)
abbrev pub ActorsAt : {C : Type 0} → (C → Tree → Type 0) → EngineView C → Tree → ℕ → Type 0
ActorsAt stands e P k = StandAt stands (plan_tree e.plan) e.actors P k

-- The reader was fed these bytes and gave these tokens. The actors stand for them with every action taken, and the counts are theirs.
pub record PartsStand {C : Type 0} (stands : C → Tree → Type 0) (lim : Limits) (e : EngineView C) (b : List ℕ) (ended : Bool) (given : List Token) : Type 0 where
  pub limits : MayLimit lim
  pub reader : Stands e.reader lim b ended given
  pub actors : ActorsAt stands e (seen_tree (map said_of given)) (length (actions (plan_tree e.plan) (seen_tree (map said_of given))))
  pub counts : CountsOf (plan_tree e.plan) (map said_of given) e.ahead e.actors.buffer e.actors.counts

-- An engine stands for these bytes: it was fed them, no token waits, and every action is taken that is possible behind the tokens seen. What it answers is their fault, and no want of memory.
pub record StandsOf {C : Type 0} (stands : C → Tree → Type 0) (lim : Limits) (e : EngineView C) (b : List ℕ) (ended : Bool) : Type 0 where
  pub given : List Token
  pub seen : SeenIs lim b ended (map said_of given)
  pub parts : PartsStand stands lim e b ended given
  pub none : waiting e.reader ≡ []
  pub closing : e.ended ≡ ended
  pub bytes : e.bytes ≡ length b
  pub fault : IsFault e.refused lim b ended
  pub lasting : e.refused ≡ Some Memory → ⊥
  pub kept : (e.refused ≡ None → ⊥) → e.reader.refused ≡ e.refused

-- It does so for some bytes.
pub record StandsSome {C : Type 0} (stands : C → Tree → Type 0) (e : EngineView C) (ended : Bool) : Type 0 where
  pub limits : Limits
  pub read : List ℕ
  pub of : StandsOf stands limits e read ended

-- behind want of memory, or behind another answer
abbrev pub OnFault : DocFault → (lost kept : Type 0) → Type 0
OnFault Memory lost kept = lost
OnFault f lost kept = kept

abbrev pub OnRefusal : Option DocFault → (lost kept : Type 0) → Type 0
OnRefusal None lost kept = kept
OnRefusal (Some f) lost kept = OnFault f lost kept

abbrev pub OnAnswer : Result ⊤ DocFault → (lost kept : Type 0) → Type 0
OnAnswer (Ok u) lost kept = kept
OnAnswer (Err f) lost kept = OnFault f lost kept

-- Where memory ran out nothing is asked of an engine: it only answers so again.
abbrev pub MayGoOn : {C : Type 0} → (C → Tree → Type 0) → EngineView C → (ended : Bool) → Type 0
MayGoOn stands e ended = OnRefusal e.refused (Unit {0}) (StandsSome stands e ended)

-- what the plan's run writes over the tree of the tokens seen in these bytes
pub record Settles (plan : PlanTree) (lim : Limits) (b : List ℕ) (ended : Bool) (w : List ℕ) : Type 0 where
  pub tokens : List Said
  pub seen : SeenIs lim b ended tokens
  pub is : w ≡ bytes_written plan.body (seen_tree tokens)

-- The output grew by what the second bytes settle beyond the first ones.
pub record GrewBy (plan : PlanTree) (lim : Limits) (b : List ℕ) (was : Bool) (c : List ℕ) (ended : Bool) (before after : List ℕ) : Type 0 where
  pub old : List ℕ
  pub more : List ℕ
  pub settled : Settles plan lim b was old
  pub settles : Settles plan lim c ended (old ++ more)
  pub grew : after ≡ before ++ more

-- It grew by a front of that.
pub record GrewWithin (plan : PlanTree) (lim : Limits) (b : List ℕ) (was : Bool) (c : List ℕ) (ended : Bool) (before after : List ℕ) : Type 0 where
  pub old : List ℕ
  pub part : List ℕ
  pub rest : List ℕ
  pub settled : Settles plan lim b was old
  pub settles : Settles plan lim c ended (old ++ (part ++ rest))
  pub grew : after ≡ before ++ part

-- No more roles are taken back than were given.
abbrev pub Balanced : {C : Type 0} → EngineView C → Type 0
Balanced e = IsBalanced e.actors

-- the text of the lines of the demand run over the tokens seen in these bytes
abbrev pub IsTrace : PlanTree → Limits → List ℕ → (ended : Bool) → List ℕ → Type 0
IsTrace plan lim b ended t = (ts : List Said) × SeenIs lim b ended ts × (t ≡ text_of_lines (trace_lines plan ts))

-- The trace grew by the lines that the second bytes have beyond those of the first ones.
pub record TraceGrewBy (plan : PlanTree) (lim : Limits) (b : List ℕ) (was : Bool) (c : List ℕ) (ended : Bool) (before after : List ℕ) : Type 0 where
  pub old : List ℕ
  pub more : List ℕ
  pub traced : IsTrace plan lim b was old
  pub traces : IsTrace plan lim c ended (old ++ more)
  pub grew : after ≡ before ++ more

-- It grew by a front of them.
pub record TraceGrewWithin (plan : PlanTree) (lim : Limits) (b : List ℕ) (was : Bool) (c : List ℕ) (ended : Bool) (before after : List ℕ) : Type 0 where
  pub old : List ℕ
  pub part : List ℕ
  pub rest : List ℕ
  pub traced : IsTrace plan lim b was old
  pub traces : IsTrace plan lim c ended (old ++ (part ++ rest))
  pub grew : after ≡ before ++ part

-- A trace is wanted.
abbrev pub IsTold : {C : Type 0} → EngineView C → Type 0
IsTold e = e.tracing ≡ true

-- An engine before any byte, as `new` makes it: what the plan's run writes before any token waits, and so does its trace.
pub record Starts {C : Type 0} (stands : C → Tree → Type 0) (lim : Limits) (e : EngineView C) : Type 0 where
  pub of : StandsOf stands lim e [] false
  pub fresh : e.refused ≡ None
  pub settled : Settles (plan_tree e.plan) lim [] false e.out
  pub traced : e.tracing ≡ true → IsTrace (plan_tree e.plan) lim [] false e.trace

-- No trace is wanted, and none waits.
pub record IsSilent {C : Type 0} (e : EngineView C) : Type 0 where
  pub untold : e.tracing ≡ false
  pub empty : e.trace ≡ []

-- What a call that fed these bytes made: the output grew by what they settle, and the engine stands for them; or memory ran out
-- on the way.
pub record Lost {C : Type 0} (lim : Limits) (old new : EngineView C) (b : List ℕ) (was : Bool) (c : List ℕ) (ended : Bool) : Type 0 where
  pub grew : GrewWithin (plan_tree old.plan) lim b was c ended old.out new.out
  pub balance : Balanced new

pub record Kept {C : Type 0} (stands : C → Tree → Type 0) (lim : Limits) (old new : EngineView C) (b : List ℕ) (was : Bool) (c : List ℕ) (ended : Bool) : Type 0 where
  pub of : StandsOf stands lim new c ended
  pub grew : GrewBy (plan_tree old.plan) lim b was c ended old.out new.out
  pub most : KeepsMost old new
