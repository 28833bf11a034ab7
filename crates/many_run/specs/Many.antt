-- What several plans over one reader stand for (this project's).
use Rattle.std.specs.Prelude.{◌≡◌, ℕ, Bool, false, List, [], length, map, Some, None}
use Rattle.gcx_base.specs.declared.limits.Limits.{Limits}
use Rattle.gcx_model.specs.declared.fault.DocFault.TheVariants.{Memory}
use Rattle.gcx_model.specs.Tree.{Tree}
use Rattle.gcx_model.specs.Core.{PlanTree}
use Rattle.gcx_model.specs.PlanView.{plan_tree}
use Rattle.gcx_model.specs.Seen.{SeenIs}
use Rattle.gcx_model.specs.declared.plan.Plan.{Plan}
use Rattle.doc_reader.specs.Standing.{IsFault, Stands, Token, said_of, waiting}
use Rattle.engine.specs.Engine.{GrewBy, GrewWithin, MayLimit, OnRefusal, Settles}
use Rattle.many_run.specs.Each.{AtEach, OfEach}
use Rattle.many_run.specs.View.{ManyView}
use Rattle.run_part.specs.View.{PartView}
use Rattle.run_part.specs.Part.{PartStands}

-- the plans of the parts
abbrev pub plans_of : {C : Type 0} → ManyView C → List Plan
plans_of m = map (λ p. p.plan) m.parts

-- The plans stand for these bytes: the reader was fed them, no token waits, and for each plan every action is taken that is possible
-- behind the tokens seen. What is answered is their fault, and no want of memory.
pub record ManyStand {C : Type 0} (stands : C → Tree → Type 0) (lim : Limits) (m : ManyView C) (b : List ℕ) (ended : Bool) : Type 0 where
  pub limits : MayLimit lim
  pub given : List Token
  pub seen : SeenIs lim b ended (map said_of given)
  pub reader : Stands m.reader lim b ended given
  pub none : waiting m.reader ≡ []
  pub parts : OfEach (PartStands stands 1 (map said_of given)) m.parts
  pub closing : m.ended ≡ ended
  pub bytes : m.bytes ≡ length b
  pub fault : IsFault m.refused lim b ended
  pub lasting : m.refused ≡ Some Memory → ⊥
  pub kept : (m.refused ≡ None → ⊥) → m.reader.refused ≡ m.refused

-- They do so for some bytes.
pub record ManyStandSome {C : Type 0} (stands : C → Tree → Type 0) (m : ManyView C) (ended : Bool) : Type 0 where
  pub limits : Limits
  pub read : List ℕ
  pub of : ManyStand stands limits m read ended

-- Where memory ran out nothing is asked: it is only answered again.
abbrev pub MayFeedMany : {C : Type 0} → (C → Tree → Type 0) → ManyView C → (ended : Bool) → Type 0
MayFeedMany stands m ended = OnRefusal m.refused (Unit {0}) (ManyStandSome stands m ended)

-- It is a part of the same plan, and its output grew so.
pub record PartGrew {C : Type 0} (Grew : PlanTree → (before after : List ℕ) → Type 0) (old new : PartView C) : Type 0 where
  pub plan : new.plan ≡ old.plan
  pub grew : Grew (plan_tree old.plan) old.out new.out

-- the output of each plan grew so
abbrev pub EachGrew : {C : Type 0} → (PlanTree → (before after : List ℕ) → Type 0) → (old new : ManyView C) → Type 0
EachGrew Grew old new = AtEach (PartGrew Grew) old.parts new.parts

-- What a call that fed these bytes made: for each plan the output grew by what they settle; or by a front of that, where memory
-- ran out on the way.
pub record ManyKept {C : Type 0} (stands : C → Tree → Type 0) (lim : Limits) (old new : ManyView C) (b : List ℕ) (was : Bool) (c : List ℕ) (ended : Bool) : Type 0 where
  pub of : ManyStand stands lim new c ended
  pub grew : EachGrew (λ plan. GrewBy plan lim b was c ended) old new

abbrev pub ManyLost : {C : Type 0} → Limits → (old new : ManyView C) → List ℕ → Bool → List ℕ → Bool → Type 0
ManyLost lim old new b was c ended = EachGrew (λ plan. GrewWithin plan lim b was c ended) old new

-- These plans before any byte, as `new` makes them: what each run writes before any token waits.
pub record ManyStart {C : Type 0} (stands : C → Tree → Type 0) (plans : List Plan) (lim : Limits) (m : ManyView C) : Type 0 where
  pub of : ManyStand stands lim m [] false
  pub fresh : m.refused ≡ None
  pub plans_are : plans_of m ≡ plans
  pub settled : OfEach (λ p. Settles (plan_tree p.plan) lim [] false p.out) m.parts

-- no node is held
abbrev pub NoneHeld : {C : Type 0} → ManyView C → Type 0
NoneHeld m = OfEach (λ p. p.actors.buffer.rows ≡ []) m.parts
