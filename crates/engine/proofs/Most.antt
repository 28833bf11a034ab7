-- The most rows that a store ever had, over a turn of a run.
use Rattle.std.proofs.Common.{◌≡◌, ℕ, Bool, List, max, sym, subst, inl, inr, arith}
use Rattle.std.specs.Prelude.{Result, ⊤}
use Rattle.gcx_base.specs.declared.limits.Limits.{Limits}
use Rattle.gcx_model.specs.declared.fault.DocFault.{DocFault}
use Rattle.gcx_model.specs.Tree.{Tree}
use Rattle.run_words.specs.Writing.{Sinks}
use Rattle.engine.specs.View.{EngineView}
use Rattle.engine.specs.declared.report.Ended.{Ended}
use Rattle.engine.specs.declared.report.Ended.TheVariants as ends
use Rattle.engine.specs.Engine.{Kept, Lost, MostIs, OnAnswer}
use Rattle.run_part.specs.Counts.{Peaks}
use Rattle.engine.specs.Runs.{EndsWaiting, UnlessMemory}
use Rattle.engine.proofs.Answering.{kept_of}

unless_any : (x : Ended) (X : Type 0) → X → UnlessMemory x X
unless_any ends.Ok X h = h
unless_any (ends.Refused f) X h = h
unless_any ends.ReadFault X h = h
unless_any ends.WriteFault X h = h
unless_any ends.Memory X h = tt

-- output and trace don't matter to it
pub most_written : {C : Type 0} (e d : EngineView C) → d ≡ record e { out = d.out; trace = d.trace } → (lent : ℕ) → MostIs lent e → MostIs lent d
most_written e d same lent h = subst (λ (z : EngineView _). MostIs lent z) (sym same) h

-- Where memory didn't run out in a call that fed bytes it is kept, and so it is behind the end of the run.
pub most_ends : {C : Type 0} (stands : C → Tree → Type 0) (lim : Limits) (old d u : EngineView C) (b : List ℕ) (was : Bool) (c : List ℕ) (ended : Bool) (r : Result ⊤ DocFault) (x : Ended) (out trace : List ℕ) (k k1 : Sinks)
    → EndsWaiting r x out trace k k1 → OnAnswer r (Lost lim old d b was c ended) (Kept stands lim old d b was c ended) → u ≡ record d { out = u.out; trace = u.trace }
    → (lent : ℕ) → MostIs lent old → UnlessMemory x (MostIs lent u)
most_ends stands lim old d u b was c ended r x out trace k k1 (inl (memory, is, same)) fed rest lent h = subst (λ (z : Ended). UnlessMemory z (MostIs lent u)) (sym is) tt
most_ends stands lim old d u b was c ended r x out trace k k1 (inr (inl (other, is, wrote))) fed rest lent h =
    let kept = kept_of r (Lost lim old d b was c ended) (Kept stands lim old d b was c ended) other fed in
    unless_any x (MostIs lent u) (most_written d u rest lent (kept.most lent h))
most_ends stands lim old d u b was c ended r x out trace k k1 (inr (inr (other, is, stops))) fed rest lent h =
    let kept = kept_of r (Lost lim old d b was c ended) (Kept stands lim old d b was c ended) other fed in
    unless_any x (MostIs lent u) (most_written d u rest lent (kept.most lent h))

-- Both hold where memory didn't run out.
pub unless_both : (x : Ended) (X Y : Type 0) → UnlessMemory x X → UnlessMemory x Y → UnlessMemory x (X × Y)
unless_both ends.Ok X Y h k = (h, k)
unless_both (ends.Refused f) X Y h k = (h, k)
unless_both ends.ReadFault X Y h k = (h, k)
unless_both ends.WriteFault X Y h k = (h, k)
unless_both ends.Memory X Y h k = tt

-- where it had had none
pub most_fresh : (peak ahead counted most : ℕ) → Peaks peak ahead counted → most ≡ max 0 counted → Peaks peak ahead most
most_fresh peak ahead counted most p e =
    let low = p.least in
    let high = p.near in
    record { least = omega arith; near = omega arith }
