-- What a call of the engine leaves of the balance of roles.
use Rattle.std.proofs.Common.{ℕ, Bool, List, map}
use Rattle.std.specs.Prelude.{Result, ⊤}
use Rattle.std.specs.declared.result.Result.TheVariants.{Ok, Err}
use Rattle.gcx_base.specs.declared.limits.Limits.{Limits}
use Rattle.gcx_model.specs.declared.fault.DocFault.{DocFault}
use Rattle.gcx_model.specs.declared.fault.DocFault.TheVariants.{Utf8, Syntax, Truncated, Depth, NameLong, TextLong, TooLong, Memory}
use Rattle.gcx_model.specs.Tree.{Tree}
use Rattle.gcx_model.specs.PlanView.{plan_tree}
use Rattle.gcx_model.specs.Seen.{seen_tree}
use Rattle.doc_reader.specs.Standing.{said_of}
use Rattle.engine.specs.View.{EngineView}
use Rattle.engine.specs.Engine.{Balanced, Kept, Lost, OnAnswer, OnFault, StandsOf}
use Rattle.run_part.specs.Actors.{all_of}
use Rattle.run_part.proofs.FeedingOne.{old_balance}

on_fault_both : (f : DocFault) {A B X : Type 0} → (A → X) → (B → X) → OnFault f A B → X
on_fault_both Memory a b h = a h
on_fault_both (Utf8 n) a b h = b h
on_fault_both (Syntax n) a b h = b h
on_fault_both (Truncated n) a b h = b h
on_fault_both (Depth n) a b h = b h
on_fault_both (NameLong n) a b h = b h
on_fault_both (TextLong n) a b h = b h
on_fault_both (TooLong n) a b h = b h

pub answer_both : (r : Result ⊤ DocFault) {A B X : Type 0} → (A → X) → (B → X) → OnAnswer r A B → X
answer_both (Ok u) a b h = b h
answer_both (Err f) a b h = on_fault_both f a b h

module _ {C : Type 0} (stands : C → Tree → Type 0) (lim : Limits) where
  pub stands_balance : (e : EngineView C) (b : List ℕ) (ended : Bool) → StandsOf stands lim e b ended → Balanced e
  stands_balance e b ended s = old_balance stands (plan_tree e.plan) e.actors (seen_tree (map said_of s.given)) (all_of (plan_tree e.plan) (seen_tree (map said_of s.given))) s.parts.actors s.parts.counts.given

  pub called_balance : (old d : EngineView C) (b : List ℕ) (was : Bool) (c : List ℕ) (ended : Bool) (r : Result ⊤ DocFault) → OnAnswer r (Lost lim old d b was c ended) (Kept stands lim old d b was c ended) → Balanced d
  called_balance old d b was c ended r h = answer_both r (λ l. l.balance) (λ k. stands_balance d c ended k.of) h
