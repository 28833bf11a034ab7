-- The input came to its end before: a second call of `finish` finds the same, and nothing is held.
use Rattle.std.proofs.Common.{◌≡◌, ℕ, Bool, true, List, [], map, sym, ◌∙◌, subst, refl, None, Option}
use Rattle.std.specs.Prelude.{Result, ⊤}
use Rattle.gcx_base.specs.declared.limits.Limits.{Limits}
use Rattle.gcx_model.specs.declared.fault.DocFault.{DocFault}
use Rattle.gcx_model.specs.Core.{PlanTree}
use Rattle.gcx_model.specs.PlanView.{plan_tree}
use Rattle.gcx_model.specs.Seen.{seen_tree}
use Rattle.gcx_model.specs.Tree.{Tree}
use Rattle.doc_reader.specs.Standing.{Answers, IsFault, answer_by, said_of}
use Rattle.engine.specs.View.{EngineView}
use Rattle.engine.specs.Engine.{GrewBy, Kept, Lost, OnAnswer, StandsOf, TraceGrewBy, TraceGrewWithin}
use Rattle.run_part.specs.Actors.{all_of, bytes_at}
use Rattle.engine.proofs.Courses.{answer_of_fault, grew_none, on_answer, settled_by}
use Rattle.engine.proofs.Ending.{all_taken_back, nothing_held}
use Rattle.engine.proofs.TellingCalls.{trace_none, trace_of}
use Rattle.engine.proofs.Waiting.{on_none}
use Rattle.engine.proofs.Whole.{TokensOf, all_closed, tokens_whole}

module _ {C : Type 0} (stands : C → Tree → Type 0) (lim : Limits) (e : EngineView C) (b : List ℕ) (was : Bool) (s : StandsOf stands lim e b was) (over : e.ended ≡ true) where
  abbrev plan : PlanTree
  plan = plan_tree e.plan

  ended_is : was ≡ true
  ended_is = sym s.closing ∙ over

  stands_over : StandsOf stands lim e b true
  stands_over = subst (λ (z : Bool). StandsOf stands lim e b z) ended_is s

  pub over_exact : (r : Result ⊤ DocFault) → r ≡ answer_by e.refused → Answers r lim b true
  over_exact r is = answer_of_fault e.refused r lim b true is stands_over.fault

  module _ (fresh : e.refused ≡ None) where
    grew : GrewBy plan lim b was b true e.out e.out
    grew = subst (λ (z : Bool). GrewBy plan lim b was b z e.out e.out) ended_is
        (grew_none plan lim b was (bytes_at plan (seen_tree (map said_of s.given)) (all_of plan (seen_tree (map said_of s.given)))) e.out (settled_by plan lim b was (map said_of s.given) _ s.seen refl))

    traced : TraceGrewBy plan lim b was b true e.trace e.trace
    traced = subst (λ (z : Bool). TraceGrewBy plan lim b was b z e.trace e.trace) ended_is
        (trace_none plan lim b was (trace_of plan (map said_of s.given)) e.trace (map said_of s.given, s.seen, refl))

    pub over_ended : (r : Result ⊤ DocFault) → r ≡ answer_by e.refused → OnAnswer r (Lost lim e e b was b true) (Kept stands lim e e b was b true)
    over_ended r is =
        let kept : Kept stands lim e e b was b true = record { of = stands_over; grew = grew; most = λ lent h. h } in
        on_answer e.refused r (Lost lim e e b was b true) (Kept stands lim e e b was b true) is (on_none e.refused (Lost lim e e b was b true) (Kept stands lim e e b was b true) fresh kept)

    pub over_traced : (r : Result ⊤ DocFault) → r ≡ answer_by e.refused
        → OnAnswer r (TraceGrewWithin plan lim b was b true e.trace e.trace) (TraceGrewBy plan lim b was b true e.trace e.trace)
    over_traced r is =
        let A = TraceGrewWithin plan lim b was b true e.trace e.trace in
        let B = TraceGrewBy plan lim b was b true e.trace e.trace in
        on_answer e.refused r A B is (on_none e.refused A B fresh traced)

    document : TokensOf (map said_of stands_over.given)
    document = tokens_whole lim b (map said_of stands_over.given) (subst (λ (z : Option DocFault). IsFault z lim b true) fresh stands_over.fault) stands_over.seen

    pub over_empty : e.actors.buffer.rows ≡ []
    over_empty = nothing_held stands lim e b stands_over document.document document.are (all_closed document.document)

    pub over_balance : e.actors.counts.given ≡ e.actors.buffer.taken
    over_balance = all_taken_back stands lim e b stands_over document.document document.are (all_closed document.document)
