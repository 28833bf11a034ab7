-- What a turn of a run takes from the calls that it makes.
use Rattle.std.proofs.Common.{◌≡◌, ℕ, ◌≤◌, Bool, true, false, List, refl, sym, subst, arith, Some, None, Option, ap, ◌∙◌}
use Rattle.std.specs.Prelude.{Result, ⊤, OnOk, OnErr, is_err}
use Rattle.std.specs.declared.result.Result.TheVariants.{Ok, Err}
use Rattle.std.proofs.lemmas.Bool.{false≢true}
use Rattle.gcx_base.specs.declared.limits.Limits.{Limits}
use Rattle.gcx_model.specs.declared.fault.DocFault.{DocFault}
use Rattle.gcx_model.specs.Tree.{Tree}
use Rattle.doc_reader.specs.Standing.{answer_by}
use Rattle.engine.specs.View.{EngineView}
use Rattle.engine.specs.Engine.{Balanced, MayGoOn, StandsOf, StandsSome}
use Rattle.engine.proofs.Streaming.{bytes_few}
use Rattle.engine.proofs.Waiting.{on_none}
use Rattle.engine.specs.Runs.{KeepsPorts, SamePlan}
use Rattle.engine.specs.Calls.{SameRun}

pub err_of : {T E X : Type 0} (r : Result T E) → is_err r ≡ true → OnErr r X → X
err_of (Ok x) e h = absurd (false≢true e)
err_of (Err x) e h = h

pub ok_of : {T E X : Type 0} (r : Result T E) → is_err r ≡ false → OnOk r X → X
ok_of (Ok x) e h = h
ok_of (Err x) e h = absurd (false≢true (sym e))

pub on_err_any : {T E X : Type 0} (r : Result T E) → X → OnErr r X
on_err_any (Ok x) h = tt
on_err_any (Err x) h = h

no_answer : (f : DocFault) → Ok tt ≡ answer_by (Some f) → ⊥
no_answer f e = cc

pub err_not_ok : (f : DocFault) (r : Result ⊤ DocFault) → r ≡ Err f → r ≡ Ok tt → ⊥
err_not_ok f (Ok u) d e = cc
err_not_ok f (Err x) d e = cc

pub ok_none : (o : Option DocFault) → Ok tt ≡ answer_by o → o ≡ None
ok_none None e = refl
ok_none (Some f) e = absurd (no_answer f e)

module _ {C : Type 0} (stands : C → Tree → Type 0) (lim : Limits) where
  pub may_go : (e : EngineView C) (b : List ℕ) (ended : Bool) → StandsOf stands lim e b ended → e.refused ≡ None → MayGoOn stands e ended
  may_go e b ended s fresh = on_none e.refused (Unit {0}) (StandsSome stands e ended) fresh (record { limits = lim; read = b; of = s })

  pub few_bytes : (e : EngineView C) (b : List ℕ) → StandsOf stands lim e b false → e.refused ≡ None → e.bytes ≤ 1099511627776
  few_bytes e b s fresh =
      let n = (bytes_few stands lim e b false s fresh).1 in
      let l = s.parts.limits.bytes in
      let y = s.bytes in
      omega arith

  pub balance_written : (f u : EngineView C) → u ≡ record f { out = u.out; trace = u.trace } → Balanced f → Balanced u
  balance_written f u same h = subst (λ (z : EngineView C). Balanced z) (sym same) h

-- ---- the plan, and what a run leaves of its ports

module _ {C : Type 0} where
  pub plan_written : (e d : EngineView C) → d ≡ record e { out = d.out; trace = d.trace } → SamePlan e d
  plan_written e d same = record { plan = ap (λ (z : EngineView C). z.plan) same; ahead = ap (λ (z : EngineView C). z.ahead) same; loans = ap (λ (z : EngineView C). z.actors.buffer.loans) same }

  pub plan_called : (e d : EngineView C) → SameRun e d → SamePlan e d
  plan_called e d h = record { plan = h.plan; ahead = h.ahead; loans = h.loans }

  pub plan_on : (a b c : EngineView C) → SamePlan a b → SamePlan b c → SamePlan a c
  plan_on a b c p q = record { plan = q.plan ∙ p.plan; ahead = q.ahead ∙ p.ahead; loans = q.loans ∙ p.loans }

pub ports_on : (A B C : Type 0) (a b c d e f g h i : ℕ) → (A → B → C) → KeepsPorts A a b d e g h → KeepsPorts B b c e f h i → KeepsPorts C a c d f g i
ports_on A B C a b c d e f g h i on p q =
    let r0 = p.read_count in
    let r1 = q.read_count in
    let w0 = p.write_count in
    let w1 = q.write_count in
    let t0 = p.trace_count in
    let t1 = q.trace_count in
    record { kept = on p.kept q.kept; read_count = omega arith; write_count = omega arith; trace_count = omega arith }
