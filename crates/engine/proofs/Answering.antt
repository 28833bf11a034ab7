-- How an answer of the engine ends a run.
use Rattle.std.proofs.Common.{◌≡◌, ℕ, Bool, List, refl, sym, ◌∙◌, inl, inr, Some, None}
use Rattle.std.specs.Prelude.{Result, ⊤, OnOk}
use Rattle.std.specs.declared.result.Result.TheVariants.{Ok, Err}
use Rattle.gcx_base.specs.declared.limits.Limits.{Limits}
use Rattle.gcx_model.specs.declared.fault.DocFault.{DocFault}
use Rattle.gcx_model.specs.declared.fault.DocFault.TheVariants.{Utf8, Syntax, Truncated, Depth, NameLong, TextLong, TooLong, Memory}
use Rattle.gcx_model.specs.Faults.{FaultIs}
use Rattle.run_words.specs.Writing.{Sinks}
use Rattle.doc_reader.specs.Standing.{Answers}
use Rattle.engine.specs.declared.report.Ended.{Ended}
use Rattle.engine.specs.declared.report.Ended.TheVariants as ends
use Rattle.engine.specs.Engine.{OnAnswer}
use Rattle.engine.specs.Runs.{EndsWaiting, ended_by}

-- which of the two an answer brings: what is lost where memory ran out, and else what is kept
pub lost_of : (r : Result ⊤ DocFault) (A B : Type 0) → ended_by r ≡ ends.Memory → OnAnswer r A B → A
lost_of (Ok u) A B e h = absurd (cc)
lost_of (Err Memory) A B e h = h
lost_of (Err (Utf8 n)) A B e h = absurd (cc)
lost_of (Err (Syntax n)) A B e h = absurd (cc)
lost_of (Err (Truncated n)) A B e h = absurd (cc)
lost_of (Err (Depth n)) A B e h = absurd (cc)
lost_of (Err (NameLong n)) A B e h = absurd (cc)
lost_of (Err (TextLong n)) A B e h = absurd (cc)
lost_of (Err (TooLong n)) A B e h = absurd (cc)

pub kept_of : (r : Result ⊤ DocFault) (A B : Type 0) → (ended_by r ≡ ends.Memory → ⊥) → OnAnswer r A B → B
kept_of (Ok u) A B e h = h
kept_of (Err Memory) A B e h = absurd (e refl)
kept_of (Err (Utf8 n)) A B e h = h
kept_of (Err (Syntax n)) A B e h = h
kept_of (Err (Truncated n)) A B e h = h
kept_of (Err (Depth n)) A B e h = h
kept_of (Err (NameLong n)) A B e h = h
kept_of (Err (TextLong n)) A B e h = h
kept_of (Err (TooLong n)) A B e h = h

-- how a run ends by an answer that isn't want of memory
pub data By (lim : Limits) (b : List ℕ) (ended : Bool) (r : Result ⊤ DocFault) : Type 0 where
  ByOk : r ≡ Ok tt → ended_by r ≡ ends.Ok → FaultIs lim b ended None → By lim b ended r
  ByFault : (f : DocFault) → ended_by r ≡ ends.Refused f → FaultIs lim b ended (Some f) → By lim b ended r

pub by : (lim : Limits) (b : List ℕ) (ended : Bool) (r : Result ⊤ DocFault) → (ended_by r ≡ ends.Memory → ⊥) → Answers r lim b ended → By lim b ended r
by lim b ended (Ok tt) other h = ByOk refl refl h
by lim b ended (Err Memory) other h = absurd (other refl)
by lim b ended (Err (Utf8 n)) other h = ByFault (Utf8 n) refl h
by lim b ended (Err (Syntax n)) other h = ByFault (Syntax n) refl h
by lim b ended (Err (Truncated n)) other h = ByFault (Truncated n) refl h
by lim b ended (Err (Depth n)) other h = ByFault (Depth n) refl h
by lim b ended (Err (NameLong n)) other h = ByFault (NameLong n) refl h
by lim b ended (Err (TextLong n)) other h = ByFault (TextLong n) refl h
by lim b ended (Err (TooLong n)) other h = ByFault (TooLong n) refl h

ok_is : (r : Result ⊤ DocFault) (X : Type 0) → ended_by r ≡ ends.Ok → OnOk r X → X
ok_is (Ok u) X e h = h
ok_is (Err Memory) X e h = absurd (cc)
ok_is (Err (Utf8 n)) X e h = absurd (cc)
ok_is (Err (Syntax n)) X e h = absurd (cc)
ok_is (Err (Truncated n)) X e h = absurd (cc)
ok_is (Err (Depth n)) X e h = absurd (cc)
ok_is (Err (NameLong n)) X e h = absurd (cc)
ok_is (Err (TextLong n)) X e h = absurd (cc)
ok_is (Err (TooLong n)) X e h = absurd (cc)

-- a run that ends with Ok was answered so
pub ok_by : (r : Result ⊤ DocFault) (e : Ended) (out trace : List ℕ) (a b : Sinks) (X : Type 0) → EndsWaiting r e out trace a b → e ≡ ends.Ok → OnOk r X → X
ok_by r e out trace a b X (inl (memory, is, same)) ok h = (let no : ends.Memory ≡ ends.Ok = sym is ∙ ok in absurd (cc))
ok_by r e out trace a b X (inr (inl (other, is, wrote))) ok h = ok_is r X (sym is ∙ ok) h
ok_by r e out trace a b X (inr (inr (other, is, stops))) ok h = (let no : ends.WriteFault ≡ ends.Ok = sym is ∙ ok in absurd (cc))
