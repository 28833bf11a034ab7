-- These definitions follow the code; no public clause speaks of them.
-- The limits of a step (this project's).
use Rattle.std.specs.Prelude.{ℕ, ◌≡◌, length, nat_lt, Option, Some, None, Result, Ok, Err, if◌then◌else◌}
use Rattle.gcx_base.specs.declared.limits.Limits.{Limits}
use Rattle.gcx_model.specs.Faults.{DocumentRefusal as Fault, AtDepth, AtName, AtText}
use Rattle.doc_laws.specs.Machine.{State}
use Rattle.doc_laws.specs.Judging.{naming_by, is_deep, deep_place, judged}
use Rattle.doc_machine.specs.declared.stop.Refusal.{Refusal}
use Rattle.doc_machine.specs.declared.stop.Stop.{Stop}
use Rattle.doc_machine.specs.declared.stop.Stop.TheVariants.{Refused, Memory}
use Rattle.doc_machine.specs.Refusals.{fault}

-- where an element too many begins, if one does
abbrev pub deep_at : Limits → ℕ → State → ℕ → Option ℕ
deep_at lim place s c = if is_deep lim s c then Some (deep_place place s.mode) else None

abbrev pub in_depth : Option ℕ → Result State Fault → Result State Fault
in_depth (Some at) other = Err (AtDepth at)
in_depth None other = other

-- the state t within the limits, or the fault
abbrev pub limited : Limits → ℕ → Option ℕ → State → Result State Fault
limited lim place deep t =
    if nat_lt lim.text (length t.run) then Err (AtText place)
    else in_depth deep (if nat_lt lim.name (length (naming_by t.mode t)) then Err (AtName place) else Ok t)

abbrev pub IsLimit : Option Refusal → Result State Fault → State → Type 0
IsLimit None r t = r ≡ Ok t
IsLimit (Some f) r t = r ≡ Err (fault f)

-- one character is read, or refused, or memory runs out; then the tokens of the whole tags are the same
abbrev pub JudgedOne : {T : Type 0} → Result T Stop → Limits → ℕ → State → ℕ → State → Type 0
JudgedOne (Ok x) lim place old c new = judged lim place old c ≡ Ok new
JudgedOne (Err (Refused r)) lim place old c new = (judged lim place old c ≡ Err (fault r)) × (new.tokens ≡ old.tokens)
JudgedOne (Err Memory) lim place old c new = new.tokens ≡ old.tokens
