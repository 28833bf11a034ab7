-- These definitions follow the code; no public clause speaks of them.
-- What the parts of a reader answer.
use Rattle.std.specs.Prelude.{ℕ, ◌≡◌, ◌+◌, ◌-◌, ◌<◌, ◌⊎◌, true, false, List, [], length, Some, None, Result, Ok, Err}
use Rattle.gcx_base.specs.declared.limits.Limits.{Limits}
use Rattle.gcx_model.specs.Faults.{size}
use Rattle.gcx_model.specs.declared.fault.DocFault.{DocFault}
use Rattle.gcx_model.specs.declared.fault.DocFault.TheVariants as doc_faults
use Rattle.doc_chars.specs.declared.chars.CharFault.{CharFault}
use Rattle.doc_chars.specs.declared.chars.CharFault.TheVariants.{Utf8 as not_utf8, Char as no_char}
use Rattle.doc_laws.specs.Machine.{State, is_whole}
use Rattle.doc_laws.specs.Judging.{judged_steps}
use Rattle.doc_tokens.specs.declared.token.Token.{Token}
use Rattle.doc_machine.specs.declared.stop.Stop.{Stop}
use Rattle.doc_reader.specs.Judged.{Judged}
use Rattle.doc_reader.specs.Standing.{ReaderView, IsFault, GoesOnBy}

abbrev pub char_fault : CharFault → DocFault
char_fault (not_utf8 k) = doc_faults.Utf8 k
char_fault (no_char k) = doc_faults.Syntax k

-- the characters were read up to this place, or the machine stopped in them
abbrev pub ReadTo : Result ℕ Stop → Limits → ℕ → State → List ℕ → State → Type 0
ReadTo (Ok at) lim place old cs new = (at ≡ place + size cs) × (judged_steps lim place old cs ≡ Ok new)
ReadTo (Err s) lim place old cs new = Judged {T = Unit {0}} (Err s) lim place old cs new

-- behind a piece, or behind what stopped it
abbrev pub Took : {T : Type 0} → Result T DocFault → ReaderView → Limits → List ℕ → List Token → Type 0
Took (Ok x) h lim b given = GoesOnBy None h lim b given × IsFault None lim b false
Took (Err f) h lim b given = GoesOnBy (Some f) h lim b given × IsFault (Some f) lim b false

-- what reading leaves
pub record IsSame (old new : ReaderView) : Type 0 where
  pub limits : new.limits ≡ old.limits
  pub refused : new.refused ≡ old.refused
  pub finished : new.finished ≡ old.finished
  pub end_waits : new.end_waits ≡ old.end_waits

-- the input ends inside a character, too soon, or with a whole document
abbrev pub Ends : {T : Type 0} → Result T DocFault → ReaderView → Type 0
Ends (Ok x) h = (h.carry.bytes ≡ []) × (is_whole h.state ≡ true)
Ends (Err f) h =
    ((0 < length h.carry.bytes) × (f ≡ doc_faults.Utf8 (h.carry.seen - length h.carry.bytes)))
    ⊎ ((h.carry.bytes ≡ []) × (is_whole h.state ≡ false) × (f ≡ doc_faults.Truncated h.count))
