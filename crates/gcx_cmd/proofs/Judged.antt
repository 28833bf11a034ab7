-- The judging of TRACE, from what its source gave.
use Rattle.std.proofs.Common.{◌≡◌, inr, ℕ, true, false, List, Err, subst}
use Rattle.std.specs.Prelude.{IfErr}
use Rattle.gcx_io.specs.Causes.{Rose}
use Rattle.gcx_io.specs.Views.{ShelfView, SourceView}
use Rattle.gcx_io.specs.Writing.{joined}
use Rattle.run_words.specs.Reading.{CountsFault}
use Rattle.run_words.specs.Stops.{Stop, EndAnswered, FaultAnswered, IsCalm, is_end}
use Rattle.time_laws.specs.Checking.{Yes, No, ReadFault, Judges}
use Rattle.trace_check.specs.Judging.{JudgesSource}
use Rattle.trace_check.specs.declared.checked.Checked.{Checked}
use Rattle.trace_check.specs.declared.checked.Checked.TheVariants as checked
use Rattle.gcx_cmd.proofs.FileRead.{FileRead}
use Rattle.gcx_cmd.specs.CheckDoes.{IsUnread, OverText, TraceDoes}
use Rattle.gcx_cmd.specs.Main.{HasNoMemory}
use Rattle.gcx_cmd.specs.ReadEnd.{verdict}
use Rattle.gcx_cmd.specs.declared.status.Status.TheVariants as status

module _ (t text : List ℕ) (s u : SourceView) where
  -- of a file that was opened and judged
  module _ (a b : ShelfView) (f : FileRead t a b s u) where
    over : (r : Checked) (j : JudgesSource text r s u) (Says : List (List ℕ) → Stop → Type 0) → Says j.pieces j.stop → OverText t text Says a b
    over r j Says says = record {
      pieces = j.pieces;
      stop = j.stop;
      one = f.opens;
      trace = f.reads j.pieces j.stop j.gave;
      short = j.short;
      in_time = j.earlier;
      says = says;
    }

    pub judged_does : (r : Checked) → JudgesSource text r s u → TraceDoes t text (verdict r) a b
    judged_does (checked.Yes lines) j =
        over (checked.Yes lines) j (λ ps stop. (stop ≡ EndAnswered) × Judges text (Yes lines) (joined ps) true)
        (j.stops, subst (λ (z : Stop). Judges text (Yes lines) (joined j.pieces) (is_end z)) j.stops j.judged)
    judged_does (checked.No line) j =
        over (checked.No line) j (λ ps stop. IsCalm stop × Judges text (No line) (joined ps) (is_end stop)) (j.stops, j.judged)
    judged_does checked.ReadFault j =
        inr (over checked.ReadFault j (λ ps stop. (stop ≡ FaultAnswered) × Judges text ReadFault (joined ps) false)
        (j.stops, subst (λ (z : Stop). Judges text ReadFault (joined j.pieces) (is_end z)) j.stops j.judged))
    judged_does checked.Memory j = inr (over checked.Memory j IsUnread j.stops)

  -- a read fault is one of the source
  pub judged_fault : (r : Checked) → JudgesSource text r s u → verdict r ≡ Err status.ReadFault → Rose s.faults u.faults
  judged_fault (checked.Yes lines) j is = let no : ⊥ = cc in absurd no
  judged_fault (checked.No line) j is = let no : ⊥ = cc in absurd no
  judged_fault checked.ReadFault j is = subst (λ (z : Stop). CountsFault z s.faults u.faults) j.stops j.gave.faults
  judged_fault checked.Memory j is = let no : ⊥ = cc in absurd no

pub judged_memory : (r : Checked) → IfErr (verdict r) HasNoMemory
judged_memory (checked.Yes lines) = tt
judged_memory (checked.No line) = tt
judged_memory checked.ReadFault = tt
judged_memory checked.Memory = tt
