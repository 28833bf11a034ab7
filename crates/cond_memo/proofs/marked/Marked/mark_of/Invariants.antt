use Rattle.std.proofs.Common.{◌≤◌, ◌-◌, vec_len}
use Rattle.std.specs.Prelude.{option_map}
use Rattle.cond_eval.proofs.Kept.{NoneBelow}
use Rattle.cond_memo.specs.Marks.{ask_of, subject, subject_of}
use Rattle.cond_memo.proofs.marked.Marked.mark_of.Given as goal

abbrev pub invariant-marks : goal.invariant-marks
invariant-marks l = record {
  low : l.index ≤ vec_len l.self.marks;
  none : NoneBelow subject_of l.self.marks.items l.index (subject l.var l.steps (option_map (λ q. ask_of q.0 q.1.now) l.ask));
}

abbrev pub decreases-marks : goal.decreases-marks
decreases-marks l = vec_len l.self.marks - l.index
