use Rattle.std.proofs.Common.{◌≡◌, ◌≤◌, drop, None}
use Rattle.xq_lex.specs.Closing.{behind_comment}
use Rattle.xq_lex.proofs.gap.comment_len.Given as goal

abbrev pub invariant-loop-i : goal.invariant-loop-i
invariant-loop-i l = (l.depth ≤ l.i) × (behind_comment l.depth l.before (drop l.i l.text) ≡ behind_comment 0 None l.text)
