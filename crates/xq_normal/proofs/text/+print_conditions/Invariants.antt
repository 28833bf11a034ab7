use Rattle.std.proofs.Common.{string_bytes}
use Rattle.std.specs.Prelude.{codes}
use Rattle.gcx_model.specs.declared.cond.Cond.{Cond}
use Rattle.xq_print.proofs.Joining.{IsJoined}
use Rattle.xq_normal.proofs.Building.{member_text}
use Rattle.xq_normal.proofs.text.+print_conditions.Given as goal

abbrev pub invariant-put_members-loop-member : goal.invariant-put_members-loop-member
invariant-put_members-loop-member l = IsJoined Cond member_text (codes ", ") (string_bytes l.fn.out) l.member-items l.member-index (string_bytes l.out) l.later
