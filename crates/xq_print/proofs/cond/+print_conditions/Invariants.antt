use Rattle.std.proofs.Common.{string_bytes}
use Rattle.gcx_model.specs.declared.query.QCond.{QCond}
use Rattle.xq_print.specs.Printed.{joint_text}
use Rattle.xq_print.proofs.Joining.{IsJoined}
use Rattle.xq_print.proofs.Lists.{member_text}
use Rattle.xq_print.proofs.cond.+print_conditions.Given as goal

abbrev pub invariant-put_members-loop-member : goal.invariant-put_members-loop-member
invariant-put_members-loop-member l = IsJoined QCond (member_text l.joint) (joint_text l.joint) (string_bytes l.fn.out) l.member-items l.member-index (string_bytes l.out) l.later
