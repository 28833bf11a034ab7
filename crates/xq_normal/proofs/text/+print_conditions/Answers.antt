use Rattle.std.proofs.Common.{[], string_bytes, cond, arith}
use Rattle.std.specs.Prelude.{codes}
use Rattle.gcx_model.specs.CondView.{core_cond_trees}
use Rattle.xq_print.proofs.Joining.{one_joined, after}
use Rattle.xq_normal.proofs.Building.{member_text, members_done}
use Rattle.xq_normal.proofs.text.+print_conditions.Goals as goal

pub put_members-loop-member-preserved : goal.put_members-loop-member-preserved
put_members-loop-member-preserved t c =
    one_joined member_text (codes ", ") (string_bytes c.args.out.now) c.items-member-items.result.now c.loop-member.member-index c.member-item.result
    (string_bytes c.loop-member.out) (string_bytes c.put_cond.new.out) c.loop-member.later c.loop-member.invariant (omega arith) c.member-item.is
    (after (string_bytes c.loop-member.out) (string_bytes c.put_where.new.out) (string_bytes c.put_cond.new.out) (cond c.loop-member.later (codes ", ") []) (member_text c.member-item.result)
    c.in_ok-put_where.ensures c.in_ok-put_cond.ensures)

pub put_members-returns : goal.put_members-returns
put_members-returns t c =
    members_done (string_bytes c.args.out.now) (string_bytes c.loop-member.out) c.items-member-items.result.now (core_cond_trees c.args.members.now) c.loop-member.member-index c.loop-member.later
    c.loop-member.invariant (omega arith) c.items-member-items.ensures.trees
