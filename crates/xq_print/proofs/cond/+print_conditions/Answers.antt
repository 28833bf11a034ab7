use Rattle.std.proofs.Common.{◌++◌, [], string_bytes, cond, arith, ap, ◌∙◌}
use Rattle.gcx_model.specs.Query.{cond_tree, cond_trees}
use Rattle.xq_print.specs.Printed.{cond_text, enclosed, joint_text}
use Rattle.xq_print.proofs.Joining.{one_joined}
use Rattle.xq_print.proofs.Lists.{member_text, one_member, members_done}
use Rattle.xq_print.proofs.cond.+print_conditions.Goals as goal

pub put_members-loop-member-preserved : goal.put_members-loop-member-preserved
put_members-loop-member-preserved t c =
    one_joined (member_text c.args.joint) (joint_text c.args.joint) (string_bytes c.args.out.now) c.items-member-items.result.now c.loop-member.member-index c.member-item.result
    (string_bytes c.loop-member.out) (string_bytes c.put_where-in-loop-member-2.new.out) c.loop-member.later c.loop-member.invariant (omega arith) c.member-item.is
    (one_member (string_bytes c.loop-member.out) (string_bytes c.put_where.new.out) (string_bytes c.put_where-in-loop-member.new.out) (string_bytes c.put_cond.new.out) (string_bytes c.put_where-in-loop-member-2.new.out)
    (joint_text c.args.joint) (cond_text (cond_tree c.member-item.result)) c.loop-member.later c.encloses-enclosed.result
    (c.in_ok-put_where.ensures ∙ ap (λ x. string_bytes c.loop-member.out ++ cond c.loop-member.later x []) c.text.ensures)
    c.in_ok-put_where-2.ensures c.in_ok-put_cond.ensures c.in_ok-put_where-3.ensures
    ∙ ap (λ b. string_bytes c.loop-member.out ++ (cond c.loop-member.later (joint_text c.args.joint) [] ++ enclosed b (cond_text (cond_tree c.member-item.result)))) c.encloses-enclosed.ensures)

pub put_members-returns : goal.put_members-returns
put_members-returns t c =
    members_done c.args.joint (string_bytes c.args.out.now) (string_bytes c.loop-member.out) c.items-member-items.result.now (cond_trees c.args.members.now) c.loop-member.member-index c.loop-member.later
    c.loop-member.invariant (omega arith) c.items-member-items.ensures.trees
