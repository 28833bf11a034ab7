use Rattle.std.proofs.Common.{sym, ◌∙◌, ap, true, false}
use Rattle.role_set.specs.NodeRoles.{NodeSets}
use Rattle.buf_tree.proofs.Reading.{less_next}
use Rattle.buf_tree.proofs.buffer.roles_left.Goals as goal
use Rattle.buf_tree.proofs.buffer.roles_left.Goals.{then-not-holds+in_ok-give, else-not-holds}

pub loop-role-preserved : goal.loop-role-preserved
loop-role-preserved c = elim c.if-not-holds.branch [
  | then-not-holds+in_ok-give w ↦ (
      let given = w.roles-is ∙ w.in_ok-give.ensures.ok in
      record {
        held = less_next c.args.given.now c.args.ahead.now c.loop-role.role-index (record { 0 = 0 }) false c.loop-role.roles.held _ c.loop-role-test.true c.loop-role.invariant.held (sym c.holds.ensures ∙ w.if-not-holds.true) (ap (λ (s : NodeSets). s.held) given);
        signed = ap (λ (s : NodeSets). s.signed) given ∙ c.loop-role.invariant.signed;
      })
  | else-not-holds w ↦ record {
    held = less_next c.args.given.now c.args.ahead.now c.loop-role.role-index (record { 0 = 0 }) true c.loop-role.roles.held _ c.loop-role-test.true c.loop-role.invariant.held (sym c.holds.ensures ∙ w.if-not-holds.false) (ap (λ (s : NodeSets). s.held) w.roles-is);
    signed = ap (λ (s : NodeSets). s.signed) w.roles-is ∙ c.loop-role.invariant.signed;
  }
]
