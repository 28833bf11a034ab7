use Rattle.std.proofs.Common.{sym}
use Rattle.std.proofs.lemmas.Bool.{eq-eqb, ne_eqb}
use Rattle.buf_tree.proofs.Reading.{any_at, any_next, any_end}
use Rattle.buf_tree.proofs.buffer.holds.Goals as goal

pub returns-then-other-role : goal.returns-then-other-role
returns-then-other-role c = sym (any_at c.args.roles.now c.loop-other.other-index c.args.role.0 (record { 0 = 0 }) c.loop-other-test.true (eq-eqb _ _ c.if-other-role.true))

pub loop-other-preserved : goal.loop-other-preserved
loop-other-preserved c = any_next c.args.roles.now c.loop-other.other-index c.args.role.0 (record { 0 = 0 }) c.loop-other-test.true c.loop-other.invariant (ne_eqb _ _ c.if-other-role.false)

pub returns : goal.returns
returns c = sym (any_end c.args.roles.now c.loop-other.other-index c.args.role.0 c.loop-other-test.false c.loop-other.invariant)
