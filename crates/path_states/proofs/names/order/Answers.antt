use Rattle.std.proofs.Common.{sym}
use Rattle.path_states.proofs.Naming.{order_turned, order_same}
use Rattle.path_states.proofs.names.order.Goals as goal

pub returns-then-starts_before : goal.returns-then-starts_before
returns-then-starts_before c = sym (c.starts_before.ensures c.if-starts_before.true)

pub returns-then-starts_before-2 : goal.returns-then-starts_before-2
returns-then-starts_before-2 c = sym (order_turned c.args.other.now c.args.one.now (c.starts_before-else-starts_before.ensures c.if-starts_before-2.true))

pub returns-then-same_bytes : goal.returns-then-same_bytes
returns-then-same_bytes c = sym (order_same c.args.one.now c.args.other.now (c.same_bytes.ensures.same.0 c.if-same_bytes.true))
