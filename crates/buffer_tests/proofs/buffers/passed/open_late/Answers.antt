use Rattle.std.proofs.Common.{arith, inl, ◌∙◌}
use Rattle.buffer_tests.proofs.Passed.{level_at, top_late}
use Rattle.buffer_tests.proofs.buffers.passed.open_late.Goals as goal

pub open_passed-requires-clause-parent : goal.open_passed-requires-clause-parent
open_passed-requires-clause-parent g c = c.requires.rows.inner

pub open_passed-requires-clause-behind : goal.open_passed-requires-clause-behind
open_passed-requires-clause-behind g c d i = let b = c.may_follow.ensures c.if-not-may_follow.false in let l = c.requires.rows.low d i in omega (arith, b.0, l)

pub open_passed-requires-clause-passed : goal.open_passed-requires-clause-passed
open_passed-requires-clause-passed g c = let b = c.may_follow.ensures c.if-not-may_follow.false in omega (arith, b.1, c.nodes.ensures)

pub open_passed-requires-clause-depth : goal.open_passed-requires-clause-depth
open_passed-requires-clause-depth g c = let b = c.may_follow.ensures c.if-not-may_follow.false in let l = level_at _ _ _ c.requires.rows in omega (arith, b.0, b.2, l)

pub open_passed-requires-clause-spread : goal.open_passed-requires-clause-spread
open_passed-requires-clause-spread g c = inl c.requires.plain

pub returns : goal.returns
returns g c =
    let b = c.may_follow.ensures c.if-not-may_follow.false in
    record { rows = top_late _ _ _ _ _ _ c.requires.rows c.in_ok-place.ensures.opened b.0; plain = c.in_ok-place.ensures.opened.spread ∙ c.requires.plain }
