use Rattle.std.proofs.Common.{sym, ◌∙◌, ap}
use Rattle.std.specs.Prelude.{Option}
use Rattle.std.proofs.lemmas.Result.{on_ok_weaker}
use Rattle.buf_tree.specs.Spread.{SpreadView, is_spread_in}
use Rattle.buf_tree.specs.View.{View}
use Rattle.buffer_tests.proofs.Offs.{has_own}
use Rattle.buffer_tests.proofs.buffers.taken.take.Goals as goal

pub take_role-requires-clause-role : goal.take_role-requires-clause-role
take_role-requires-clause-role g c =
    let u = c.in_ok-place.ensures in
    has_own _ _ c.in-Some.off.now (c.takes_own.ensures c.if-not-takes_own.false) u (sym (c.is_due.ensures u.cell u.among u.place) ∙ c.if-not-is_due.false)

pub take_role-requires-clause-spread : goal.take_role-requires-clause-spread
take_role-requires-clause-spread g c = c.requires _ c.in-Some.ensures

pub returns : goal.returns
returns g c =
    on_ok_weaker c.put_changes.result
    (λ same off i. ap (λ (v : View). is_spread_in v.spread off.own.0) same ∙ (ap (λ (s : Option SpreadView). is_spread_in s off.own.0) c.take_role.ensures.untaken.spread ∙ c.requires off i))
    c.put_changes.ensures
