use Rattle.std.proofs.Common.{sym, ◌∙◌, ap, cond, ◌≡◌, true, false}
use Rattle.std.specs.FinSet.{contains}
use Rattle.node_store.specs.Rows.{changed_at, paid_by}
use Rattle.buf_tree.specs.Row.{Row}
use Rattle.buf_tree.specs.Rows.{untaken}
use Rattle.buf_tree.proofs.OtherBases.{paid_is, has_paid}
use Rattle.buf_tree.proofs.sweep.take_own.Goals as goal

pub untake-requires : goal.untake-requires
untake-requires g c = has_paid _ _ _ c.requires.there c.payload.ensures (sym c.has.ensures ∙ c.if-has.true)

pub returns-then-has-clause-taken : goal.returns-then-has-clause-taken
returns-then-has-clause-taken g c e f =
    let z : contains e.payload.roles c.args.off.now.role.0 ≡ true = ap (λ (y : Row). contains y.roles c.args.off.now.role.0) (paid_is _ e _ f c.payload.ensures) ∙ sym c.has.ensures ∙ c.if-has.true in
    sym (ap (λ b. cond b 1 0) z)

pub returns-then-has-clause-rows : goal.returns-then-has-clause-rows
returns-then-has-clause-rows g c e f =
    let z : contains e.payload.roles c.args.off.now.role.0 ≡ true = ap (λ (y : Row). contains y.roles c.args.off.now.role.0) (paid_is _ e _ f c.payload.ensures) ∙ sym c.has.ensures ∙ c.if-has.true in
    c.untake.ensures.rows ∙ sym (ap (λ b. cond b (changed_at (paid_by (untaken c.args.off.now.role.0)) c.args.place.0 (g.N.NodeStore.rows c.args.nodes.now)) (g.N.NodeStore.rows c.args.nodes.now)) z)

pub returns-clause-taken : goal.returns-clause-taken
returns-clause-taken g c e f =
    let z : contains e.payload.roles c.args.off.now.role.0 ≡ false = ap (λ (y : Row). contains y.roles c.args.off.now.role.0) (paid_is _ e _ f c.payload.ensures) ∙ sym c.has.ensures ∙ c.if-has.false in
    sym (ap (λ b. cond b 1 0) z)

pub returns-clause-rows : goal.returns-clause-rows
returns-clause-rows g c e f =
    let z : contains e.payload.roles c.args.off.now.role.0 ≡ false = ap (λ (y : Row). contains y.roles c.args.off.now.role.0) (paid_is _ e _ f c.payload.ensures) ∙ sym c.has.ensures ∙ c.if-has.false in
    sym (ap (λ b. cond b (changed_at (paid_by (untaken c.args.off.now.role.0)) c.args.place.0 (g.N.NodeStore.rows c.args.nodes.now)) (g.N.NodeStore.rows c.args.nodes.now)) z)
