use Rattle.std.proofs.Common.{sym, ◌∙◌}
use Rattle.buf_tree.proofs.RoleAbove.{has_kept, has_unspread, has_above}
use Rattle.buf_tree.proofs.recount.has_role.Goals as goal

pub returns-then-has : goal.returns-then-has
returns-then-has g c d i e = sym (has_kept _ c.requires.shape c.args.spread.now _ _ d i e _ c.payload.ensures (sym c.has.ensures ∙ c.if-has.true))

pub returns-then-not-is_spread : goal.returns-then-not-is_spread
returns-then-not-is_spread g c d i e =
    sym (has_unspread _ c.requires.shape c.args.spread.now _ _ d i e _ c.payload.ensures (sym c.is_spread.ensures ∙ c.if-not-is_spread.true) ∙ (sym c.has.ensures ∙ c.if-has.false))

pub returns : goal.returns
returns g c d i e =
    c.is_some.ensures
    ∙ has_above _ c.requires.shape c.args.spread.now _ _ d i e _ c.payload.ensures c.requires.nested (sym c.is_spread.ensures ∙ c.if-not-is_spread.false) (sym c.has.ensures ∙ c.if-has.false) _ c.kept_above.ensures
