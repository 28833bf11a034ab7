use Rattle.std.proofs.Common.{◌≡◌, true, false, Option, Some, None, refl, sym, ◌∙◌}
use Rattle.std.specs.Prelude.{is_some, slice_index_or}
use Rattle.std.proofs.lemmas.Bool.{false≢true, true≢false}
use Rattle.gcx_model.specs.declared.item.Off.{Off}
use Rattle.buf_tree.specs.Spread.{SpreadView, is_spread_in}
use Rattle.buf_tree.specs.Withdraw.{top_for}
use Rattle.buf_tree.proofs.statements.is_alone_own.Goals as goal

none_of : {X : Type 0} (o : Option X) → is_some o ≡ false → o ≡ None
none_of None e = refl
none_of (Some x) e = absurd (true≢false e)

no_top : (s : Option SpreadView) (off : Off) → is_spread_in s off.role.0 ≡ false → top_for s off ≡ None
no_top None off e = refl
no_top (Some s) off e = none_of (slice_index_or s.tops off.role.0 None) e

pub returns-then-not-is_own-clause-own : goal.returns-then-not-is_own-clause-own
returns-then-not-is_own-clause-own c = λ e. absurd (false≢true e)

pub returns-then-not-is_own-clause-top : goal.returns-then-not-is_own-clause-top
returns-then-not-is_own-clause-top c = λ e. absurd (false≢true e)

pub returns-then-is_spread-clause-own : goal.returns-then-is_spread-clause-own
returns-then-is_spread-clause-own c = λ e. absurd (false≢true e)

pub returns-then-is_spread-clause-top : goal.returns-then-is_spread-clause-top
returns-then-is_spread-clause-top c = λ e. absurd (false≢true e)

pub returns-clause-own : goal.returns-clause-own
returns-clause-own c = λ e. sym c.is_own.ensures ∙ c.if-not-is_own.false

pub returns-clause-top : goal.returns-clause-top
returns-clause-top c = λ e. no_top c.args.spread.now c.args.off.now (sym c.is_spread.ensures ∙ c.if-is_spread.false)
