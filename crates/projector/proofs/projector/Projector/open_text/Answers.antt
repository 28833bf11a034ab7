use Rattle.std.proofs.Common.{ℕ, List, subst, sym}
use Rattle.std.specs.Prelude.{IfOk}
use Rattle.gcx_base.specs.declared.kind.Kind.TheVariants.{Text}
use Rattle.projector.specs.Late.{passed_in}
use Rattle.projector.specs.LateRows.{MayOpenLate, OpensLate}
use Rattle.projector.proofs.LateRows.{err_holds, makes_none}
use Rattle.projector.proofs.projector.Projector.open_text.Goals as goal

pub returns-in_err-text-clause-err : goal.returns-in_err-text-clause-err
returns-in_err-text-clause-err g c = err_holds c.from_residual.result (makes_none (passed_in c.args.bytes.now c.args.self.now.passed) c.args.buffer.now)

pub open_below_rows-requires-clause-may : goal.open_below_rows-requires-clause-may
open_below_rows-requires-clause-may g c = subst (λ (part : List ℕ). MayOpenLate c.args.bytes.now c.args.self.now c.args.buffer.now (Text part)) (sym c.in_ok-text.ensures) c.requires.may

pub returns-clause-opens : goal.returns-clause-opens
returns-clause-opens g c =
    subst (λ (part : List ℕ). IfOk c.open_below_rows.result (OpensLate c.args.bytes.now c.args.self.now c.open_below_rows.new.self c.args.buffer.now c.open_below_rows.new.buffer (Text part))) c.in_ok-text.ensures c.open_below_rows.ensures.opens
