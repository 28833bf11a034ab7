use Rattle.std.proofs.Common.{◌≡◌, sym, ◌∙◌}
use Rattle.std.proofs.lemmas.Bool.{eqb-true}
use Rattle.std.proofs.lemmas.Slice.Eq.{slice_eq-Decides}
use Rattle.cond_eval.proofs.SameSteps.{step_decides}
use Rattle.join_index.proofs.Paths.{path_steps, path_there}
use Rattle.join_index.proofs.equality.Side.is_path.Goals as goal

pub returns-then-eq : goal.returns-then-eq
returns-then-eq c =
    let d = slice_eq-Decides step_decides c.items.result.now c.items-then-eq.result.now c.eq-then-eq.result c.eq-then-eq.ensures in
    let var : c.args.self.now.var.0 ≡ c.in-Path.var.0 = eqb-true c.args.self.now.var.0 c.in-Path.var.0 (sym c.if-eq.ensures) in (
      (λ e. path_there c.args.self.now c.args.operand.now c.in-Path.var c.in-Path.steps c.in-Path.is var (sym c.items.ensures ∙ (d.0 e ∙ c.items-then-eq.ensures))),
      (λ e. d.1 (c.items.ensures ∙ (path_steps c.args.self.now c.args.operand.now c.in-Path.var c.in-Path.steps c.in-Path.is e ∙ sym c.items-then-eq.ensures))),
    )
