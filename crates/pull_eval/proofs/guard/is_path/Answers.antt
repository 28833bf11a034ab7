use Rattle.std.proofs.Common.{◌≡◌, sym, ◌∙◌}
use Rattle.std.proofs.lemmas.Bool.{eqb-true}
use Rattle.std.proofs.lemmas.Slice.Eq.{slice_eq-Decides}
use Rattle.pull_eval.proofs.Guarding.{path_is}
use Rattle.cond_eval.proofs.SameSteps.{step_decides}
use Rattle.pull_eval.proofs.guard.is_path.Goals as goal

pub returns-then-eq : goal.returns-then-eq
returns-then-eq c =
    let d = slice_eq-Decides step_decides c.items.result.now c.args.steps.now c.eq-then-eq.result c.eq-then-eq.ensures in
    let var : c.in-Path.from.0 ≡ c.args.var.0 = eqb-true c.in-Path.from.0 c.args.var.0 (sym c.if-eq.ensures) in
    λ e. path_is c.args.operand.now c.in-Path.from c.args.var c.in-Path.others c.args.steps.now c.in-Path.is var (sym c.items.ensures ∙ d.0 e)
