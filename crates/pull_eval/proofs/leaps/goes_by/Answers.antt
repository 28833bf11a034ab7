use Rattle.std.proofs.Common.{sym, ◌∙◌}
use Rattle.std.proofs.lemmas.Bool.{false≢true}
use Rattle.std.proofs.lemmas.Slice.Eq.{slice_eq-Decides}
use Rattle.cond_eval.proofs.SameSteps.{step_decides}
use Rattle.pull_eval.proofs.leaps.goes_by.Goals.{then-eq, else-eq}
use Rattle.pull_eval.proofs.leaps.goes_by.Goals as goal

pub returns-then-eq-2 : goal.returns-then-eq-2
returns-then-eq-2 c = (
  (λ e. elim c.if-eq.branch [
    | then-eq w ↦ record {
      step = (step_decides c.args.turns.now.step.now c.args.step.now).0 (sym c.eq.ensures ∙ w.if-eq.true);
      own = (slice_eq-Decides step_decides c.args.turns.now.own.now c.args.guard.now.own.now w.eq-then-eq.result w.eq-then-eq.ensures).0 (sym w.value-is ∙ c.if-eq-2.true);
      other = (slice_eq-Decides step_decides c.args.turns.now.other.now c.args.guard.now.other.now c.eq-then-eq-2.result c.eq-then-eq-2.ensures).0 e;
    }
    | else-eq w ↦ absurd (false≢true (sym w.if-eq.false ∙ (sym w.value-is ∙ c.if-eq-2.true)))
  ]),
  (λ g. (slice_eq-Decides step_decides c.args.turns.now.other.now c.args.guard.now.other.now c.eq-then-eq-2.result c.eq-then-eq-2.ensures).1 g.other),
)

pub returns-else-eq-2 : goal.returns-else-eq-2
returns-else-eq-2 c = (
  (λ e. absurd (false≢true (sym c.if-eq-2.false ∙ e))),
  (λ g. elim c.if-eq.branch [
    | then-eq w ↦ absurd (false≢true (sym c.if-eq-2.false ∙ (w.value-is ∙ (slice_eq-Decides step_decides c.args.turns.now.own.now c.args.guard.now.own.now w.eq-then-eq.result w.eq-then-eq.ensures).1 g.own)))
    | else-eq w ↦ absurd (false≢true (sym w.if-eq.false ∙ (c.eq.ensures ∙ (step_decides c.args.turns.now.step.now c.args.step.now).1 g.step)))
  ]),
)
