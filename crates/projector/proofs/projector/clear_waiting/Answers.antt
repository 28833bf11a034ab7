use Rattle.std.proofs.Common.{◌≡◌, List, [], sym, ◌∙◌, ap}
use Rattle.buf_tree.specs.declared.ahead.Ahead.{Ahead}
use Rattle.projector.proofs.Entered.{none_waits, told_stands}
use Rattle.projector.proofs.projector.clear_waiting.Goals as goal

pub returns-else-not-is_empty-clause-cleared : goal.returns-else-not-is_empty-clause-cleared
returns-else-not-is_empty-clause-cleared g c =
    let none : c.args.buffer.now.waiting ≡ [] = sym c.waiting.ensures ∙ none_waits c.waiting.result.now (sym c.is_empty.ensures ∙ c.if-not-is_empty.false) in
    ap (λ (ws : List Ahead). record c.args.buffer.now { waiting = ws }) none

pub returns-else-not-is_empty-clause-stands : goal.returns-else-not-is_empty-clause-stands
returns-else-not-is_empty-clause-stands g c past h =
    told_stands c.args.buffer.now past (sym c.waiting.ensures ∙ none_waits c.waiting.result.now (sym c.is_empty.ensures ∙ c.if-not-is_empty.false)) h
