use Rattle.std.proofs.Common.{cond, Bool, Some, None, sym, ◌∙◌, ap}
use Rattle.pull_eval.proofs.copies.begun.Goals as goal

pub returns-then-is_text : goal.returns-then-is_text
returns-then-is_text g c = λ d i e. ap (λ (b : Bool). cond b None (Some (record { top = c.args.place; node = c.args.place; present = None }))) (sym c.if-is_text.true ∙ c.is_text.ensures d i e)

pub returns : goal.returns
returns g c = λ d i e. ap (λ (b : Bool). cond b None (Some (record { top = c.args.place; node = c.args.place; present = None }))) (sym c.if-is_text.false ∙ c.is_text.ensures d i e)
