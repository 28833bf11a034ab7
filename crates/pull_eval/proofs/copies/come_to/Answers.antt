use Rattle.std.proofs.Common.{cond, Bool, Some, None, sym, ◌∙◌, ap}
use Rattle.pull_eval.specs.declared.block.Copying.{Copying}
use Rattle.pull_eval.proofs.copies.come_to.Goals as goal

pub returns-then-is_text : goal.returns-then-is_text
returns-then-is_text g c = λ d i e. ap (λ (b : Bool). cond {A = Copying} b (record c.args.copying { present = Some c.args.child }) (record c.args.copying { node = c.args.child; present = None })) (sym c.if-is_text.true ∙ c.is_text.ensures d i e)

pub returns : goal.returns
returns g c = λ d i e. ap (λ (b : Bool). cond {A = Copying} b (record c.args.copying { present = Some c.args.child }) (record c.args.copying { node = c.args.child; present = None })) (sym c.if-is_text.false ∙ c.is_text.ensures d i e)
