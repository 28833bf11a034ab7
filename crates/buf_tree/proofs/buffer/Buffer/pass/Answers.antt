use Rattle.std.proofs.Common.{sym, ap, subst, arith}
use Rattle.buf_tree.specs.Loose.{one_passed, ElementPassed, TextPassed}
use Rattle.buf_tree.specs.View.{View}
use Rattle.buf_tree.proofs.LateRows.{kept_below}
use Rattle.buf_tree.proofs.PassedOpening.{passes_element, passes_text}
use Rattle.buf_tree.proofs.buffer.Buffer.pass.Goals as goal

pub invariant_of-self : goal.invariant_of-self
invariant_of-self g c = (kept_below _ _ _ _ _ _ (λ d i. let l = c.self.invariant.0.below d i in omega arith) c.self.invariant.0, c.self.invariant.1)

pub returns-clause-more : goal.returns-clause-more
returns-clause-more g c = ap one_passed c.self.view_is

pub returns-clause-element : goal.returns-clause-element
returns-clause-element g c = subst (λ (w : View). ElementPassed c.args.self.now w) (sym (returns-clause-more g c)) (passes_element c.args.self.now)

pub returns-clause-text : goal.returns-clause-text
returns-clause-text g c = subst (λ (w : View). TextPassed c.args.self.now w) (sym (returns-clause-more g c)) (passes_text c.args.self.now)
