use Rattle.std.proofs.Common.{arith, sym, subst}
use Rattle.buf_tree.specs.View.{View}
use Rattle.buffer_tests.specs.Passed.{HasTop}
use Rattle.buffer_tests.proofs.buffers.passed.pass.Goals as goal

pub pass-requires : goal.pass-requires
pass-requires g c = omega (arith, c.nodes-serial.ensures, c.if-serial-gt-MANY.false)

pub returns-in_ok-push : goal.returns-in_ok-push
returns-in_ok-push g c = λ p last h. subst (λ (v : View). HasTop v p last) (sym c.pass.ensures.more) (record { rows = h.rows; plain = h.plain })

pub returns-else-not-is_text : goal.returns-else-not-is_text
returns-else-not-is_text g c = λ p last h. subst (λ (v : View). HasTop v p last) (sym c.pass.ensures.more) (record { rows = h.rows; plain = h.plain })
