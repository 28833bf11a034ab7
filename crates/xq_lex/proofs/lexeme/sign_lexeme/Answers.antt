use Rattle.std.proofs.Common.{refl, sym, ◌∙◌}
use Rattle.xq_lex.proofs.LexemeLaws.{sign_is, sign_is_not}
use Rattle.xq_lex.proofs.lexeme.sign_lexeme.Goals as goal

pub returns-in-Some-clause-ok : goal.returns-in-Some-clause-ok
returns-in-Some-clause-ok c = rw c.sign_len.ensures (sign_is c.args.text.now c.in-Some.sign (sym c.sign_at.ensures ∙ c.in-Some.is))

pub returns-in-None-clause-err : goal.returns-in-None-clause-err
returns-in-None-clause-err c = (refl, sign_is_not c.args.text.now c.requires (sym c.sign_at.ensures ∙ c.in-None.is))
