use Rattle.std.proofs.Common.{◌≡◌, ◌≤◌, List, [], ◌∷◌, length, Err, arith}
use Rattle.std.proofs.lemmas.Grind.{common_steps}
use Rattle.gcx_model.specs.Query.{ExprTree}
use Rattle.xq_lex.specs.declared.token.Tok.{Tok}
use Rattle.xq_parse.specs.declared.marks.Marks.{Marks}
use Rattle.xq_parse.specs.declared.refusal.Why.TheVariants.{Syntax}
use Rattle.xq_parse.specs.Machine.{done}
use Rattle.xq_parse.specs.Reading.{run, a_stop}
use Rattle.xq_parse.proofs.cursor.Cursor.end.Goals as goal

refused : (m : Marks) (es : List ExprTree) (ts : List Tok) → 1 ≤ length ts → run 200 (done m es) ts ≡ Err (a_stop Syntax (length ts))
refused m es [] h = absurd (omega arith)
refused m es (t ∷ ts) h = grind (arith, common_steps)

pub returns-in_default : goal.returns-in_default
returns-in_default c m es = refused m es c.args.self.now.rest.now (omega arith)
