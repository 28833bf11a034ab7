use Rattle.std.proofs.Common.{sym}
use Rattle.xq_lex.proofs.LexemeLaws.{name_lexeme, named}
use Rattle.xq_lex.proofs.lexeme.named_at.Goals as goal

pub name_of-requires : goal.name_of-requires
name_of-requires c = named c.args.text.now c.name_at-chars.result.now c.requires (sym c.name_at-chars.ensures)

pub returns-clause-ok : goal.returns-clause-ok
returns-clause-ok c = name_lexeme c.args.text.now c.name_at-chars.result.now c.in_ok-name.name c.requires (sym c.name_at-chars.ensures) c.in_ok-name.ensures
