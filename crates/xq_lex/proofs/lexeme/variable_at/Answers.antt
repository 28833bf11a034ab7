use Rattle.std.proofs.Common.{refl, sym, length, eqb-true}
use Rattle.xq_lex.proofs.LexemeLaws.{nonzero, variable_lexeme, variable_named, no_variable_here}
use Rattle.xq_lex.proofs.lexeme.variable_at.Goals as goal

pub returns-then-is_empty-clause-err : goal.returns-then-is_empty-clause-err
returns-then-is_empty-clause-err c =
    (refl, no_variable_here c.args.behind.now c.name_at-chars.result.now (sym c.name_at-chars.ensures) (eqb-true (length c.name_at-chars.result.now) 0 (sym c.if-is_empty.ensures)))

pub name_of-requires : goal.name_of-requires
name_of-requires c =
    variable_named c.args.behind.now c.name_at-chars.result.now (sym c.name_at-chars.ensures) (nonzero (length c.name_at-chars.result.now) (sym c.if-is_empty.ensures))

pub returns-clause-ok : goal.returns-clause-ok
returns-clause-ok c =
    variable_lexeme c.args.behind.now c.name_at-chars.result.now c.in_ok-name.name (sym c.name_at-chars.ensures) (nonzero (length c.name_at-chars.result.now) (sym c.if-is_empty.ensures)) c.in_ok-name.ensures
