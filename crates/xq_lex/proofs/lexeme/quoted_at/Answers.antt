use Rattle.std.proofs.Common.{refl}
use Rattle.std.specs.Prelude.{string_bytes}
use Rattle.xq_lex.proofs.LexemeLaws.{string_is, string_is_not}
use Rattle.xq_lex.proofs.lexeme.quoted_at.Goals as goal

pub returns-in-Some-clause-ok : goal.returns-in-Some-clause-ok
returns-in-Some-clause-ok c =
    let value = rw c.in-Some.is at c.in_ok-quoted.ensures in
    rw c.from_string.ensures (string_is c.args.quote c.args.behind.now (string_bytes c.in-Some.quoted.value) c.in-Some.quoted.count c.requires value)

pub returns-in-None-clause-err : goal.returns-in-None-clause-err
returns-in-None-clause-err c = let none = rw c.in-None.is at c.in_ok-quoted.ensures in (refl, string_is_not c.args.quote c.args.behind.now c.requires none)
