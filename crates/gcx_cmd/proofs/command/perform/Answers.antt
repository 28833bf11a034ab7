use Rattle.gcx_words.specs.Words.{command_of}
use Rattle.gcx_cmd.proofs.Obeyed.{found_does, lacks_words, nothing_done}
use Rattle.gcx_cmd.proofs.command.perform.Goals as goal

pub returns-in-Ok-Some-clause-does : goal.returns-in-Ok-Some-clause-does
returns-in-Ok-Some-clause-does g c =
    found_does c.in-Ok-Some.field-0 (command_of c.args.words.now) c.in-Ok-Some.command _ _ _ c.in-Ok-Some.ensures.command c.in-Ok-Some.field-0-is c.obey.ensures.does

pub returns-in-Ok-None-clause-does : goal.returns-in-Ok-None-clause-does
returns-in-Ok-None-clause-does g c = nothing_done c.in-Ok-None.field-0 (command_of c.args.words.now) _ c.in-Ok-None.ensures.command c.in-Ok-None.field-0-is

pub returns-in-Err-clause-does : goal.returns-in-Err-clause-does
returns-in-Err-clause-does g c = lacks_words (command_of c.args.words.now) _
