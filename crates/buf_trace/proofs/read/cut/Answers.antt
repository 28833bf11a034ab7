use Rattle.buf_trace.proofs.Words.{parted, unparted}
use Rattle.std.proofs.Common.{◌∙◌, sym}
use Rattle.buf_trace.proofs.read.cut.Goals as goal

pub returns-in-Some-clause-whole : goal.returns-in-Some-clause-whole
returns-in-Some-clause-whole c = (parted c.args.text.now c.in-Some.at (sym c.first_space.ensures ∙ c.in-Some.is)).whole

pub returns-in-Some-clause-word : goal.returns-in-Some-clause-word
returns-in-Some-clause-word c = (parted c.args.text.now c.in-Some.at (sym c.first_space.ensures ∙ c.in-Some.is)).word

pub returns-in-None-clause-word : goal.returns-in-None-clause-word
returns-in-None-clause-word c = unparted c.args.text.now (sym c.first_space.ensures ∙ c.in-None.is)
