use Rattle.std.proofs.Common.{arith}
use Rattle.role_set.proofs.Meeting.{words_meet}
use Rattle.role_set.proofs.word.meet.Goals as goal

pub returns : goal.returns
returns c = words_meet c.args.word c.args.other (omega (arith, c.ranges.word.fits))
