use Rattle.std.proofs.Common.{arith}
use Rattle.cond_eval.proofs.Finding.{finds}
use Rattle.cond_eval.proofs.watermark.Watermark.new_match.Goals as goal

pub newest-requires : goal.newest-requires
newest-requires g c = let b = c.requires.below c.requires.used.cell c.requires.used.among in omega arith

pub returns-then-self-newest : goal.returns-then-self-newest
returns-then-self-newest g c = λ q i e. finds c.args.buffer.now.rows q c.args.step.now c.args.self.0 c.next_match.result (c.next_match.ensures.found q i e) c.next_match.ensures.serial
