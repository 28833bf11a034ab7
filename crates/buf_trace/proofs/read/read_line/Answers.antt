use Rattle.std.proofs.Common.{◌≡◌, ◌∷◌, ◌-◌, get_or, take, drop, length, arith}
use Rattle.std.proofs.lemmas.Grind.{common_steps}
use Rattle.buf_trace.proofs.Lines.{only_read}
use Rattle.buf_trace.proofs.read.read_line.Goals as goal

pub returns-in-32-clause-only : goal.returns-in-32-clause-only
returns-in-32-clause-only c =
    let text = c.args.text.now in
    let parts : get_or text 0 0 ∷ (32 ∷ take (length text - 2) (drop 2 text)) ≡ text = grind (arith, common_steps) in
    only_read (get_or text 0 0 ∷ (32 ∷ take (length text - 2) (drop 2 text))) text c.read_signed.result c.read_signed.ensures parts
