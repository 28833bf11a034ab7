use Rattle.std.proofs.Common.{◌≡◌, length, arith, ◌∙◌}
use Rattle.std.proofs.lemmas.Grind.{common_steps}
use Rattle.xq_lex.specs.Names.{parts_at}
use Rattle.xq_lex.proofs.NameLaws.{counted_parts}
use Rattle.xq_lex.proofs.name.parts_at.Goals as goal

pub returns : goal.returns
returns c =
    let e : c.loop-first.len ≡ length (parts_at c.args.text.now) = grind (arith, common_steps) in
    c.split_at.ensures.front ∙ counted_parts c.args.text.now c.loop-first.len e
