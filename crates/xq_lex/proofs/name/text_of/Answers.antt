use Rattle.std.proofs.Common.{rules, ap, sym, ◌∙◌, ◌++◌}
use Rattle.std.specs.Char.{encode_utf8}
use Rattle.xq_lex.proofs.Encoding.{encode_step}
use Rattle.xq_lex.proofs.name.text_of.Goals as goal

pub loop-c-preserved : goal.loop-c-preserved
loop-c-preserved c =
    c.in_ok-push.ensures.bytes
    ∙ (ap (λ x. x ++ encode_utf8 c.c-item.result) c.loop-c.invariant
    ∙ sym (encode_step c.args.chars.now c.loop-c.c-index c.c-item.result (search rules) c.c-item.is))
