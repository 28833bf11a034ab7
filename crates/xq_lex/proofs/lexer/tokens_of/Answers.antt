use Rattle.std.proofs.Common.{ℕ, List, subst}
use Rattle.xq_lex.specs.Steps.{IsNext}
use Rattle.xq_lex.proofs.LexLaws.{reads_next}
use Rattle.xq_lex.proofs.lexer.tokens_of.Goals as goal

pub loop-tokens-preserved : goal.loop-tokens-preserved
loop-tokens-preserved c =
    let next = rw c.in-Some.is at c.in_ok-step.ensures.ok in
    rw c.in_ok-push.ensures.ok
    (reads_next c.args.text.now c.loop-tokens.tokens c.loop-tokens.count c.loop-tokens.place c.in-Some.step c.loop-tokens.invariant
    (subst (λ (x : List ℕ). IsNext c.loop-tokens.place x c.in-Some.step) c.split_at.ensures.back next))
