use Rattle.std.proofs.Common.{ℕ, List, rules, arith, ◌≡◌, ◌≤◌, length, ap, ◌∙◌}
use Rattle.std.specs.Str.{chars, encode_utf8_all}
use Rattle.std.proofs.lemmas.Result.{IfOk-weaker, IfErr-weaker}
use Rattle.std.proofs.lemmas.Str.{encodes-chars}
use Rattle.gcx_model.specs.declared.fault.QueryFault.TheVariants.{Utf8}
use Rattle.xq_lex.specs.Lex.{AreInOrder, HasOnlyFault, HasOnlyTokens, LexesAs, LexFault}
use Rattle.gcx_model.specs.Refusals.{UnlessMemory}
use Rattle.xq_lex.specs.Steps.{IsStopped}
use Rattle.xq_lex.proofs.SpanLaws.{tokens_in_order, only_tokens, only_fault, only_stopped, lexes_bytes}
use Rattle.xq_lex.proofs.lexer.lex.Goals as goal

pub tokens_of-requires : goal.tokens_of-requires
tokens_of-requires c =
    let same : length (encode_utf8_all c.deref.result.now) ≡ length c.args.text.now =
    ap (λ (x : List ℕ). length (encode_utf8_all x)) (c.deref.ensures.value ∙ c.in_ok-chars_of-in-Ok.ensures ∙ ap chars c.in-Ok.ensures.cases.0)
    ∙ ap length (encodes-chars c.args.text.now c.in-Ok.ensures.cases.1) in
    omega (arith, same, c.if-text-gt-MOST.false)

pub returns-in_ok-chars_of-in-Ok-clause-in_order : goal.returns-in_ok-chars_of-in-Ok-clause-in_order
returns-in_ok-chars_of-in-Ok-clause-in_order c =
    let same : c.deref.result.now ≡ chars c.args.text.now = c.deref.ensures.value ∙ c.in_ok-chars_of-in-Ok.ensures ∙ ap chars c.in-Ok.ensures.cases.0 in
    let short : length c.args.text.now ≤ 1048576 = omega (arith, c.if-text-gt-MOST.false) in
    IfOk-weaker c.tokens_of.result (LexesAs c.deref.result.now) (AreInOrder c.args.text.now 0)
    (λ ts l. tokens_in_order c.args.text.now ts (lexes_bytes c.args.text.now c.deref.result.now ts short c.in-Ok.ensures.cases.1 same l)) c.tokens_of.ensures.ok

pub returns-in_ok-chars_of-in-Ok-clause-only_tokens : goal.returns-in_ok-chars_of-in-Ok-clause-only_tokens
returns-in_ok-chars_of-in-Ok-clause-only_tokens c =
    let same : c.deref.result.now ≡ chars c.args.text.now = c.deref.ensures.value ∙ c.in_ok-chars_of-in-Ok.ensures ∙ ap chars c.in-Ok.ensures.cases.0 in
    let short : length c.args.text.now ≤ 1048576 = omega (arith, c.if-text-gt-MOST.false) in
    IfOk-weaker c.tokens_of.result (LexesAs c.deref.result.now) (HasOnlyTokens c.args.text.now)
    (λ ts l. only_tokens c.args.text.now ts (lexes_bytes c.args.text.now c.deref.result.now ts short c.in-Ok.ensures.cases.1 same l)) c.tokens_of.ensures.ok

pub returns-in_ok-chars_of-in-Ok-clause-only_fault : goal.returns-in_ok-chars_of-in-Ok-clause-only_fault
returns-in_ok-chars_of-in-Ok-clause-only_fault c =
    let same : c.deref.result.now ≡ chars c.args.text.now = c.deref.ensures.value ∙ c.in_ok-chars_of-in-Ok.ensures ∙ ap chars c.in-Ok.ensures.cases.0 in
    let short : length c.args.text.now ≤ 1048576 = omega (arith, c.if-text-gt-MOST.false) in
    IfErr-weaker c.tokens_of.result (IsStopped c.deref.result.now) (UnlessMemory (HasOnlyFault c.args.text.now))
    (λ f s. only_stopped c.args.text.now c.deref.result.now f short c.in-Ok.ensures.cases.1 same s) c.tokens_of.ensures.err

pub returns-in-Err-clause-only_fault : goal.returns-in-Err-clause-only_fault
returns-in-Err-clause-only_fault c =
    let fault : LexFault c.args.text.now (Utf8 c.valid_up_to.result) = search rules in
    only_fault c.args.text.now (Utf8 c.valid_up_to.result) fault
