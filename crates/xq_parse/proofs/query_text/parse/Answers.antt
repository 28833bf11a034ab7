use Rattle.std.proofs.Common.{List, subst, length}
use Rattle.std.proofs.lemmas.Result.{err_from_is_err_and}
use Rattle.xq_lex.specs.declared.token.Tok.{Tok}
use Rattle.xq_parse.specs.Answering.{Answers, judged}
use Rattle.xq_parse.proofs.Answered as answered
use Rattle.xq_parse.proofs.query_text.parse.Goals as goal

pub returns-in_err-tokens-clause-fault : goal.returns-in_err-tokens-clause-fault
returns-in_err-tokens-clause-fault c =
    let p = err_from_is_err_and c.from_residual.result c.from_residual.ensures.1 in
    rw (p.1, p.2) (answered.fault_of c.args.text.now c.in_err-tokens.field-0.0 (answered.of_lex_fault c.args.text.now c.in_err-tokens.field-0.0 c.in_err-tokens.ensures.err c.in_err-tokens.ensures.only_fault))

pub returns-in_err-tokens-clause-only_refusal : goal.returns-in_err-tokens-clause-only_refusal
returns-in_err-tokens-clause-only_refusal c =
    let p = err_from_is_err_and c.from_residual.result c.from_residual.ensures.1 in
    rw (p.1, p.2) (answered.only_refusal_of c.args.text.now c.in_err-tokens.field-0.0 (answered.of_lex_fault c.args.text.now c.in_err-tokens.field-0.0 c.in_err-tokens.ensures.err c.in_err-tokens.ensures.only_fault))

pub returns-clause-spells : goal.returns-clause-spells
returns-clause-spells c =
    let a = answered.of_answer c.args.text.now c.in_ok-tokens.tokens c.query_of.result c.in_ok-tokens.ensures.ok c.in_ok-tokens.ensures.only_tokens (subst (λ (ts : List Tok). Answers c.query_of.result (judged ts (length c.args.text.now))) c.items.ensures c.query_of.ensures) in
    answered.spells c.args.text.now c.query_of.result a.0

pub returns-clause-sound : goal.returns-clause-sound
returns-clause-sound c =
    let a = answered.of_answer c.args.text.now c.in_ok-tokens.tokens c.query_of.result c.in_ok-tokens.ensures.ok c.in_ok-tokens.ensures.only_tokens (subst (λ (ts : List Tok). Answers c.query_of.result (judged ts (length c.args.text.now))) c.items.ensures c.query_of.ensures) in
    answered.sound c.args.text.now c.query_of.result a.0

pub returns-clause-only_query : goal.returns-clause-only_query
returns-clause-only_query c =
    let a = answered.of_answer c.args.text.now c.in_ok-tokens.tokens c.query_of.result c.in_ok-tokens.ensures.ok c.in_ok-tokens.ensures.only_tokens (subst (λ (ts : List Tok). Answers c.query_of.result (judged ts (length c.args.text.now))) c.items.ensures c.query_of.ensures) in
    answered.only_query c.args.text.now c.query_of.result a.0

pub returns-clause-fault : goal.returns-clause-fault
returns-clause-fault c =
    let a = answered.of_answer c.args.text.now c.in_ok-tokens.tokens c.query_of.result c.in_ok-tokens.ensures.ok c.in_ok-tokens.ensures.only_tokens (subst (λ (ts : List Tok). Answers c.query_of.result (judged ts (length c.args.text.now))) c.items.ensures c.query_of.ensures) in
    answered.fault c.args.text.now c.query_of.result a.1

pub returns-clause-only_refusal : goal.returns-clause-only_refusal
returns-clause-only_refusal c =
    let a = answered.of_answer c.args.text.now c.in_ok-tokens.tokens c.query_of.result c.in_ok-tokens.ensures.ok c.in_ok-tokens.ensures.only_tokens (subst (λ (ts : List Tok). Answers c.query_of.result (judged ts (length c.args.text.now))) c.items.ensures c.query_of.ensures) in
    answered.only_refusal c.args.text.now c.query_of.result a.1
