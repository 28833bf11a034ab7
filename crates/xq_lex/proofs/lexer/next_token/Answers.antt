use Rattle.std.proofs.Common.{ℕ, List, arith, ◌≡◌, ◌+◌, length, take, drop, ap, ◌∙◌, subst}
use Rattle.std.specs.Str.{encode_utf8_all}
use Rattle.std.proofs.lemmas.Result.{err_from_is_err_and}
use Rattle.xq_lex.specs.Answer.{IsLexeme, IsRefusal}
use Rattle.xq_lex.proofs.Encoding.{parts_size}
use Rattle.xq_lex.proofs.LexLaws.{next_is, stop_is}
use Rattle.xq_lex.proofs.lexer.next_token.Goals as goal

pub size_of-requires : goal.size_of-requires
size_of-requires c =
    omega (arith, c.requires, parts_size c.args.text.now c.split_at.result.0.now c.split_at.result.1.now c.gap_len.result c.split_at.ensures.front c.split_at.ensures.back)

pub overflow_add-from : goal.overflow_add-from
overflow_add-from c =
    omega (arith, c.requires, c.size_of.ensures, parts_size c.args.text.now c.split_at.result.0.now c.split_at.result.1.now c.gap_len.result c.split_at.ensures.front c.split_at.ensures.back)

pub returns-in_err-lexeme-clause-err : goal.returns-in_err-lexeme-clause-err
returns-in_err-lexeme-clause-err c =
    let p = err_from_is_err_and c.from_residual.result c.from_residual.ensures.1 in
    let size : c.size_of.result ≡ length (encode_utf8_all (take c.gap_len.result c.args.text.now)) = c.size_of.ensures ∙ ap (λ (x : List ℕ). length (encode_utf8_all x)) c.split_at.ensures.front in
    rw (p.1, p.2) (stop_is c.args.place c.args.text.now c.gap_len.result (c.args.place + c.size_of.result) c.in_err-lexeme.field-0.0 c.gap_len.ensures.gap (ap (λ n. c.args.place + n) size)
    (subst (λ (x : List ℕ). IsRefusal (c.args.place + c.size_of.result) x c.in_err-lexeme.field-0.0) c.split_at.ensures.back c.in_err-lexeme.ensures.err))

pub size_of-requires-2 : goal.size_of-requires-2
size_of-requires-2 c =
    omega (
      arith,
      c.requires,
      parts_size c.args.text.now c.split_at.result.0.now c.split_at.result.1.now c.gap_len.result c.split_at.ensures.front c.split_at.ensures.back,
      parts_size c.split_at.result.1.now c.split_at-2.result.0.now c.split_at-2.result.1.now c.in_ok-lexeme.lexeme.count c.split_at-2.ensures.front c.split_at-2.ensures.back,
    )

pub overflow_add-to : goal.overflow_add-to
overflow_add-to c =
    omega (
      arith,
      c.requires,
      c.size_of.ensures,
      c.size_of-2.ensures,
      parts_size c.args.text.now c.split_at.result.0.now c.split_at.result.1.now c.gap_len.result c.split_at.ensures.front c.split_at.ensures.back,
      parts_size c.split_at.result.1.now c.split_at-2.result.0.now c.split_at-2.result.1.now c.in_ok-lexeme.lexeme.count c.split_at-2.ensures.front c.split_at-2.ensures.back,
    )

pub returns-clause-ok : goal.returns-clause-ok
returns-clause-ok c =
    let size : c.size_of.result ≡ length (encode_utf8_all (take c.gap_len.result c.args.text.now)) = c.size_of.ensures ∙ ap (λ (x : List ℕ). length (encode_utf8_all x)) c.split_at.ensures.front in
    let size' : c.size_of-2.result ≡ length (encode_utf8_all (take c.in_ok-lexeme.lexeme.count (drop c.gap_len.result c.args.text.now))) =
    c.size_of-2.ensures ∙ ap (λ (x : List ℕ). length (encode_utf8_all x)) (c.split_at-2.ensures.front ∙ ap (λ (x : List ℕ). take c.in_ok-lexeme.lexeme.count x) c.split_at.ensures.back) in
    rw c.split_at.ensures.front_len
    (next_is c.args.place c.args.text.now c.gap_len.result c.in_ok-lexeme.lexeme.count c.in_ok-lexeme.lexeme.kind (c.args.place + c.size_of.result) (c.args.place + c.size_of.result + c.size_of-2.result)
    c.gap_len.ensures.within c.gap_len.ensures.gap (ap (λ n. c.args.place + n) size) (ap (λ n. c.args.place + c.size_of.result + n) size')
    (subst (λ (x : List ℕ). IsLexeme x c.in_ok-lexeme.lexeme.kind c.in_ok-lexeme.lexeme.count) c.split_at.ensures.back c.in_ok-lexeme.ensures.ok))
