use Rattle.std.proofs.Common.{◌++◌, take, length, map, ap, ◌∙◌, sym, append-nil}
use Rattle.std.proofs.lemmas.List.{take_all}
use Rattle.std.proofs.lemmas.Result.{err_from_is_err_and}
use Rattle.doc_tokens.specs.Given.{given_token}
use Rattle.doc_tokens.specs.Parts.{lent_token}
use Rattle.doc_reader.proofs.Owning.{part_at, owned_more, front_kept}
use Rattle.doc_reader.proofs.reader.put_some.Goals as goal

pub loop-token-init : goal.loop-token-init
loop-token-init c = sym (append-nil c.args.waits.now.items)

pub put_one-requires : goal.put_one-requires
put_one-requires c = part_at (length c.args.bytes.now) c.args.bytes.now c.args.lent.now c.loop-token.token-index _ c.requires c.loop-token-test.true

pub loop-token-preserved : goal.loop-token-preserved
loop-token-preserved c = owned_more c.args.bytes.now c.args.lent.now c.loop-token.token-index _ c.args.waits.now.items c.loop-token.waits.items c.put_one.new.waits.items c.loop-token-test.true c.loop-token.invariant c.in_ok-put_one.ensures.ok

pub returns-in_err-put_one-clause-err : goal.returns-in_err-put_one-clause-err
returns-in_err-put_one-clause-err c =
    let p = err_from_is_err_and c.from_residual.result c.from_residual.ensures.1 in
    let done = map given_token (map (lent_token c.args.bytes.now) (take c.loop-token.token-index c.args.lent.now)) in
    rw p.1 (front_kept c.args.waits.now.items c.put_one.new.waits.items done (c.in_err-put_one.ensures.err ∙ c.loop-token.invariant))

pub returns-clause-ok : goal.returns-clause-ok
returns-clause-ok c = c.loop-token.invariant ∙ ap (λ ts. c.args.waits.now.items ++ map given_token (map (lent_token c.args.bytes.now) ts)) (take_all c.loop-token.token-index c.args.lent.now c.loop-token-test.false)
