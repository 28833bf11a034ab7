use Rattle.std.proofs.Common.{◌≡◌, ◌++◌, List, length, map, ap, ◌∙◌, subst, arith, OnOk}
use Rattle.std.proofs.lemmas.List.{drop_all}
use Rattle.gcx_model.specs.Tree.{TreeToken as Said}
use Rattle.doc_tokens.specs.Given.{given_token}
use Rattle.doc_reader.specs.Standing.{with_tokens}
use Rattle.doc_reader.proofs.Owning.{as_many}
use Rattle.doc_reader.proofs.reader.own_all.Goals as goal

pub put_all-put-requires : goal.put_all-put-requires
put_all-put-requires c = c.lent_tags.ensures.parts

pub take_tags-requires : goal.take_tags-requires
take_tags-requires c =
    let long : length c.args.lent.now.state.tokens ≡ length c.lent_tags.result.0.now = as_many c.lent_tags.result.0.now c.lent_tags.result.1.now c.args.lent.now.state.tokens c.lent_tags.ensures in
    omega arith

pub returns-clause-ok : goal.returns-clause-ok
returns-clause-ok c =
    subst (λ (ts : List Said). OnOk c.put_all-put.result (c.put_all-put.new.waits.items ≡ c.args.waits.now.items ++ map given_token ts)) c.lent_tags.ensures.tokens_are c.put_all-put.ensures.ok

pub returns-clause-lent : goal.returns-clause-lent
returns-clause-lent c =
    let tokens = c.args.lent.now.state.tokens in
    let long : length tokens ≡ length c.lent_tags.result.0.now = as_many c.lent_tags.result.0.now c.lent_tags.result.1.now c.args.lent.now.state.tokens c.lent_tags.ensures in
    c.take_tags.ensures ∙ ap (with_tokens c.args.lent.now) (drop_all (length c.lent_tags.result.0.now) tokens (omega arith))
