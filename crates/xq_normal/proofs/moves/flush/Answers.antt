use Rattle.std.proofs.Common.{rules, ◌≡◌, ◌==◌, vec_len, length, ap, sym, ◌∙◌}
use Rattle.std.proofs.lemmas.Result.{on_ok_weaker}
use Rattle.gcx_model.specs.CondView.{core_cond_tree}
use Rattle.gcx_model.specs.ItemView.{body_tree, item_tree}
use Rattle.gcx_model.specs.Normal.{join, one, half}
use Rattle.xq_normal.proofs.Behind.{join-nil, none_flushed, some_flushed}
use Rattle.xq_normal.proofs.moves.flush.Goals as goal

pub returns-then-is_empty-clause-put : goal.returns-then-is_empty-clause-put
returns-then-is_empty-clause-put c =
    let n : vec_len c.args.run.now.members ≡ length c.args.run.now.members.items = search rules in
    sym (join-nil (body_tree c.args.out.now))
    ∙ ap (λ d. join (body_tree c.args.out.now) d) (sym (none_flushed (core_cond_tree c.args.cond.now) c.args.first c.args.run.now.members.items c.is_empty.result (c.is_empty.ensures ∙ ap (λ k. k == 0) n) c.if-is_empty.true))

pub returns-clause-put : goal.returns-clause-put
returns-clause-put c =
    let n : vec_len c.args.run.now.members ≡ length c.args.run.now.members.items = search rules in
    on_ok_weaker c.put_item.result
    (λ (put : body_tree c.put_item.new.out ≡ join (body_tree c.args.out.now) (one (item_tree c.in_ok-half.field-0))).
    put ∙ ap (λ d. join (body_tree c.args.out.now) d) (ap one (c.in_ok-half.ensures ∙ ap (λ b. half (core_cond_tree c.args.cond.now) c.args.first (body_tree b)) c.replace-whole.ensures.value)
    ∙ sym (some_flushed (core_cond_tree c.args.cond.now) c.args.first c.args.run.now.members.items c.is_empty.result (c.is_empty.ensures ∙ ap (λ k. k == 0) n) c.if-is_empty.false)))
    c.put_item.ensures
