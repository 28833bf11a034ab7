use Rattle.std.proofs.Common.{◌≡◌, ap, ◌∙◌}
use Rattle.std.proofs.lemmas.Result.{on_ok_weaker}
use Rattle.gcx_model.specs.CondView.{core_cond_tree}
use Rattle.gcx_model.specs.ItemView.{body_tree}
use Rattle.gcx_model.specs.Normal.{join}
use Rattle.xq_normal.proofs.Behind.{branch_put}
use Rattle.xq_normal.proofs.moves.put_branch.Goals as goal

pub returns-in_ok-other : goal.returns-in_ok-other
returns-in_ok-other c =
    on_ok_weaker c.put_body-then-any_loop.result
    (λ (put : body_tree c.put_body-then-any_loop.new.out ≡ join (body_tree c.put_body.new.out) (body_tree c.in_ok-other.other)).
    branch_put (core_cond_tree c.args.cond) (body_tree c.args.out.now) (body_tree c.put_body.new.out) (body_tree c.put_body-then-any_loop.new.out) (body_tree c.args.then) (body_tree c.args.other)
    c.any_loop.result c.any_loop.ensures c.if-any_loop.true
    (c.in_ok-put_body.ensures ∙ ap (λ d. join (body_tree c.args.out.now) d) c.in_ok-then.ensures)
    (put ∙ ap (λ d. join (body_tree c.put_body.new.out) d) c.in_ok-other.ensures))
    c.put_body-then-any_loop.ensures
