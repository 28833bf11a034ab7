use Rattle.std.proofs.Common.{◌≡◌, ◌++◌, ◌∷◌, [], ap, ◌∙◌}
use Rattle.std.proofs.lemmas.Result.{on_ok_weaker}
use Rattle.gcx_model.specs.ItemView.{item_tree, item_trees, body_of}
use Rattle.xq_normal.proofs.Behind.{body_of-append}
use Rattle.xq_normal.proofs.bodies.put_item.Goals as goal

pub returns : goal.returns
returns c =
    on_ok_weaker c.push.result
    (λ (put : item_trees c.push.new.self ≡ item_trees c.args.out.now ++ item_tree c.args.item ∷ []). ap body_of put ∙ body_of-append (item_trees c.args.out.now) (item_tree c.args.item ∷ []))
    c.push.ensures.ok
