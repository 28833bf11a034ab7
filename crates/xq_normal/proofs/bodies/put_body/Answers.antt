use Rattle.std.proofs.Common.{◌≡◌, ◌∷◌, [], length, ap, arith, sym, ◌∙◌}
use Rattle.std.specs.Vec.Iter.{into_iter_items}
use Rattle.std.proofs.lemmas.List.{nil_from_length}
use Rattle.gcx_model.specs.ItemView.{body_tree, item_tree}
use Rattle.gcx_model.specs.Normal.{join, one}
use Rattle.xq_normal.proofs.Behind.{body_in, join-nil, join_more}
use Rattle.xq_normal.proofs.bodies.put_body.Goals as goal

pub loop-item-preserved : goal.loop-item-preserved
loop-item-preserved c =
    let at = c.loop-item in
    let steps : into_iter_items at.item-iterator ≡ c.in-Some.item ∷ into_iter_items c.next.new.self = c.in-Some.ensures.steps.0 in
    record {
      put = join_more (body_tree at.out) (one (item_tree c.in-Some.item)) (body_tree c.put_item.new.out) (body_in (into_iter_items c.next.new.self)) c.in_ok-put_item.ensures
          ∙ (ap (λ l. join (body_tree at.out) (body_in l)) (sym steps) ∙ at.invariant.put);
      left = let was = at.invariant.left in
          let gone = c.in-Some.ensures.steps.1 in
          let short = ap length steps in
          omega arith;
    }

pub returns : goal.returns
returns c =
    let at = c.loop-item in
    let none = c.in-None.ensures.steps in
    let empty : into_iter_items at.item-iterator ≡ [] = nil_from_length _ (sym at.invariant.left ∙ none.0) in
    sym (join-nil (body_tree at.out))
    ∙ (ap (λ l. join (body_tree at.out) (body_in l)) (sym empty)
    ∙ (at.invariant.put ∙ ap (λ l. join (body_tree c.args.out.now) (body_in l)) c.into_iter-item-iterator.ensures.into_iter_gives.0))
