use Rattle.std.proofs.Common.{◌≡◌, ◌∷◌, [], length, ap, arith, sym, ◌∙◌}
use Rattle.std.specs.Vec.Iter.{into_iter_items}
use Rattle.std.proofs.lemmas.List.{nil_from_length}
use Rattle.gcx_model.specs.ItemView.{body_tree, item_tree}
use Rattle.gcx_model.specs.Normal.{join}
use Rattle.xq_normal.specs.Raw.{moved, moved_item}
use Rattle.xq_normal.proofs.Behind.{body_in, join-nil, join_more, weights}
use Rattle.xq_normal.proofs.moves.+moves.Goals as goal

pub moved-loop-item-preserved : goal.moved-loop-item-preserved
moved-loop-item-preserved t c =
    let at = c.loop-item in
    let steps : into_iter_items at.item-iterator ≡ c.in-Some.item ∷ into_iter_items c.next.new.self = c.in-Some.ensures.steps.0 in
    record {
      put = join_more (body_tree at.out) (moved_item (item_tree c.in-Some.item)) (body_tree c.put_moved_item.new.out) (moved (body_in (into_iter_items c.next.new.self))) c.in_ok-put_moved_item.ensures
          ∙ (ap (λ l. join (body_tree at.out) (moved (body_in l))) (sym steps) ∙ at.invariant.put);
      left = let was = at.invariant.left in
          let gone = c.in-Some.ensures.steps.1 in
          let short = ap length steps in
          omega arith;
      less = let was = at.invariant.less in
          let short = ap (λ l. weights (body_in l)) steps in
          omega arith;
    }

pub moved-returns : goal.moved-returns
moved-returns t c =
    let at = c.loop-item in
    let none = c.in-None.ensures.steps in
    let empty : into_iter_items at.item-iterator ≡ [] = nil_from_length _ (sym at.invariant.left ∙ none.0) in
    sym (join-nil (body_tree at.out))
    ∙ (ap (λ l. join (body_tree at.out) (moved (body_in l))) (sym empty)
    ∙ (at.invariant.put ∙ ap (λ l. moved (body_in l)) c.into_iter-item-iterator.ensures.into_iter_gives.0))
