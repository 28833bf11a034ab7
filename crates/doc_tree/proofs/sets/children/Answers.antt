use Rattle.std.proofs.Common.{◌≡◌, get_or, refl, ◌∙◌, ap}
use Rattle.std.specs.Prelude.{flat_map}
use Rattle.std.proofs.lemmas.List.{take_all}
use Rattle.std.proofs.lemmas.List.Sorted.{IsPermutation-refl, IsNonDecreasingBy-from_sort}
use Rattle.gcx_model.specs.Paths.{reach}
use Rattle.doc_tree.specs.Sets.{members, to_children}
use Rattle.doc_tree.proofs.Counting.{in_order, are_in_order, more_children}
use Rattle.doc_tree.proofs.sets.children.Goals as goal
use Rattle.doc_tree.proofs.sets.children.Goals.{then-not-is_sorted+in_ok-sort, else-not-is_sorted}

pub loop-node-preserved : goal.loop-node-preserved
loop-node-preserved c = more_children (λ n. members (reach n (to_children c.args.test.now)) c.args.rows.now) c.args.set.now c.loop-node.found.items c.put_children.new.found.items c.loop-node.node-index (get_or c.args.set.now c.loop-node.node-index 0) c.loop-node-test.true refl c.loop-node.invariant c.in_ok-put_children.ensures

pub returns : goal.returns
returns c f e =
    let all : c.loop-node.found.items ≡ flat_map (λ n. members (reach n (to_children c.args.test.now)) c.args.rows.now) c.args.set.now = c.loop-node.invariant ∙ ap (flat_map (λ n. members (reach n (to_children c.args.test.now)) c.args.rows.now)) (take_all c.loop-node.node-index c.args.set.now c.loop-node-test.false) in
    elim c.if-not-is_sorted.branch [
      | then-not-is_sorted+in_ok-sort w ↦
          ap (λ v. v.items) w.found-is
          ∙ in_order c.args.rows.now c.requires.nested c.args.test.now f c.args.set.now c.loop-node.found.items w.sort.new.self.items e all w.sort.ensures.permutation (IsNonDecreasingBy-from_sort (λ x. x) w.sort.new.self.items w.in_ok-sort.ensures.sorted)
      | else-not-is_sorted w ↦
          ap (λ v. v.items) w.found-is
          ∙ in_order c.args.rows.now c.requires.nested c.args.test.now f c.args.set.now c.loop-node.found.items c.loop-node.found.items e all (IsPermutation-refl c.loop-node.found.items)
          (are_in_order c.deref.result.now c.loop-node.found.items c.is_sorted.result c.is_sorted.ensures.cases w.if-not-is_sorted.false c.deref.ensures.value)
    ]
