use Rattle.std.proofs.Common.{◌≡◌, [], sym, ap, ◌∙◌, subst}
use Rattle.std.specs.List.{AllByRecursion}
use Rattle.raw_nodes.specs.Spots.{IsApart, IsInSomeBlock, places}
use Rattle.raw_nodes.specs.Nodes.{Numbered}
use Rattle.raw_nodes.specs.Heaps.{addresses, AreBlocks, block_places}
use Rattle.raw_nodes.specs.declared.node.Node.{Node}
use Rattle.raw_nodes.proofs.Blocks.{none_apart}
use Rattle.raw_nodes.proofs.heap.Heap.new.Goals as goal

pub returns-clause-heap : goal.returns-clause-heap
returns-clause-heap g c =
    let none : c.new.result.cells ≡ [] = c.new.ensures in
    record {
      apart = subst IsApart (sym none) (none_apart (Node g.row.T.Denot));
      placed = subst (λ cells. AllByRecursion IsInSomeBlock (places cells)) (sym none) tt;
      table = ap places none ∙ sym (ap addresses c.new-3.ensures.items);
      blocks = subst AreBlocks (sym c.new-2.ensures.items) tt;
      laid = ap places none ∙ sym (ap block_places c.new-2.ensures.items);
      numbered = subst (Numbered 0) (sym none) tt;
    }
