use Rattle.std.proofs.Common.{◌≡◌, ◌++◌, map, take}
use Rattle.gcx_model.specs.ItemView.{item_trees, off_tree}
use Rattle.signoff_place.proofs.Placing.{off_item}
use Rattle.signoff_place.proofs.place.put_ends.Given as goal

abbrev pub invariant-loop-off : goal.invariant-loop-off
invariant-loop-off l = item_trees l.out ≡ item_trees l.fn.out ++ map off_item (map off_tree (take l.off-index l.offs))
