use Rattle.std.proofs.Common.{◌≡◌, take}
use Rattle.std.specs.Prelude.{map}
use Rattle.gcx_model.specs.ItemView.{item_tree, item_trees}
use Rattle.gcx_model.proofs.item.+copy_items.Given as goal

abbrev pub invariant-Body::copy-loop-item : goal.invariant-Body::copy-loop-item
invariant-Body::copy-loop-item l = item_trees l.copied ≡ map item_tree (take l.item-index l.item-items)
