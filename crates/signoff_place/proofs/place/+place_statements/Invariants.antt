use Rattle.std.proofs.Common.{◌≡◌, map, take}
use Rattle.gcx_model.specs.ItemView.{item_tree, item_trees}
use Rattle.gcx_model.specs.Placed.{place_item}
use Rattle.signoff_place.specs.Ends.{ends_of}
use Rattle.signoff_place.proofs.place.+place_statements.Given as goal

abbrev pub invariant-placed_body-loop-item : goal.invariant-placed_body-loop-item
invariant-placed_body-loop-item l = item_trees l.placed ≡ map (place_item (ends_of l.ends)) (map item_tree (take l.item-index l.item-items))
