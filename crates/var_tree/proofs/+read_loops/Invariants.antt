use Rattle.std.proofs.Common.{◌≡◌, map, take}
use Rattle.gcx_model.specs.ItemView.{body_of, item_tree}
use Rattle.var_tree.specs.Facts.{facts_of, with_loops}
use Rattle.var_tree.specs.Loops.{loops}
use Rattle.var_tree.proofs.+read_loops.Given as goal

abbrev pub invariant-read_body-loop-item : goal.invariant-read_body-loop-item
invariant-read_body-loop-item l = map facts_of l.known.items ≡ with_loops (map facts_of l.fn.known.items) (loops (body_of (map item_tree (take l.item-index l.item-items))) l.outer.0)
