use Rattle.std.proofs.Common.{◌≡◌, ◌++◌, map, take, string_bytes}
use Rattle.gcx_model.specs.ItemView.{body_of, item_tree}
use Rattle.signoff_place.specs.Explained.{body_text}
use Rattle.signoff_place.proofs.text.+explain_items.Given as goal

abbrev pub invariant-put_body-loop-item : goal.invariant-put_body-loop-item
invariant-put_body-loop-item l = string_bytes l.out ≡ string_bytes l.fn.out ++ body_text (body_of (map item_tree (take l.item-index l.item-items))) l.depth
