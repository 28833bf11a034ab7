use Rattle.std.proofs.Common.{◌≡◌, take, option_map}
use Rattle.std.specs.Prelude.{map}
use Rattle.gcx_model.specs.ItemView.{item_tree, body_of, off_tree}
use Rattle.gcx_model.specs.Placed.{offs_in}
use Rattle.spread_laws.specs.Tops.{put_tops}
use Rattle.buf_tree.proofs.spread.+read_statements.Given as goal

abbrev pub invariant-put_body-loop-item : goal.invariant-put_body-loop-item
invariant-put_body-loop-item l =
    map (option_map off_tree) l.tops.items ≡ put_tops (offs_in (body_of (map item_tree (take l.item-index l.item-items)))) (map (option_map off_tree) l.fn.tops.items)
