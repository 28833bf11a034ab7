-- How the weight of a position changes with its blocks.
use Rattle.std.proofs.Common.{◌≡◌, ◌+◌, List, [], ◌∷◌, ◌++◌, length, ap, arith}
use Rattle.gcx_model.specs.Core.{ItemTree, Then}
use Rattle.buf_tree.specs.Shape.{Cell}
use Rattle.pull_eval.specs.Position.{items}
use Rattle.pull_eval.specs.Weight.{weigh_item, weigh_body, weigh_round, weigh_block, weigh_blocks}
use Rattle.pull_eval.specs.declared.block.Block.{Block}

pub weigh_pushed : (rows : List Cell) (xs : List Block) (b : Block) → weigh_blocks rows (xs ++ b ∷ []) ≡ weigh_blocks rows xs + weigh_block rows b
weigh_pushed rows [] b = omega arith
weigh_pushed rows (x ∷ xs) b = let e = weigh_pushed rows xs b in omega arith

-- the block c is b behind the item
pub weigh_on : (rows : List Cell) (b c : Block) (i : ItemTree) → items b.rest.now ≡ Then i (items c.rest.now) → c.round ≡ b.round → weigh_block rows b ≡ weigh_block rows c + weigh_item (length rows) i
weigh_on rows b c i e same =
    let f : weigh_body (length rows) (items b.rest.now) ≡ weigh_item (length rows) i + weigh_body (length rows) (items c.rest.now) = ap (weigh_body (length rows)) e in
    let g : weigh_round rows c.round ≡ weigh_round rows b.round = ap (weigh_round rows) same in
    omega arith
