-- A number by which items and bodies shrink.
use Rattle.std.proofs.Common.{◌≡◌, ℕ, zero, suc, ◌+◌, ◌<◌, List, [], ◌∷◌, length, map, get_or, sym, ◌∙◌, ap, arith}
use Rattle.std.proofs.lemmas.List.{get_or-map, length-map}
use Rattle.gcx_model.specs.Core.{ItemTree, BodyTree, Write, Copy, For, If, SignOff, Nil, Then}
use Rattle.gcx_model.specs.ItemView.{body_of, item_tree}
use Rattle.gcx_model.specs.declared.item.Item.{Item}

abbrev mutual
  pub weight : ItemTree → ℕ
  weight (Write b) = 0
  weight (Copy x) = 0
  weight (For x y s d) = suc (suc (weights d))
  weight (If c a b) = suc (weights a + weights b)
  weight (SignOff o) = 0

  pub weights : BodyTree → ℕ
  weights Nil = 0
  weights (Then i d) = suc (weight i + weights d)

part_weighs : (is : List ItemTree) (k : ℕ) (d : ItemTree) → k < length is → weight (get_or is k d) < weights (body_of is)
part_weighs [] k d h = absurd (omega arith)
part_weighs (i ∷ is) zero d h = omega arith
part_weighs (i ∷ is) (suc k) d h = let p = part_weighs is k d (omega (arith, h)) in omega (arith, p)

-- an item of a body weighs less
pub item_weighs : (xs : List Item) (k : ℕ) (x : Item) → k < length xs → x ≡ get_or xs k x → weight (item_tree x) < weights (body_of (map item_tree xs))
item_weighs xs k x h e =
    let p = part_weighs (map item_tree xs) k (item_tree x) (omega (arith, h, length-map xs item_tree)) in
    let q = ap weight (get_or-map item_tree xs k x (item_tree x) h ∙ ap item_tree (sym e)) in
    omega (arith, p, q)
