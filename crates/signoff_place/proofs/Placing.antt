-- Placed bodies as lists of items.
use Rattle.std.proofs.Common.{ℕ, ◌≡◌, ◌+◌, ◌<◌, ◌≤◌, List, [], ◌∷◌, ◌++◌, map, length, take, get_or, refl, sym, ap, ◌∙◌, append_assoc}
use Rattle.std.proofs.lemmas.List.{map-append, map_more, take_all}
use Rattle.gcx_model.specs.declared.item.Item.{Item}
use Rattle.gcx_model.specs.declared.item.Off.{Off}
use Rattle.gcx_model.specs.Core.{OffTree, ItemTree, BodyTree, Nil, Then}
use Rattle.gcx_model.specs.Core as tree
use Rattle.gcx_model.specs.ItemView.{body_of, item_tree, off_tree}
use Rattle.gcx_model.specs.Placed.{offs_body, add_offs, place_item, place}

abbrev pub off_item : OffTree → ItemTree
off_item o = tree.SignOff o

offs_items : (os : List OffTree) → body_of (map off_item os) ≡ offs_body os
offs_items [] = refl
offs_items (o ∷ os) = ap (Then (tree.SignOff o)) (offs_items os)

pub added_items : (is : List ItemTree) (os : List OffTree) → body_of (is ++ map off_item os) ≡ add_offs (body_of is) os
added_items [] os = offs_items os
added_items (i ∷ is) os = ap (Then i) (added_items is os)

pub placed_items : (ends : ℕ → List OffTree) (is : List ItemTree) → body_of (map (place_item ends) is) ≡ place ends (body_of is)
placed_items ends [] = refl
placed_items ends (i ∷ is) = ap (Then (place_item ends i)) (placed_items ends is)

-- one item more
pub placed_more : (ends : ℕ → List OffTree) (now new : List ItemTree) (xs : List Item) (i : ℕ) (x : Item) (placed : ItemTree) → i < length xs → x ≡ get_or xs i x → now ≡ map (place_item ends) (map item_tree (take i xs)) →
    placed ≡ place_item ends (item_tree x) → new ≡ now ++ placed ∷ [] → new ≡ map (place_item ends) (map item_tree (take (i + 1) xs))
placed_more ends now new xs i x placed h e so_far is put =
    put ∙ ((λ k. so_far k ++ is k ∷ [])
    ∙ (sym (map-append (place_item ends) (map item_tree (take i xs)) (item_tree x ∷ []))
    ∙ ap (map (place_item ends)) (sym (map_more item_tree xs i x h ∙ ap (λ (y : Item). map item_tree (take i xs) ++ item_tree y ∷ []) (sym e)))))

-- one statement more
pub offs_more : (old now new : List ItemTree) (xs : List Off) (i : ℕ) (x : Off) (placed : ItemTree) → i < length xs → x ≡ get_or xs i x → now ≡ old ++ map off_item (map off_tree (take i xs)) →
    placed ≡ off_item (off_tree x) → new ≡ now ++ placed ∷ [] → new ≡ old ++ map off_item (map off_tree (take (i + 1) xs))
offs_more old now new xs i x placed h e so_far is put =
    put ∙ ((λ k. so_far k ++ is k ∷ [])
    ∙ (append_assoc old (map off_item (map off_tree (take i xs))) (off_item (off_tree x) ∷ [])
    ∙ ap (λ (is : List ItemTree). old ++ is)
    (sym (map-append off_item (map off_tree (take i xs)) (off_tree x ∷ []))
    ∙ ap (map off_item) (sym (map_more off_tree xs i x h ∙ ap (λ (y : Off). map off_tree (take i xs) ++ off_tree y ∷ []) (sym e))))))

pub offs_added : (old new : List ItemTree) (xs : List Off) (i : ℕ) → length xs ≤ i → new ≡ old ++ map off_item (map off_tree (take i xs)) → body_of new ≡ add_offs (body_of old) (map off_tree xs)
offs_added old new xs i h e = ap body_of (e ∙ ap (λ (os : List Off). old ++ map off_item (map off_tree os)) (take_all i xs h)) ∙ added_items old (map off_tree xs)

pub placed_all : (ends : ℕ → List OffTree) (now : List ItemTree) (xs : List Item) (ts : List ItemTree) (i : ℕ) → length xs ≤ i → now ≡ map (place_item ends) (map item_tree (take i xs)) → map item_tree xs ≡ ts → body_of now ≡ place ends (body_of ts)
placed_all ends now xs ts i h e trees =
    ap body_of (e ∙ ap (λ (ys : List Item). map (place_item ends) (map item_tree ys)) (take_all i xs h))
    ∙ (placed_items ends (map item_tree xs) ∙ ap (λ (is : List ItemTree). place ends (body_of is)) trees)
