-- One condition or item more of those that are read from the left.
use Rattle.std.proofs.Common.{ℕ, ◌≡◌, ◌+◌, ◌<◌, List, [], ◌∷◌, ◌++◌, map, length, take, get_or, sym, ap, ◌∙◌, append_assoc, append-nil}
use Rattle.std.proofs.lemmas.List.{map_more}
use Rattle.gcx_model.specs.declared.cond.Cond.{Cond}
use Rattle.gcx_model.specs.declared.item.Item.{Item}
use Rattle.gcx_model.specs.Core.{CondTree, ItemTree, RoleRowTree}
use Rattle.gcx_model.specs.CondView.{core_cond_tree, core_conds_of}
use Rattle.gcx_model.specs.ItemView.{body_of, item_tree}
use Rattle.gcx_model.specs.Roles.{cond_rows, conds_rows, item_rows, rows}

conds_end : (cs : List CondTree) (c : CondTree) → conds_rows (core_conds_of (cs ++ c ∷ [])) ≡ conds_rows (core_conds_of cs) ++ cond_rows c
conds_end [] c = append-nil (cond_rows c)
conds_end (d ∷ cs) c = ap (λ (rs : List RoleRowTree). cond_rows d ++ rs) (conds_end cs c) ∙ sym (append_assoc (cond_rows d) (conds_rows (core_conds_of cs)) (cond_rows c))

items_end : (is : List ItemTree) (i : ItemTree) → rows (body_of (is ++ i ∷ [])) ≡ rows (body_of is) ++ item_rows i
items_end [] i = append-nil (item_rows i)
items_end (j ∷ is) i = ap (λ (rs : List RoleRowTree). item_rows j ++ rs) (items_end is i) ∙ sym (append_assoc (item_rows j) (rows (body_of is)) (item_rows i))

-- what a list of members has, one behind the other
more : {A B : Type 0} (view : A → B) (all : List B → List RoleRowTree) (one : B → List RoleRowTree) → ((bs : List B) (b : B) → all (bs ++ b ∷ []) ≡ all bs ++ one b) →
    (old now new : List RoleRowTree) (xs : List A) (i : ℕ) (x : A) → i < length xs → x ≡ get_or xs i x → now ≡ old ++ all (map view (take i xs)) → new ≡ now ++ one (view x) →
    new ≡ old ++ all (map view (take (i + 1) xs))
more {A} view all one last old now new xs i x h e so_far put =
    put ∙ (ap (λ (rs : List RoleRowTree). rs ++ one (view x)) so_far
    ∙ (append_assoc old (all (map view (take i xs))) (one (view x))
    ∙ ap (λ (rs : List RoleRowTree). old ++ rs) (sym (last (map view (take i xs)) (view x))
    ∙ ap all (sym (map_more view xs i x h ∙ ap (λ (y : A). map view (take i xs) ++ view y ∷ []) (sym e))))))

pub cond_more : (old now new : List RoleRowTree) (xs : List Cond) (i : ℕ) (x : Cond) → i < length xs → x ≡ get_or xs i x → now ≡ old ++ conds_rows (core_conds_of (map core_cond_tree (take i xs))) →
    new ≡ now ++ cond_rows (core_cond_tree x) → new ≡ old ++ conds_rows (core_conds_of (map core_cond_tree (take (i + 1) xs)))
cond_more old now new xs i x h e so_far put = more core_cond_tree (λ (cs : List CondTree). conds_rows (core_conds_of cs)) cond_rows conds_end old now new xs i x h e so_far put

pub item_more : (old now new : List RoleRowTree) (xs : List Item) (i : ℕ) (x : Item) → i < length xs → x ≡ get_or xs i x → now ≡ old ++ rows (body_of (map item_tree (take i xs))) →
    new ≡ now ++ item_rows (item_tree x) → new ≡ old ++ rows (body_of (map item_tree (take (i + 1) xs)))
item_more old now new xs i x h e so_far put = more item_tree (λ (is : List ItemTree). rows (body_of is)) item_rows items_end old now new xs i x h e so_far put

-- three parts, one behind the other
pub three : (old a b new x y z : List RoleRowTree) → a ≡ old ++ x → b ≡ a ++ y → new ≡ b ++ z → new ≡ old ++ (x ++ (y ++ z))
three old a b new x y z p q r = r ∙ ((λ i. (q i) ++ z) ∙ ((λ i. (p i ++ y) ++ z) ∙ (append_assoc (old ++ x) y z ∙ append_assoc old x (y ++ z))))
