-- The statements of one turn, role by role.
use Rattle.std.proofs.Common.{ℕ, suc, ◌≡◌, ◌+◌, ◌<◌, ◌==◌, Bool, ◌&&◌, List, [], ◌∷◌, ◌++◌, map, length, take, get_or, sym, ap, ◌∙◌, arith, append_assoc}
use Rattle.std.proofs.lemmas.List.{map_more, length-map, length-take}
use Rattle.std.proofs.lemmas.List.Elements.{filter-append}
use Rattle.gcx_model.specs.declared.plan.RoleRow.{RoleRow}
use Rattle.gcx_model.specs.Core.{OffTree, RoleRowTree}
use Rattle.gcx_model.specs.PlanView.{role_row_tree}
use Rattle.signoff_place.specs.Spread.{Tables, is_turn, ends_at, stated, all_stated}

-- ---- One statement

-- ---- One role more

all_end : (t : Tables) (k : ℕ) (rs : List RoleRowTree) (r : RoleRowTree) → all_stated t k (rs ++ r ∷ []) ≡ all_stated t k rs ++ stated t (k + length rs) r ∷ []
all_end t k [] r = ap (λ (n : ℕ). stated t n r ∷ []) (omega arith)
all_end t k (q ∷ rs) r = ap (λ (os : List OffTree). stated t k q ∷ os) (all_end t (suc k) rs r ∙ ap (λ (n : ℕ). all_stated t (suc k) rs ++ stated t n r ∷ []) (omega arith))

pub turn_more : (t : Tables) (own : Bool) (x : ℕ) (start old new : List OffTree) (xs : List RoleRow) (i role : ℕ) (r : RoleRow) → i < length xs → r ≡ get_or xs i r → role ≡ i →
    old ≡ start ++ ends_at own (all_stated t 0 (map role_row_tree (take i xs))) x → new ≡ old ++ ends_at own (stated t role (role_row_tree r) ∷ []) x →
    new ≡ start ++ ends_at own (all_stated t 0 (map role_row_tree (take (i + 1) xs))) x
turn_more t own x start old new xs i role r h e k so_far n =
    n ∙ (ap (λ (os : List OffTree). os ++ ends_at own (stated t role (role_row_tree r) ∷ []) x) so_far
    ∙ (append_assoc start (ends_at own (all_stated t 0 (map role_row_tree (take i xs))) x) (ends_at own (stated t role (role_row_tree r) ∷ []) x)
    ∙ ap (λ (os : List OffTree). start ++ os)
    (sym (filter-append (λ (o : OffTree). (o.base == x) && is_turn own o) (all_stated t 0 (map role_row_tree (take i xs))) (stated t role (role_row_tree r) ∷ []))
    ∙ ap (λ (os : List OffTree). ends_at own os x)
    (ap (λ (m : ℕ). all_stated t 0 (map role_row_tree (take i xs)) ++ stated t m (role_row_tree r) ∷ []) number
    ∙ (sym (all_end t 0 (map role_row_tree (take i xs)) (role_row_tree r))
    ∙ ap (all_stated t 0) (sym (map_more role_row_tree xs i r h ∙ ap (λ (y : RoleRow). map role_row_tree (take i xs) ++ role_row_tree y ∷ []) (sym e))))))))
  where
    number : role ≡ 0 + length (map role_row_tree (take i xs))
    number = k ∙ omega (arith, length-map (take i xs) role_row_tree, length-take i xs)
