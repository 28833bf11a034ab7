-- The nodes of a projection tree, one behind the other.
use Rattle.std.proofs.Common.{ℕ, zero, suc, ◌≡◌, ◌+◌, ◌<◌, List, [], ◌∷◌, ◌++◌, map, length, take, get_or, refl, sym, ap, ◌∙◌, arith, append_assoc, append-nil}
use Rattle.std.proofs.lemmas.List.{map_more, length-map, length-take, length-append}
use Rattle.gcx_base.specs.declared.ids.Role.{Role}
use Rattle.gcx_model.specs.declared.plan.RoleRow.{RoleRow}
use Rattle.gcx_model.specs.declared.plan.VarRow.{VarRow}
use Rattle.gcx_model.specs.Core.{BodyTree, VarRowTree, RoleRowTree}
use Rattle.gcx_model.specs.Cores.{Good}
use Rattle.gcx_model.specs.PlanView.{role_row_tree, var_row_tree}
use Rattle.gcx_model.specs.Placed.{own_number}
use Rattle.gcx_model.specs.Roles.{roles_of}
use Rattle.gcx_model.specs.Variables.{var_rows, vars}
use Rattle.var_tree.specs.Loops.{loops}
use Rattle.var_tree.proofs.Growing.{number}
use Rattle.proj_tree.specs.Own.{own_list}
use Rattle.proj_tree.specs.Projection.{NodeTree, root_node, var_node, var_nodes, role_nodes, other_nodes, projected}
use Rattle.proj_tree.proofs.Falls.{row_of, rows_are}
use Rattle.proj_tree.proofs.Owned.{own_is, own_length}

-- ---- Variables

var_nodes_end : (own : ℕ → ℕ) (x : ℕ) (rs : List VarRowTree) (r : VarRowTree) → var_nodes own x (rs ++ r ∷ []) ≡ var_nodes own x rs ++ var_node (own (x + length rs)) r ∷ []
var_nodes_end own x [] r = ap (λ (n : ℕ). var_node (own n) r ∷ []) (omega arith)
var_nodes_end own x (q ∷ rs) r = ap (λ (ns : List NodeTree). var_node (own x) q ∷ ns) (var_nodes_end own (suc x) rs r ∙ ap (λ (n : ℕ). var_nodes own (suc x) rs ++ var_node (own n) r ∷ []) (omega arith))

pub vars_more : (own : ℕ → ℕ) (a : NodeTree) (old now new : List NodeTree) (xs : List VarRow) (i role : ℕ) (x : VarRow) → i < length xs → x ≡ get_or xs i x → role ≡ own (i + 1) →
    now ≡ old ++ (a ∷ var_nodes own 1 (map var_row_tree (take i xs))) → new ≡ now ++ var_node role (var_row_tree x) ∷ [] → new ≡ old ++ (a ∷ var_nodes own 1 (map var_row_tree (take (i + 1) xs)))
vars_more own a old now new xs i role x h e r so_far put =
    put ∙ ((λ k. so_far k ++ var_node (here k) (var_row_tree x) ∷ [])
    ∙ (append_assoc old (a ∷ var_nodes own 1 (map var_row_tree (take i xs))) (var_node (own (1 + length (map var_row_tree (take i xs)))) (var_row_tree x) ∷ [])
    ∙ ap (λ (ns : List NodeTree). old ++ (a ∷ ns)) (sym (var_nodes_end own 1 (map var_row_tree (take i xs)) (var_row_tree x))
    ∙ ap (var_nodes own 1) (sym (map_more var_row_tree xs i x h ∙ ap (λ (y : VarRow). map var_row_tree (take i xs) ++ var_row_tree y ∷ []) (sym e))))))
  where
    here : role ≡ own (1 + length (map var_row_tree (take i xs)))
    here = r ∙ ap own (omega (arith, length-map (take i xs) var_row_tree, length-take i xs))

pub role_at : (os : List Role) (i : ℕ) (d : Role) → i < length os → (get_or os i d).0 ≡ get_or (map (λ (r : Role). r.0) os) i 0
role_at [] i d h = absurd (omega arith)
role_at (o ∷ os) zero d h = refl
role_at (o ∷ os) (suc i) d h = role_at os i d (omega arith)

same_nodes : (f g : ℕ → ℕ) (x : ℕ) (rs : List VarRowTree) → ((y : ℕ) → y < x + length rs → f y ≡ g y) → var_nodes f x rs ≡ var_nodes g x rs
same_nodes f g x [] h = refl
same_nodes f g x (r ∷ rs) h = (λ i. var_node (h x (omega arith) i) r ∷ same_nodes f g (suc x) rs (λ y l. h y (omega arith)) i)

-- ---- Steps

-- ---- Roles

other_nodes_end : (next k : ℕ) (rs : List RoleRowTree) (r : RoleRowTree) → other_nodes next k (rs ++ r ∷ []) ≡ other_nodes next k rs ++ role_nodes (next + length (other_nodes next k rs)) (k + length rs) r
other_nodes_end next k [] r = append-nil (role_nodes next k r) ∙ (λ i. role_nodes (one i) (two i) r)
  where
    one : next ≡ next + 0
    one = omega arith

    two : k ≡ k + 0
    two = omega arith
other_nodes_end next k (q ∷ rs) r =
    ap (λ (ns : List NodeTree). role_nodes next k q ++ ns) (other_nodes_end (next + length (role_nodes next k q)) (suc k) rs r
    ∙ (λ i. other_nodes (next + length (role_nodes next k q)) (suc k) rs ++ role_nodes (one i) (two i) r))
    ∙ sym (append_assoc (role_nodes next k q) (other_nodes (next + length (role_nodes next k q)) (suc k) rs) (role_nodes (next + length (other_nodes next k (q ∷ rs))) (k + length (q ∷ rs)) r))
  where
    one : next + length (role_nodes next k q) + length (other_nodes (next + length (role_nodes next k q)) (suc k) rs) ≡ next + length (other_nodes next k (q ∷ rs))
    one = omega (arith, length-append (role_nodes next k q) (other_nodes (next + length (role_nodes next k q)) (suc k) rs))

    two : suc k + length rs ≡ k + length (q ∷ rs)
    two = omega arith

pub roles_more : (old now new : List NodeTree) (first count : ℕ) (xs : List RoleRow) (i role : ℕ) (x : RoleRow) → i < length xs → x ≡ get_or xs i x → role ≡ i → first ≡ length old → count ≡ length now →
    now ≡ old ++ other_nodes first 0 (map role_row_tree (take i xs)) → new ≡ now ++ role_nodes count role (role_row_tree x) → new ≡ old ++ other_nodes first 0 (map role_row_tree (take (i + 1) xs))
roles_more old now new first count xs i role x h e r f n so_far put =
    put ∙ ((λ k. so_far k ++ role_nodes (place k) (here k) (role_row_tree x))
    ∙ (append_assoc old (other_nodes first 0 (map role_row_tree (take i xs))) (role_nodes (first + length (other_nodes first 0 (map role_row_tree (take i xs)))) (0 + length (map role_row_tree (take i xs))) (role_row_tree x))
    ∙ ap (λ (ns : List NodeTree). old ++ ns) (sym (other_nodes_end first 0 (map role_row_tree (take i xs)) (role_row_tree x))
    ∙ ap (other_nodes first 0) (sym (map_more role_row_tree xs i x h ∙ ap (λ (y : RoleRow). map role_row_tree (take i xs) ++ role_row_tree y ∷ []) (sym e))))))
  where
    here : role ≡ 0 + length (map role_row_tree (take i xs))
    here = r ∙ omega (arith, length-map (take i xs) role_row_tree, length-take i xs)

    place : count ≡ first + length (other_nodes first 0 (map role_row_tree (take i xs)))
    place = n ∙ (ap length so_far ∙ omega (arith, length-append old (other_nodes first 0 (map role_row_tree (take i xs)))))

-- ---- The whole tree

pub rows_number : (core : BodyTree) → length (var_rows core) ≡ length (vars core)
rows_number core = ap length (rows_are core 0) ∙ (length-map (loops core 0) row_of ∙ number core 0)

-- there is an own role for each variable from 0
pub own_count : (core : BodyTree) (own : List Role) (rows : List VarRow) → map (λ (r : Role). r.0) own ≡ own_list 0 (roles_of core) → map var_row_tree rows ≡ var_rows core → length own ≡ suc (length rows)
own_count core own rows e f = omega (arith, length-map own (λ (r : Role). r.0), ap length e, own_length core, length-map rows var_row_tree, ap length f, rows_number core)

pub whole : (core : BodyTree) → Good core → (own : List ℕ) (vars_now roles_now : List NodeTree) (count : ℕ) → own ≡ own_list 0 (roles_of core) →
    vars_now ≡ [] ++ (root_node (get_or own 0 0) ∷ var_nodes (λ x. get_or own x 0) 1 (var_rows core)) → count ≡ length vars_now → roles_now ≡ vars_now ++ other_nodes count 0 (roles_of core) →
    roles_now ≡ projected core
whole core g own vars_now roles_now count e v n r =
    r ∙ (λ i. nodes i ++ other_nodes (counted i) 0 (roles_of core))
  where
    of_var : (x : ℕ) → x < 1 + length (var_rows core) → get_or own x 0 ≡ own_number x 0 (roles_of core)
    of_var x h = ap (λ (os : List ℕ). get_or os x 0) e ∙ own_is core g x 0 (omega (arith, rows_number core))

    nodes : vars_now ≡ root_node (own_number 0 0 (roles_of core)) ∷ var_nodes (λ x. own_number x 0 (roles_of core)) 1 (var_rows core)
    nodes = v ∙ (λ i. root_node (of_var 0 (omega arith) i) ∷ same_nodes (λ x. get_or own x 0) (λ x. own_number x 0 (roles_of core)) 1 (var_rows core) of_var i)

    length_nodes : (f : ℕ → ℕ) (x : ℕ) (rs : List VarRowTree) → length (var_nodes f x rs) ≡ length rs
    length_nodes f x [] = refl
    length_nodes f x (q ∷ rs) = ap suc (length_nodes f (suc x) rs)

    counted : count ≡ suc (length (var_rows core))
    counted = n ∙ (ap length nodes ∙ ap suc (length_nodes (λ x. own_number x 0 (roles_of core)) 1 (var_rows core)))
