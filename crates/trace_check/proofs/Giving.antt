-- The roles of all nodes, given one after another.
use Rattle.std.proofs.Common.{◌≡◌, ℕ, zero, suc, ◌+◌, ◌<◌, Bool, cond, List, [], ◌∷◌, length, map, get_or, replicate, All, Some, refl, sym, ◌∙◌, ap, subst, inl, inr, arith}
use Rattle.std.specs.List.{filter}
use Rattle.std.proofs.lemmas.List.{get_or_default, length-replicate}
use Rattle.gcx_base.specs.declared.ids.Role.{Role}
use Rattle.gcx_model.specs.Core.{PlanTree, RoleRowTree}
use Rattle.gcx_model.specs.Held.{given, given_row, on_row, path_of, roles_given}
use Rattle.gcx_model.specs.Members.{In, count}
use Rattle.gcx_model.specs.Placed.{row_at}
use Rattle.gcx_model.specs.PlanView.{role_row_tree}
use Rattle.gcx_model.specs.Tree.{Node, serial_of, Tree}
use Rattle.gcx_model.specs.declared.plan.RoleRow.{RoleRow}
use Rattle.tree_laws.proofs.Matches.{Grown, Numbered}
use Rattle.doc_tree.specs.Rows.{node_at}
use Rattle.trace_check.specs.Wanting.{AreBelow, IsGivenTo, given_all, numbers_in, with_role}
use Rattle.trace_check.proofs.Numbers.{at_in, in_tree, number_of}
use Rattle.trace_check.proofs.Roles.{below_by, roles_push}

-- The first of the roles are given.
pub record HasGiven (plan : PlanTree) (C : Tree) (i : ℕ) (gs : List (List Role)) : Type 0 where
  pub long : length gs ≡ length C.nodes
  pub entries : (n : Node) → In n C.nodes → numbers_in (get_or gs (serial_of n) []) ≡ filter (given plan C n) (count 0 i)

-- the row of a role
pub given_at : (plan : PlanTree) (C : Tree) (n : Node) (rows : List RoleRow) (i : ℕ) (d : RoleRow) → map role_row_tree rows ≡ plan.roles → i < length rows
    → given plan C n i ≡ given_row (path_of plan) C n (role_row_tree (get_or rows i d))
given_at plan C n rows i d e l = ap (on_row (given_row (path_of plan) C n)) (ap (λ (l : List RoleRowTree). row_at l i) (sym e) ∙ at rows i l)
  where
    at : (rows : List RoleRow) (i : ℕ) → i < length rows → row_at (map role_row_tree rows) i ≡ Some (role_row_tree (get_or rows i d))
    at [] i l = absurd (omega (arith, l))
    at (r ∷ rows) zero l = refl
    at (r ∷ rows) (suc i) l = at rows i (omega (arith, l))

none_at : (n k : ℕ) → get_or (replicate {A = List Role} n []) k [] ≡ []
none_at zero k = refl
none_at (suc n) zero = refl
none_at (suc n) (suc k) = none_at n k

pub given_start : (plan : PlanTree) (C : Tree) → HasGiven plan C 0 (replicate (length C.nodes) [])
given_start plan C = record { long = length-replicate (length C.nodes) []; entries = λ n i. ap numbers_in (none_at (length C.nodes) (serial_of n)) }

pub given_more : (plan : PlanTree) (C : Tree) → Grown C → (i : ℕ) (role : Role) (p : ℕ → Bool) (old new : List (List Role)) → role.0 ≡ i → HasGiven plan C i old → IsGivenTo role p old new
    → ((n : Node) → In n C.nodes → p (serial_of n) ≡ given plan C n i) → HasGiven plan C (suc i) new
given_more plan C w i role p old new e h g same = record {
  long = g.as_many ∙ h.long;
  entries = λ n k.
      let roles : List Role = get_or old (serial_of n) [] in
      let there : serial_of n < length old = (let l = in_tree C w n k in omega (arith, l, h.long)) in
      let before : numbers_in roles ≡ filter (given plan C n) (count 0 role.0) = h.entries n k ∙ ap (λ (m : ℕ). filter (given plan C n) (count 0 m)) (sym e) in
      ap numbers_in (g.entries (serial_of n) there)
      ∙ (ap (λ (b : Bool). numbers_in (cond b (with_role role roles) roles)) (same n k ∙ ap (given plan C n) (sym e))
      ∙ (roles_push roles (given plan C n) role before ∙ ap (λ (m : ℕ). filter (given plan C n) (count 0 (suc m))) e));
}

-- none of them is above the next one
pub given_below : (plan : PlanTree) (C : Tree) → Grown C → (i : ℕ) (gs : List (List Role)) → HasGiven plan C i gs → All (AreBelow (suc i)) gs
given_below plan C w i gs h k d l =
    let there : k < length C.nodes = omega (arith, l, h.long) in
    let n : Node = node_at C.nodes k in
    let at : numbers_in (get_or gs k []) ≡ filter (given plan C n) (count 0 i) = ap (λ (m : ℕ). numbers_in (get_or gs m [])) (sym (number_of C w k there)) ∙ h.entries n (at_in C.nodes k there) in
    λ r j. let b = below_by (get_or gs k []) (given plan C n) i at r (subst (λ (x : List Role). In r x) (get_or_default gs k d [] l) j) in omega (arith, b)

by_entries : (b : ℕ) (xs : List Node) → Numbered b xs → (gs : List (List Role)) (f : Node → List ℕ) → length gs ≡ length xs
    → ((n : Node) → In n xs → (i : ℕ) → serial_of n ≡ b + i → numbers_in (get_or gs i []) ≡ f n) → map numbers_in gs ≡ map f xs
by_entries b [] h [] f e same = refl
by_entries b [] h (g ∷ gs) f e same = absurd (omega (arith, e))
by_entries b (x ∷ xs) h [] f e same = absurd (omega (arith, e))
by_entries b (x ∷ xs) h (g ∷ gs) f e same =
    ap (λ (l : List ℕ). l ∷ map numbers_in gs) (same x (inl refl) 0 (let z = h.0 in omega (arith, z)))
    ∙ ap (λ (l : List (List ℕ)). f x ∷ l) (by_entries (suc b) xs h.1 gs f (omega (arith, e)) (λ n i k s. same n (inr i) (suc k) (omega (arith, s))))

-- all are given
pub given_end : (plan : PlanTree) (C : Tree) → Grown C → (gs : List (List Role)) → HasGiven plan C (length plan.roles) gs → map numbers_in gs ≡ given_all plan C
given_end plan C w gs h = by_entries 0 C.nodes w.numbered gs (roles_given plan C) h.long (λ n i k s. ap (λ (m : ℕ). numbers_in (get_or gs m [])) (let z : k ≡ serial_of n = omega (arith, s) in z) ∙ h.entries n i)
