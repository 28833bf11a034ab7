-- The plan of a core: its statements, and where they stand (this project's profile of ICDE 2007).
use Rattle.std.specs.Prelude.{◌≡◌, ℕ, zero, suc, Bool, true, false, cond, not, ◌&&◌, ◌⊎◌, ◌<◌, List, [], ◌∷◌, ◌++◌, length, ◌==◌, filter, Option, Some, None}
use Rattle.gcx_base.specs.declared.steps.Step.{Step}
use Rattle.gcx_model.specs.Members.{In}
use Rattle.gcx_model.specs.Core.{RoleTarget, Own, First, Whole, OffTree, ItemTree, Write, Copy, For, If, SignOff, BodyTree, Nil, Then, RoleRowTree, PlanTree}
use Rattle.gcx_model.specs.Variables.{Var, var_tree, path_in, fsa_in, var_rows, straight_list, fsa_list}
use Rattle.gcx_model.specs.Roles.{own_row, roles_of}

-- the plan without its statements
abbrev pub without : BodyTree → BodyTree
without Nil = Nil
without (Then (Write s) d) = Then (Write s) (without d)
without (Then (Copy x) d) = Then (Copy x) (without d)
without (Then (For x y s e) d) = Then (For x y s (without e)) (without d)
without (Then (If c a b) d) = Then (If c (without a) (without b)) (without d)
without (Then (SignOff o) d) = without d

-- the statements of a body, as it is read from the left
abbrev mutual
  pub item_offs : ItemTree → List OffTree
  item_offs (Write s) = []
  item_offs (Copy x) = []
  item_offs (For x y s d) = offs_in d
  item_offs (If c a b) = offs_in a ++ offs_in b
  item_offs (SignOff o) = o ∷ []

  pub offs_in : BodyTree → List OffTree
  offs_in Nil = []
  offs_in (Then i d) = item_offs i ++ offs_in d

abbrev pub of_role : ℕ → OffTree → Bool
of_role r o = o.role == r

-- the row of the role with this number
abbrev pub row_at : List RoleRowTree → ℕ → Option RoleRowTree
row_at [] k = None
row_at (r ∷ rs) zero = Some r
row_at (r ∷ rs) (suc k) = row_at rs k

-- a statement of the core: it names the fsa of its role's variable as its base, the base's own role, the steps from the base to the variable, the role's tail and its kind
pub record IsStatement (core : BodyTree) (o : OffTree) : Type 0 where
  pub row : RoleRowTree
  pub at : row_at (roles_of core) o.role ≡ Some row
  pub base : o.base ≡ fsa_in core row.var
  pub own : row_at (roles_of core) o.own ≡ Some (own_row o.base)
  pub rel : path_in core o.base ++ o.rel ≡ path_in core row.var
  pub tail : o.tail ≡ row.tail
  pub kind : o.kind ≡ row.kind

-- by rising role number, the base's own role last
abbrev pub InOrder : List OffTree → Type 0
InOrder [] = Unit {0}
InOrder (a ∷ os) = ((b : OffTree) → In b os → (a.role ≡ a.own → ⊥) × ((b.role ≡ b.own) ⊎ (a.role < b.role))) × InOrder os

-- only statements
abbrev pub OnlyOffs : BodyTree → Type 0
OnlyOffs Nil = Unit {0}
OnlyOffs (Then (Write s) d) = ⊥
OnlyOffs (Then (Copy x) d) = ⊥
OnlyOffs (Then (For x y s e) d) = ⊥
OnlyOffs (Then (If c a b) d) = ⊥
OnlyOffs (Then (SignOff o) d) = OnlyOffs d

-- the statements that a body has itself, not in its loops and branches
abbrev pub own_offs : BodyTree → List OffTree
own_offs Nil = []
own_offs (Then (Write s) d) = own_offs d
own_offs (Then (Copy x) d) = own_offs d
own_offs (Then (For x y s e) d) = own_offs d
own_offs (Then (If c a b) d) = own_offs d
own_offs (Then (SignOff o) d) = o ∷ own_offs d

-- The statements stand at the end of loops' bodies, each in that of its base. Here d is a body of the variable u, or what stands behind some of its items.
abbrev pub AtEnds : (u : ℕ) → BodyTree → Type 0
AtEnds u Nil = Unit {0}
AtEnds u (Then (Write s) d) = AtEnds u d
AtEnds u (Then (Copy x) d) = AtEnds u d
AtEnds u (Then (For x y s e) d) = AtEnds x e × InOrder (own_offs e) × AtEnds u d
AtEnds u (Then (If c a b) d) = (offs_in a ≡ []) × (offs_in b ≡ []) × AtEnds u d
AtEnds u (Then (SignOff o) d) = (o.base ≡ u) × OnlyOffs d × AtEnds u d

-- Placed
pub record Placed (core : BodyTree) (plan : PlanTree) : Type 0 where
  pub is_core : without plan.body ≡ core
  pub vars : plan.vars ≡ var_rows core
  pub straight : plan.straight ≡ straight_list core
  pub fsa : plan.fsa ≡ fsa_list core
  pub roles : plan.roles ≡ roles_of core
  -- for each role exactly one statement
  pub one : (r : ℕ) → r < length (roles_of core) → (o : OffTree) × (filter (of_role r) (offs_in plan.body) ≡ o ∷ [])
  pub statements : (o : OffTree) → In o (offs_in plan.body) → IsStatement core o
  pub stand : AtEnds 0 plan.body
  pub order : InOrder (own_offs plan.body)

-- PlanOf: the one such plan, as a function

abbrev pub is_own_kind : RoleTarget → Bool
is_own_kind Own = true
is_own_kind First = false
is_own_kind Whole = false

-- the number of the role Own of the variable x in these rows, the first of which has the number k
abbrev pub own_number : (x k : ℕ) → List RoleRowTree → ℕ
own_number x k [] = k
own_number x k (r ∷ rs) = cond (is_own_kind r.kind && (r.var == x)) k (own_number x (suc k) rs)

-- the statement of the role row r, which has the number k
abbrev pub statement : (ℕ → Var) → List RoleRowTree → ℕ → RoleRowTree → OffTree
statement F all k r = record { base = (F r.var).base; own = own_number (F r.var).base 0 all; role = k; rel = (F r.var).rel; tail = r.tail; kind = r.kind }

abbrev pub statements : (ℕ → Var) → List RoleRowTree → ℕ → List RoleRowTree → List OffTree
statements F all k [] = []
statements F all k (r ∷ rs) = statement F all k r ∷ statements F all (suc k) rs

-- the statement of each role
abbrev pub offs_of : BodyTree → List OffTree
offs_of core = statements (var_tree core) (roles_of core) 0 (roles_of core)

abbrev pub is_empty : List Step → Bool
is_empty [] = true
is_empty (s ∷ path) = false

-- it takes back its base's own role
abbrev pub is_own : OffTree → Bool
is_own o = is_own_kind o.kind && is_empty o.rel

-- those that stand at the end of the body of b, its own role's last
abbrev pub at_end : List OffTree → ℕ → List OffTree
at_end os b = filter (λ o. (o.base == b) && not (is_own o)) os ++ filter (λ o. (o.base == b) && is_own o) os

abbrev pub offs_body : List OffTree → BodyTree
offs_body [] = Nil
offs_body (o ∷ os) = Then (SignOff o) (offs_body os)

abbrev pub add_offs : BodyTree → List OffTree → BodyTree
add_offs Nil os = offs_body os
add_offs (Then i b) os = Then i (add_offs b os)

-- the statements put at the end of each loop's body; no branch of an If has a loop
abbrev mutual
  pub place_item : (ℕ → List OffTree) → ItemTree → ItemTree
  place_item ends (Write b) = Write b
  place_item ends (Copy x) = Copy x
  place_item ends (For x y s d) = For x y s (add_offs (place ends d) (ends x))
  place_item ends (If c a b) = If c a b
  place_item ends (SignOff o) = SignOff o

  pub place : (ℕ → List OffTree) → BodyTree → BodyTree
  place ends Nil = Nil
  place ends (Then i d) = Then (place_item ends i) (place ends d)

abbrev pub placed_body : BodyTree → BodyTree
placed_body core = add_offs (place (at_end (offs_of core)) core) (at_end (offs_of core) 0)

abbrev pub plan_of : BodyTree → PlanTree
plan_of core = record { body = placed_body core; vars = var_rows core; straight = straight_list core; fsa = fsa_list core; roles = roles_of core }
