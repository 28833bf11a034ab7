-- Where the roles of whole subtrees are kept: at the tops alone. A top is a node to which the steps of a statement and its tail lead; what lies below a top has the role from there (this project's).
use Rattle.std.specs.Prelude.{ℕ, Bool, true, false, not, cond, ◌&&◌, List, [], ◌∷◌, ◌++◌, length, filter, map, set, sum, Option, Some, None}
use Rattle.gcx_base.specs.declared.steps.Step.{Step}
use Rattle.gcx_model.specs.Tree.{Node, serial_of, Tree}
use Rattle.gcx_model.specs.Paths.{any, hits}
use Rattle.gcx_model.specs.Members.{count}
use Rattle.gcx_model.specs.Variables.{all_child}
use Rattle.gcx_model.specs.Core.{RoleTarget, Own, First, Whole, OffTree, RoleRowTree, PlanTree}
use Rattle.gcx_model.specs.Placed.{row_at}
use Rattle.gcx_model.specs.Held.{paths_from, path_of, statement_of, given_row, on_row, signed, on_off, live, held}
use Rattle.gcx_model.specs.Past.{Past}
use Rattle.past_laws.specs.Pasts.{bases}

-- the kind of the roles that are given to whole subtrees
abbrev pub is_whole_kind : RoleTarget → Bool
is_whole_kind Own = false
is_whole_kind First = false
is_whole_kind Whole = true

-- the role is spread: one of those
abbrev pub is_spread : PlanTree → (role : ℕ) → Bool
is_spread plan r = on_off (λ s. is_whole_kind s.kind) (statement_of plan r)

-- the statement's steps, followed by its tail, lead to the node from a base that isn't signed
abbrev pub is_top : Past → OffTree → Node → Bool
is_top past s n = any (λ m. not (signed past.acts s m) && hits (serial_of m) (s.rel ++ s.tail) n) (bases past s)

-- the role is kept at the node: a spread one at the tops of its statement, another one where it is live
abbrev pub is_kept_at : Past → Node → (role : ℕ) → Bool
is_kept_at past n r = cond (is_spread past.plan r) (on_off (λ s. is_top past s n) (statement_of past.plan r)) (live past.plan past.tree past.acts n r)

-- the roles kept at the node, by rising role
abbrev pub roles_kept : Past → Node → List ℕ
roles_kept past n = filter (is_kept_at past n) (count 0 (length past.plan.roles))

-- the node is given the role, but not from above: where the role is spread its path leads to the node itself
abbrev pub gives_newly : (ℕ → List Step) → Tree → Node → RoleRowTree → Bool
gives_newly paths P n row = cond (is_whole_kind row.kind) (hits 0 (paths row.var ++ row.tail) n) (given_row paths P n row)

abbrev pub is_newly_given : PlanTree → Tree → Node → (role : ℕ) → Bool
is_newly_given plan P n r = on_row (gives_newly (path_of plan) P n) (row_at plan.roles r)

-- those roles, by rising role
abbrev pub roles_newly_given : PlanTree → Tree → Node → List ℕ
roles_newly_given plan P n = filter (is_newly_given plan P n) (count 0 (length plan.roles))

-- the pairs of a held node and a role kept at it
abbrev pub entries_of : Past → ℕ
entries_of past = sum (map (λ n. length (roles_kept past n)) (held past.plan past.tree past.acts))

-- a statement that reaches, of what s reaches, the tops alone
abbrev pub top_off : OffTree → OffTree
top_off s = record s { rel = s.rel ++ s.tail; tail = []; kind = Own }

abbrev pub top_in : Option OffTree → Option OffTree
top_in None = None
top_in (Some s) = cond (is_whole_kind s.kind) (Some (top_off s)) None

-- for each spread role such a statement; the others have none
abbrev pub tops_of : PlanTree → List (Option OffTree)
tops_of plan = map (λ r. top_in (statement_of plan r)) (count 0 (length plan.roles))

-- for each variable whether its path has no descendant step
abbrev pub alone_of : PlanTree → List Bool
alone_of plan = map all_child (paths_from ([] ∷ []) plan.vars)

-- such a table with this statement's entry, if its role is spread, and with those of all these statements
abbrev pub put_top : OffTree → List (Option OffTree) → List (Option OffTree)
put_top o ts = cond (is_whole_kind o.kind) (set ts o.role (Some (top_off o))) ts

abbrev pub put_tops : List OffTree → List (Option OffTree) → List (Option OffTree)
put_tops [] ts = ts
put_tops (o ∷ os) ts = put_tops os (put_top o ts)
