-- How deep the roles of a core reach, and when it is refused (this project's).
use Rattle.std.specs.Prelude.{ℕ, ◌+◌, min, Bool, cond, List, [], ◌∷◌, ◌++◌, length, nat_lt, slice_index_or, Option, Some, None, if◌then◌else◌}
use Rattle.gcx_base.specs.declared.steps.Step.{Step}
use Rattle.gcx_model.specs.declared.fault.What.TheVariants.{Roles, Descendants}
use Rattle.gcx_model.specs.declared.fault.QueryFault.{QueryFault}
use Rattle.gcx_model.specs.declared.fault.QueryFault.TheVariants.{TooLarge}
use Rattle.gcx_model.specs.Core.{BodyTree, VarRowTree, RoleRowTree}
use Rattle.gcx_model.specs.Paths.{any}
use Rattle.gcx_model.specs.Variables.{is_child, path_in}
use Rattle.gcx_model.specs.Roles.{roles_of}

abbrev pub fall : Step → ℕ
fall s = cond (is_child s.axis) 0 1

-- how many of the steps are descendant steps
abbrev pub descendants : List Step → ℕ
descendants [] = 0
descendants (s ∷ rest) = fall s + descendants rest

-- the path of the role's variable and its tail have more than six of them
abbrev pub is_deep : BodyTree → RoleRowTree → Bool
is_deep core r = nat_lt 6 (descendants (path_in core r.var ++ r.tail))

-- the first limit that the core's roles pass: of two the number of roles is named
abbrev pub roles_refusal : BodyTree → Option QueryFault
roles_refusal core =
    if nat_lt 2000 (length (roles_of core)) then Some (TooLarge Roles 2000)
    else if any (is_deep core) (roles_of core) then Some (TooLarge Descendants 6)
    else None

-- ---- What is counted: of each variable from 0, up to the most of a number

abbrev pub capped : ℕ → ℕ
capped n = min n 4294967295

-- with those of the variables of these rows
abbrev pub with_rows : List ℕ → List VarRowTree → List ℕ
with_rows depths [] = depths
with_rows depths (r ∷ rs) = with_rows (depths ++ capped (slice_index_or depths r.parent 0 + fall r.step) ∷ []) rs
