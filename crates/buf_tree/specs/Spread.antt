-- Roles of whole subtrees, which are kept at the tops alone: what is kept of a plan for it, and what the rows kept make of the rows that contracts see.
use Rattle.std.specs.Prelude.{◌≡◌, ◌==◌, ◌&&◌, ◌++◌, ◌^◌, ◌-◌, not, cond, ℕ, Bool, true, false, List, [], ◌∷◌, Option, Some, None, map, min, option_map, is_some, slice_index_or, refl}
use Rattle.std.specs.Coded.{Coded, code_by, coded×, coded_list, coded_option, coded_bool}
use Rattle.std.specs.Ordering.{nat_cmp}
use Rattle.std.specs.FinSet as set
use Rattle.gcx_model.specs.declared.item.Off.{Off}
use Rattle.gcx_model.specs.ItemView.{off_tree}
use Rattle.gcx_model.specs.Members.{In}
use Rattle.gcx_model.specs.Core.{PlanTree}
use Rattle.gcx_model.specs.Tree.{Node}
use Rattle.gcx_model.specs.Held.{roles_live}
use Rattle.gcx_model.specs.Past.{Past}
use Rattle.spread_laws.specs.Tops.{tops_of, alone_of, roles_kept}
use Rattle.buf_tree.specs.Shape.{Cell, num}

-- for each spread role a statement that reaches its tops alone, and for each variable whether its path has no descendant step
pub record SpreadView : Type 0 where
  pub tops : List (Option Off)
  pub alone : List Bool

abbrev pub spread_code : Coded Off → Coded SpreadView
spread_code off =
    code_by (List (Option Off) × List Bool) (coded× (coded_list (coded_option off)) (coded_list coded_bool)) (λ s. (s.tops, s.alone)) (λ p. record { tops = p.0; alone = p.1 }) (λ _. refl)

-- they are those of this plan
pub record IsSpreadOf (s : SpreadView) (plan : PlanTree) : Type 0 where
  pub tops : map (option_map off_tree) s.tops ≡ tops_of plan
  pub alone : s.alone ≡ alone_of plan

-- no role is spread, or those of this plan are
abbrev pub SpreadsAs : Option SpreadView → PlanTree → Type 0
SpreadsAs None plan = Unit {0}
SpreadsAs (Some s) plan = IsSpreadOf s plan

abbrev pub is_spread_in : Option SpreadView → (role : ℕ) → Bool
is_spread_in None r = false
is_spread_in (Some s) r = is_some (slice_index_or s.tops r None)

-- the path of the variable has no descendant step, as far as is known
abbrev pub is_alone_in : Option SpreadView → (var : ℕ) → Bool
is_alone_in None x = false
is_alone_in (Some s) x = slice_index_or s.alone x true

-- the roles kept at a node: those live there, where no role is spread
abbrev pub kept_roles : Option SpreadView → Past → Node → List ℕ
kept_roles None past n = roles_live past.plan past.tree past.acts n
kept_roles (Some s) past n = roles_kept past n

-- the roles of the row with serial k
abbrev pub roles_at : List Cell → ℕ → set.FinSet nat_cmp
roles_at [] k = set.empty
roles_at (c ∷ cs) k = cond (num c == k) c.row.roles (roles_at cs k)

-- the row with these roles from above too
abbrev pub with_roles : set.FinSet nat_cmp → Cell → Cell
with_roles above c = record { place = c.place; row = record c.row { roles = set.union c.row.roles above; covered = false } }

-- the rows, each with the spread roles of its parent too; `done` are those before them, which have theirs
abbrev pub with_above : (spread : ℕ → Bool) → (done kept : List Cell) → List Cell
with_above spread done [] = done
with_above spread done (c ∷ cs) = with_above spread (done ++ with_roles (set.retain (roles_at done c.row.parent) spread) c ∷ []) cs

-- the rows that contracts see, of those kept
abbrev pub seen_rows : Option SpreadView → List Cell → List Cell
seen_rows s kept = with_above (is_spread_in s) [] kept

-- the parent of this row has a spread role, where the rows have these roles
abbrev pub is_covered : (spread : ℕ → Bool) → (rows : List Cell) → Cell → Bool
is_covered spread rows c = not (num c == 0) && not (set.len (set.retain (roles_at rows c.row.parent) spread) == 0)

-- each row kept tells whether it is
abbrev pub TellsCovered : Option SpreadView → List Cell → Type 0
TellsCovered s kept = (c : Cell) → In c kept → c.row.covered ≡ is_covered (is_spread_in s) (seen_rows s kept) c

-- the row but for its roles
abbrev pub bare_cell : Cell → Cell
bare_cell c = record { place = c.place; row = record c.row { roles = set.empty; covered = false } }

-- the rows differ in their roles alone
abbrev pub SameButRoles : (kept rows : List Cell) → Type 0
SameButRoles kept rows = map bare_cell kept ≡ map bare_cell rows

-- A count stands still at the end of its type, that of 64 bits.
abbrev pub capped64 : ℕ → ℕ
capped64 n = min n (2 ^ 64 - 1)
