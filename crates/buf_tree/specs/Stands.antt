-- Which pasts a buffer stands for.
use Rattle.std.specs.Prelude.{◌≡◌, ◌==◌, ◌⊎◌, ℕ, Bool, true, false, cond, List, [], ◌∷◌, length, map, drop, Option, Some, None}
use Rattle.std.specs.Ordering.{nat_cmp}
use Rattle.std.specs.FinSet as set
use Rattle.gcx_base.specs.declared.ids.Role.{Role}
use Rattle.gcx_base.specs.declared.kind.Kind.{Kind}
use Rattle.gcx_model.specs.declared.item.Off.{Off}
use Rattle.gcx_model.specs.ItemView.{off_tree}
use Rattle.gcx_model.specs.Members.{In}
use Rattle.gcx_model.specs.Core.{BodyTree, PlanTree}
use Rattle.gcx_model.specs.Cores.{Good}
use Rattle.gcx_model.specs.Placed.{Placed, offs_in, is_own}
use Rattle.gcx_model.specs.Run.{Offed}
use Rattle.gcx_model.specs.Tree.{Node, Root, TreeToken, End, opening, grow}
use Rattle.gcx_model.specs.Growth.{level, may_come}
use Rattle.gcx_model.specs.Held.{held, roles_given, roles_taken}
use Rattle.gcx_model.specs.Past.{Past, IsPast, HeldRow, row_of, Awaited, waiting_offs, opening_past, past_fed, past_grown, past_acted, token_for}
use Rattle.buf_tree.specs.Row.{Row}
use Rattle.buf_tree.specs.declared.ahead.Ahead.{Ahead}
use Rattle.buf_tree.specs.Shape.{Cell}
use Rattle.buf_tree.specs.View.{View, serial_at}
use Rattle.buf_tree.specs.Spread.{SpreadsAs, kept_roles}
use Rattle.buf_tree.specs.Calls.{numbers}

-- what a row tells of its node, with its roles and the roles signed at it as sets, how deep it lies, and whether it says that it has roles from above: no row that contracts see does
pub record Seen : Type 0 where
  pub serial : ℕ
  pub level : ℕ
  pub parent : Option ℕ
  pub kind : Kind
  pub is_open : Bool
  pub roles : set.FinSet nat_cmp
  pub signed : set.FinSet nat_cmp
  pub covered : Bool

abbrev pub parent_seen : Row → Option ℕ
parent_seen r = cond (r.serial == 0) None (Some r.parent)

abbrev pub seen : Cell → Seen
seen c = record { serial = c.row.serial; level = c.row.level; parent = parent_seen c.row; kind = c.row.kind; is_open = c.row.is_open; roles = c.row.roles; signed = c.row.signed; covered = c.row.covered }

abbrev pub told_row : (level : ℕ) → HeldRow → Seen
told_row l r = record { serial = r.serial; level = l; parent = r.parent; kind = r.kind; is_open = r.is_open; roles = set.from_list r.roles; signed = set.from_list r.signed; covered = false }

-- what the row of a held node tells
abbrev pub told : Past → Node → Seen
told past n = told_row (level n) (row_of past n)

abbrev pub awaited_by : Ahead → Awaited
awaited_by a = record { level = a.level; off = off_tree a.off }

-- the rows kept have what is kept at the held nodes
abbrev pub KeptAt : View → Past → Type 0
KeptAt v past = map (λ c. c.row.roles) v.kept ≡ map (λ n. set.from_list (kept_roles v.spread past n)) (held past.plan past.tree past.acts)

-- where the rows that contracts see stand for the past
abbrev pub KeepsAs : View → Past → Type 0
KeepsAs v past = map seen v.rows ≡ map (told past) (held past.plan past.tree past.acts) → KeptAt v past

-- Stands for: the rows are those of the held nodes, as `rows_of` has them, each with its level; and where roles are spread, these are those of the past's plan, each kept at its tops
pub record StandsFor (v : View) (past : Past) : Type 0 where
  pub is_past : IsPast past
  pub spread : SpreadsAs v.spread past.plan
  pub rows : map seen v.rows ≡ map (told past) (held past.plan past.tree past.acts)
  pub kept : KeptAt v past
  pub waiting : map awaited_by v.waiting ≡ waiting_offs past
  pub nodes : v.nodes ≡ length past.tree.nodes

-- all actions so far count as taken before the last token
abbrev pub past_told : Past → Past
past_told past = record past { fed = length past.acts }

-- the node that the token opens is given the one list of roles, of which the other is taken in advance
abbrev pub GivenTo : Past → TreeToken → List Role → List Role → Type 0
GivenTo past t gs as_ = (n : Node) → drop (length past.tree.nodes) (grow t past.tree).nodes ≡ n ∷ []
    → (numbers gs ≡ roles_given past.plan (grow t past.tree) n) × (numbers as_ ≡ roles_taken past.plan (grow t past.tree) past.acts n)

-- Where roles are spread, the token may come behind one past at least for which the buffer stands, and it gives the node these roles.
abbrev pub MayOpen : View → TreeToken → List Role → List Role → Type 0
MayOpen v t gs as_ = (v.spread ≡ None) ⊎ ((past : Past) × StandsFor v past × (may_come t past.tree ≡ true) × GivenTo past t gs as_)

-- a buffer of these roles stands for the opening past of each placed plan that gives them to the document node
abbrev pub StandsFirst : View → List Role → Type 0
StandsFirst w given = (core : BodyTree) (plan : PlanTree) → Good core → Placed core plan → numbers given ≡ roles_given plan opening Root → StandsFor w (opening_past plan)

-- for each past for which it stood it stands for that with the token that opens a node of this kind
abbrev pub StandsOpened : (v w : View) → Kind → (given ahead : List Role) → Type 0
StandsOpened v w kind given ahead =
    (past : Past) → StandsFor v past → may_come (token_for kind) past.tree ≡ true → GivenTo past (token_for kind) given ahead → StandsFor w (past_grown (token_for kind) past)

-- with the end of the innermost open node
abbrev pub StandsClosed : (v w : View) → Type 0
StandsClosed v w = (past : Past) → StandsFor v past → may_come End past.tree ≡ true → StandsFor w (past_fed End past)

-- with the statement carried out at the node of the place
abbrev pub StandsSigned : (v w : View) → (p : ℕ) → Off → Type 0
StandsSigned v w p off = (past : Past) → StandsFor v past → In (off_tree off) (offs_in past.plan.body) → StandsFor w (past_acted (Offed (off_tree off) (serial_at p v.rows)) past)

-- The statement is due at the node of the place: the base's own role is there, live or signed, the statement isn't signed there, and it is one of the plan of a past for which the buffer stands.
pub record Due (v : View) (p : ℕ) (off : Off) : Type 0 where
  pub cell : Cell
  pub among : In cell v.rows
  pub place : cell.place ≡ p
  pub base : (set.contains cell.row.roles off.own.0 ≡ true) ⊎ (set.contains cell.row.signed off.own.0 ≡ true)
  pub unsigned : set.contains cell.row.signed off.role.0 ≡ false
  pub past : Past
  pub stands : StandsFor v past
  pub stated : In (off_tree off) (offs_in past.plan.body)

-- the statement is carried out in advance at the node of the place
pub record IsAhead (v : View) (p : ℕ) (off : Off) : Type 0 where
  pub cell : Cell
  pub among : In cell v.rows
  pub place : cell.place ≡ p
  pub is_open : cell.row.is_open ≡ true
  pub steps : is_own (off_tree off) ≡ false

-- or it isn't
pub record IsBehind (v : View) (p : ℕ) (off : Off) : Type 0 where
  pub cell : Cell
  pub among : In cell v.rows
  pub place : cell.place ≡ p
  pub either : (cell.row.is_open ≡ false) ⊎ (is_own (off_tree off) ≡ true)
