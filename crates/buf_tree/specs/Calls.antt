-- What each call of a buffer makes of the rows.
use Rattle.std.specs.Prelude.{◌≡◌, ◌+◌, ◌-◌, ◌≤◌, ◌==◌, ℕ, Bool, true, List, [], ◌∷◌, ◌++◌, Option, Some, None, length, map, filter, not, max, reverse, is_some}
use Rattle.std.specs.List.{list_any}
use Rattle.std.specs.FinSet as set
use Rattle.std.specs.Ordering.{nat_cmp}
use Rattle.gcx_base.specs.declared.ids.Role.{Role}
use Rattle.gcx_base.specs.declared.kind.Kind.{Kind}
use Rattle.gcx_model.specs.Members.{In}
use Rattle.buf_tree.specs.Row.{Row}
use Rattle.buf_tree.specs.Rows.{is_bare, document_row, below_row, shut_row, untaken}
use Rattle.buf_tree.specs.Shape.{Cell, num, at_place, with_at}
use Rattle.buf_tree.specs.Purge.{Purged}
use Rattle.buf_tree.specs.View.{View, capped, num_in, level_in}

abbrev pub numbers : List Role → List ℕ
numbers rs = map (λ (r : Role). r.0) rs

-- the members of the first list that aren't in the second
abbrev pub less : List ℕ → List ℕ → List ℕ
less given ahead = filter (λ r. not (list_any (λ y. y == r) ahead)) given

-- the row of the document node
abbrev pub root_row : List Role → Row
root_row given = document_row (set.from_list (numbers given))

-- `new`
pub record Started (v : View) (given : List Role) : Type 0 where
  pub row : (p : ℕ) × (v.rows ≡ record { place = p; row = root_row given } ∷ [])
  pub gone : v.gone ≡ []
  pub waiting : v.waiting ≡ []
  pub nodes : v.nodes ≡ 1
  pub taken : v.taken ≡ 0

-- the rows xs without those that nothing keeps, whose serials are appended to the departures, falling
pub record Left (v w : View) (xs : List Cell) : Type 0 where
  pub left : List ℕ
  pub gone : w.gone ≡ v.gone ++ left
  pub purged : Purged xs w.rows left

-- the roles of a new node
abbrev pub new_roles : List Role → List Role → set.FinSet nat_cmp
new_roles given ahead = set.from_list (less (numbers given) (numbers ahead))

abbrev pub new_row : View → ℕ → Kind → List Role → List Role → Row
new_row v q kind given ahead = below_row (num_in (at_place q v.rows)) (level_in (at_place q v.rows)) v.nodes kind (new_roles given ahead)

-- the new node is held: it is an element or has a role
abbrev pub stays : Kind → List Role → List Role → Bool
stays kind given ahead = not (is_bare kind (new_roles given ahead))

-- the rows with that of the new node at the place, or without it, where it is gone at once
abbrev pub with_new : Option ℕ → Row → List Cell → List Cell
with_new None row xs = xs
with_new (Some p) row xs = xs ++ record { place = p; row = row } ∷ []

abbrev pub gone_new : Option ℕ → ℕ → List ℕ
gone_new None s = s ∷ []
gone_new (Some p) s = []

abbrev pub most_new : Option ℕ → View → ℕ
most_new None v = v.most
most_new (Some p) v = max v.most (length v.rows + 1)

-- `open_node` below the place q: all rows stay, and the new one stands behind them or is gone
pub record Opened (v w : View) (q : ℕ) (at : Option ℕ) (kind : Kind) (given ahead : List Role) : Type 0 where
  pub rows : w.rows ≡ with_new at (new_row v q kind given ahead) v.rows
  pub gone : w.gone ≡ v.gone ++ gone_new at v.nodes
  pub held : is_some at ≡ stays kind given ahead
  pub free : (c : Cell) → In c v.rows → at ≡ Some c.place → ⊥
  pub waiting : w.waiting ≡ v.waiting
  pub nodes : w.nodes ≡ v.nodes + 1
  pub taken : w.taken ≡ capped (v.taken + length ahead)
  pub most : w.most ≡ most_new at v
  pub spread : w.spread ≡ v.spread

-- `close_node`
pub record Closed (v w : View) (p : ℕ) : Type 0 where
  pub leaves : Left v w (map (with_at shut_row p) v.rows)
  pub waiting : w.waiting ≡ v.waiting
  pub nodes : w.nodes ≡ v.nodes
  pub taken : w.taken ≡ v.taken
  pub most : w.most ≡ v.most
  pub spread : w.spread ≡ v.spread

-- the row at the place has the role
pub record HasRole (xs : List Cell) (p k : ℕ) : Type 0 where
  pub cell : Cell
  pub among : In cell xs
  pub place : cell.place ≡ p
  pub has : set.contains cell.row.roles k ≡ true

-- `take_role`
pub record Untaken (v w : View) (p k : ℕ) : Type 0 where
  pub leaves : Left v w (map (with_at (untaken k) p) v.rows)
  pub waiting : w.waiting ≡ v.waiting
  pub nodes : w.nodes ≡ v.nodes
  pub taken : w.taken ≡ capped (v.taken + 1)
  pub most : w.most ≡ v.most
  pub spread : w.spread ≡ v.spread

-- the rows with the role k
abbrev pub role_count : ℕ → List Cell → ℕ
role_count k xs = length (filter (λ c. set.contains c.row.roles k) xs)

-- the serials of the rows that were there before and aren't there now, falling
abbrev pub left_out : (before now : List Cell) → List ℕ
left_out before now = map num (reverse (filter (λ c. not (list_any (λ d. num d == num c) now)) before))

-- `sign_off`, beside what the past tells: the rows that stay keep their places, and the departures and the roles taken are counted
pub record Signed (v w : View) (k : ℕ) : Type 0 where
  pub places : (c : Cell) → In c w.rows → (d : Cell) × In d v.rows × (d.place ≡ c.place) × (num d ≡ num c)
  pub gone : w.gone ≡ v.gone ++ left_out v.rows w.rows
  pub fewer : role_count k w.rows ≤ role_count k v.rows
  pub taken : w.taken ≡ capped (v.taken + (role_count k v.rows - role_count k w.rows))
  pub nodes : w.nodes ≡ v.nodes
  pub most : w.most ≡ v.most
  pub spread : w.spread ≡ v.spread
