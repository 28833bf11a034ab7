-- What contracts see of a buffer, and what holds of its store.
use Rattle.std.specs.Prelude.{◌≡◌, ◌<◌, ◌≤◌, ◌+◌, ◌-◌, ◌^◌, min, ℕ, true, List, Option, Some, None, length, IsSome, refl}
use Rattle.std.specs.Coded.{Coded, code_by, coded×, coded_ℕ, coded_list, coded_option}
use Rattle.std.specs.FinMap.{get}
use Rattle.gcx_model.specs.Members.{In}
use Rattle.buf_tree.specs.Row.{Row}
use Rattle.gcx_model.specs.declared.item.Off.{Off}
use Rattle.buf_tree.specs.declared.ahead.Ahead.{Ahead}
use Rattle.buf_tree.specs.Spread.{SpreadView, spread_code}
use Rattle.buf_tree.specs.Shape.{Store, Cell, num, cells, Shaped, at_place}
use Rattle.buf_tree.specs.Walk.{Nested}
use Rattle.buf_tree.specs.Purge.{Tidy, TidyBut}

-- A count stands still at the end of its type, that of 128 bits.
abbrev pub capped : ℕ → ℕ
capped n = min n (2 ^ 128 - 1)

-- the rows in document order, each with its place; the same as they are kept, where a role of whole subtrees stands at the tops alone, and what is kept of the plan for it; the departures and the statements that wait, in order; the number of nodes so far, and of roles taken back; and of the store the greatest number of rows and the loans
pub record View : Type 0 where
  pub rows : List Cell
  pub kept : List Cell
  pub spread : Option SpreadView
  pub gone : List ℕ
  pub waiting : List Ahead
  pub nodes : ℕ
  pub taken : ℕ
  pub most : ℕ
  pub loans : List ℕ

abbrev pub cell_code : Coded Row → Coded Cell
cell_code row =
    code_by (ℕ × Row) (coded× coded_ℕ row) (λ c. (c.place, c.row)) (λ p. record { place = p.0; row = p.1 }) (λ _. refl)

abbrev pub view_code : Coded Row → Coded Off → Coded Ahead → Coded View
view_code row off ahead =
    code_by
    (List Cell × (List Cell × (Option SpreadView × (List ℕ × (List Ahead × (ℕ × (ℕ × (ℕ × List ℕ))))))))
    (coded× (coded_list (cell_code row)) (coded× (coded_list (cell_code row)) (coded× (coded_option (spread_code off)) (coded× (coded_list coded_ℕ) (coded× (coded_list ahead) (coded× coded_ℕ (coded× coded_ℕ (coded× coded_ℕ (coded_list coded_ℕ)))))))))
    (λ v. (v.rows, (v.kept, (v.spread, (v.gone, (v.waiting, (v.nodes, (v.taken, (v.most, v.loans)))))))))
    (λ p. record { rows = p.0; kept = p.1.0; spread = p.1.1.0; gone = p.1.1.1.0; waiting = p.1.1.1.1.0; nodes = p.1.1.1.1.1.0; taken = p.1.1.1.1.1.1.0; most = p.1.1.1.1.1.1.1.0; loans = p.1.1.1.1.1.1.1.1 })
    (λ _. refl)

-- the rows stand in document order: what is open is followed by its own subtree alone
pub record Ordered (xs : List Cell) : Type 0 where
  pub nested : Nested xs
  pub open_last : (a b : Cell) → In a xs → In b xs → a.row.is_open ≡ true → num a < num b → num a ≤ b.row.parent

-- what holds of the store beside the departures, their room, and the numbers of rows and of nodes
pub record Kept (m : Store) (gone : List ℕ) (capacity count nodes : ℕ) : Type 0 where
  pub shape : Shaped m
  pub tidy : Tidy (cells m)
  pub held : length (cells m) ≡ count
  pub room : length gone + count ≤ capacity
  pub below : (c : Cell) → In c (cells m) → num c < nodes
  pub ordered : Ordered (cells m)

-- the same, but for the row at the place, from which a purge is to go up
pub record Ready (m : Store) (p : ℕ) (gone : List ℕ) (capacity count nodes : ℕ) : Type 0 where
  pub shape : Shaped m
  pub there : IsSome (get m p)
  pub tidy : TidyBut (Some p) (cells m)
  pub held : length (cells m) ≡ count
  pub room : length gone + count ≤ capacity
  pub below : (c : Cell) → In c (cells m) → num c < nodes
  pub ordered : Ordered (cells m)

-- the place is in use
pub record InUse (xs : List Cell) (p : ℕ) : Type 0 where
  pub cell : Cell
  pub among : In cell xs
  pub place : cell.place ≡ p

-- the place is that of the innermost open node
pub record Innermost (xs : List Cell) (p : ℕ) : Type 0 where
  pub cell : Cell
  pub among : In cell xs
  pub place : cell.place ≡ p
  pub is_open : cell.row.is_open ≡ true
  pub last : (d : Cell) → In d xs → d.row.is_open ≡ true → num d ≤ num cell

abbrev pub num_in : Option Cell → ℕ
num_in None = 0
num_in (Some c) = num c

abbrev pub level_in : Option Cell → ℕ
level_in None = 0
level_in (Some c) = c.row.level

-- the serial of the row at the place
abbrev pub serial_at : ℕ → List Cell → ℕ
serial_at p xs = num_in (at_place p xs)
