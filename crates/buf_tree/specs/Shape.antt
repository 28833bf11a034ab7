-- The rows of a store as a list in document order.
use Rattle.std.specs.Prelude.{◌≡◌, ◌==◌, ◌<◌, ◌⊎◌, ℕ, Bool, cond, not, ◌&&◌, List, [], ◌∷◌, Option, Some, None, filter, length, option_map, map, ltb}
use Rattle.std.specs.Ordering.{nat_cmp}
use Rattle.std.specs.FinMap.{FinMap, get, keys}
use Rattle.node_store.specs.Rows.{StoreRow}
use Rattle.gcx_model.specs.Members.{In}
use Rattle.buf_tree.specs.Row.{Row}

abbrev pub Store : Type 0
Store = FinMap nat_cmp (StoreRow Row)

pub record Cell : Type 0 where
  pub place : ℕ
  pub row : Row

abbrev pub num : Cell → ℕ
num c = c.row.serial

-- into a list by rising serials
abbrev pub put : Cell → List Cell → List Cell
put c [] = c ∷ []
put c (x ∷ xs) = cond (ltb (num c) (num x)) (c ∷ x ∷ xs) (cond (ltb (num x) (num c)) (x ∷ put c xs) (x ∷ xs))

abbrev pub put_entry : ℕ → Option (StoreRow Row) → List Cell → List Cell
put_entry p None xs = xs
put_entry p (Some e) xs = put (record { place = p; row = e.payload }) xs

abbrev pub gather : Store → List ℕ → List Cell
gather m [] = []
gather m (p ∷ ps) = put_entry p (get m p) (gather m ps)

-- the rows of a store by rising serials
unfoldable pub cells : Store → List Cell
cells m = gather m (keys m)

-- their number
abbrev pub row_count : Store → ℕ
row_count m = length (cells m)

abbrev pub CellsRise : List Cell → Type 0
CellsRise [] = Unit {0}
CellsRise (x ∷ xs) = ((y : Cell) → In y xs → num x < num y) × CellsRise xs

abbrev pub at_place : ℕ → List Cell → Option Cell
at_place p [] = None
at_place p (c ∷ cs) = cond (c.place == p) (Some c) (at_place p cs)

abbrev pub at_serial : ℕ → List Cell → Option Cell
at_serial k [] = None
at_serial k (c ∷ cs) = cond (num c == k) (Some c) (at_serial k cs)

abbrev pub place_for : List Cell → Row → Option ℕ
place_for xs r = cond (r.serial == 0) None (option_map (λ c. c.place) (at_serial r.parent xs))

-- a child of the node with serial k
abbrev pub is_under : ℕ → Cell → Bool
is_under k d = not (num d == 0) && (d.row.parent == k)

abbrev pub entry_in : List Cell → Cell → StoreRow Row
entry_in xs c = record { parent = place_for xs c.row; children = map (λ d. d.place) (filter (is_under (num c)) xs); payload = c.row }

abbrev pub Above : List Cell → Cell → Type 0
Above xs c = (d : Cell) × In d xs × (num d ≡ c.row.parent) × (num d < num c)

-- the store holds exactly these rows, linked as their serials say
pub record Shape (m : Store) (xs : List Cell) : Type 0 where
  pub gets : (p : ℕ) → get m p ≡ option_map (entry_in xs) (at_place p xs)
  pub rising : CellsRise xs
  pub apart : (a b : Cell) → In a xs → In b xs → a.place ≡ b.place → a ≡ b
  pub up : (c : Cell) → In c xs → (num c ≡ 0) ⊎ Above xs c

abbrev pub Shaped : Store → Type 0
Shaped m = Shape m (cells m)

-- R holds of the row at the place
abbrev pub AtPlace : List Cell → ℕ → (Cell → Type 0) → Type 0
AtPlace xs p R = (c : Cell) → In c xs → c.place ≡ p → R c

-- of the rows at two places
abbrev pub AtPlaces : List Cell → (p q : ℕ) → (Cell → Cell → Type 0) → Type 0
AtPlaces xs p q R = (c d : Cell) → In c xs → In d xs → c.place ≡ p → d.place ≡ q → R c d

-- of what the store has at the place, where it has something
abbrev pub AtEntry : Store → ℕ → (StoreRow Row → Type 0) → Type 0
AtEntry m p R = (e : StoreRow Row) → get m p ≡ Some e → R e

-- and it has something there
abbrev pub HasEntry : Store → ℕ → (StoreRow Row → Type 0) → Type 0
HasEntry m p R = (e : StoreRow Row) × (get m p ≡ Some e) × R e

-- the row at the place p changed by f
abbrev pub with_at : (Row → Row) → ℕ → Cell → Cell
with_at f p c = cond (c.place == p) (record { place = c.place; row = f c.row }) c

abbrev pub without : ℕ → List Cell → List Cell
without p xs = filter (λ c. not (c.place == p)) xs
