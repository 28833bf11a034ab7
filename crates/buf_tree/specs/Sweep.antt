-- What a statement takes from the rows of its base's subtree. This follows the code: private functions alone speak of it.
use Rattle.std.specs.Prelude.{◌≡◌, ◌↔◌, ◌⊎◌, ◌+◌, ℕ, Bool, true, cond, List, [], ◌∷◌, ◌++◌, length, filter, map, Some, IsSome, vec_len}
use Rattle.std.specs.FinMap.{get}
use Rattle.std.specs.FinSet as set
use Rattle.std.specs.Global.{Vec}
use Rattle.gcx_base.specs.declared.ids.Serial.{Serial}
use Rattle.gcx_model.specs.declared.item.Off.{Off}
use Rattle.gcx_model.specs.Members.{In}
use Rattle.gcx_model.specs.Tree.{Tree, Node}
use Rattle.node_store.specs.Rows.{StoreRow, unlinked, changed_at, paid_by}
use Rattle.buf_tree.specs.Row.{Row}
use Rattle.buf_tree.specs.Rows.{IsSpare, serials, untaken}
use Rattle.buf_tree.specs.Shape.{Store, Cell, cells, Shaped, AtEntry}
use Rattle.buf_tree.specs.Purge.{Keeps, PurgedBut}
use Rattle.buf_tree.specs.Walk.{Within}
use Rattle.buf_tree.specs.Ways.{Tells, NodeOf, TreeOf, IsKept}

-- the rows, without the role k where it is lost
abbrev pub taken_by : (Cell → Bool) → ℕ → List Cell → List Cell
taken_by loses k xs = map (λ c. cond (loses c) (record { place = c.place; row = untaken k c.row }) c) xs

-- the store, without the role k at the place where it is taken there
abbrev pub taken_at : ℕ → ℕ → (taken : Bool) → Store → Store
taken_at k p taken m = cond taken (changed_at (paid_by (untaken k)) p m) m

-- at the row at the place the role is taken, where it has it and no other base keeps it
abbrev pub TakesAt : List Cell → Off → (others : Bool) → (p count : ℕ) → Type 0
TakesAt xs off others p count =
    (T : Tree) (n : Node) (c : Cell) → TreeOf xs T → NodeOf xs p n → In c xs → c.place ≡ p → (count ≡ 1) ↔ ((set.contains c.row.roles off.role.0 ≡ true) × (others ≡ true → IsKept xs T off n → ⊥))

-- The row d loses the statement's role: it is the base's row c or lies below it, has the role, and where there are other bases none of them keeps it.
pub record Loses (xs : List Cell) (T : Tree) (off : Off) (others : Bool) (c d : Cell) : Type 0 where
  pub within : Within xs c d
  pub has : set.contains d.row.roles off.role.0 ≡ true
  pub unkept : others ≡ true → (n : Node) → Tells xs d n → IsKept xs T off n → ⊥

-- each row has a node, and the test tells which rows lose the role
pub record LosesBy (xs : List Cell) (T : Tree) (off : Off) (others : Bool) (c : Cell) (loses : Cell → Bool) : Type 0 where
  pub told : (d : Cell) → In d xs → (n : Node) × Tells xs d n
  pub each : (d : Cell) → In d xs → (loses d ≡ true) ↔ Loses xs T off others c d

-- the row with the entry e at the place went where it was spare, else nothing did
abbrev pub Shed : StoreRow Row → (m0 m : Store) → (place : ℕ) → (g0 g : List ℕ) → (len0 len : ℕ) → Type 0
Shed e m0 m place g0 g len0 len =
    (IsSpare e × (m ≡ unlinked m0 place) × (g ≡ g0 ++ e.payload.serial ∷ []) × (len ≡ len0 + 1)) ⊎ ((IsSpare e → ⊥) × (m ≡ m0) × (g ≡ g0) × (len ≡ len0))

-- the row at the place went so from m0 to m, and its serial joined the departures
abbrev pub DropsSpare : (m0 m : Store) → (place : ℕ) → (before after : Vec Serial) → Type 0
DropsSpare m0 m place before after =
    AtEntry m0 place (λ e. Shed e m0 m place (serials before.items) (serials after.items) (vec_len before) (vec_len after))

-- something keeps each row that doesn't lie in the subtree of the row at the place
abbrev pub TidyOutside : List Cell → (place : ℕ) → Type 0
TidyOutside xs place = (c d : Cell) → In c xs → c.place ≡ place → In d xs → (Within xs c d → ⊥) → Keeps xs d

-- From m0 to m: the role k went from the rows that lose it, and those rows below the base at this place that nothing keeps any more went, their serials falling.
pub record Swept (m0 m : Store) (place : ℕ) (loses : Cell → Bool) (k : ℕ) (g0 g : List ℕ) (count : ℕ) : Type 0 where
  pub shape : Shaped m
  pub there : IsSome (get m place)
  pub left : (left : List ℕ) × (g ≡ g0 ++ left) × PurgedBut (Some place) (taken_by loses k (cells m0)) (cells m) left
  pub taken : count ≡ length (filter loses (cells m0))

-- and so for each test that tells which rows lose the statement's role
abbrev pub SweptBy : (m0 m : Store) → Off → (others : Bool) → (place : ℕ) → (g0 g : List ℕ) → (count : ℕ) → Type 0
SweptBy m0 m off others place g0 g count =
    (T : Tree) (c : Cell) (loses : Cell → Bool) → TreeOf (cells m0) T → In c (cells m0) → c.place ≡ place → LosesBy (cells m0) T off others c loses → Swept m0 m place loses off.role.0 g0 g count
