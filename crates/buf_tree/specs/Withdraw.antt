-- What a statement takes back at a node. This follows the code: private functions alone speak of it.
use Rattle.std.specs.Prelude.{◌≡◌, ◌↔◌, ◌⊎◌, ◌+◌, ◌++◌, ℕ, Bool, true, false, List, Option, Some, None, length, filter, map, slice_index_or}
use Rattle.std.specs.FinSet as set
use Rattle.std.specs.Global.{Vec}
use Rattle.gcx_base.specs.declared.ids.Serial.{Serial}
use Rattle.gcx_model.specs.declared.item.Off.{Off}
use Rattle.gcx_model.specs.ItemView.{off_tree}
use Rattle.gcx_model.specs.Members.{In}
use Rattle.gcx_model.specs.Placed.{is_own}
use Rattle.gcx_model.specs.Tree.{Tree}
use Rattle.node_store.specs.declared.store.Place.{Place}
use Rattle.buf_tree.specs.Rows.{serials}
use Rattle.buf_tree.specs.Shape.{Store, Cell, cells}
use Rattle.buf_tree.specs.Purge.{Purged}
use Rattle.buf_tree.specs.Recount.{Recounting, SpreadSwept, uncovered, is_lost}
use Rattle.buf_tree.specs.Spread.{SpreadView, TellsCovered, seen_rows}
use Rattle.buf_tree.specs.Ways.{TreeOf, BaseAbove, BaseBelow}
use Rattle.buf_tree.specs.View.{View, capped}
use Rattle.buf_tree.specs.Calls.{Left}
use Rattle.buf_tree.specs.Sweep.{LosesBy, Swept, taken_by}

-- the test tells which rows lose the role: where the statement reaches its base alone, the base's row c, if it has it
pub record TakesBy (xs : List Cell) (T : Tree) (off : Off) (others : Bool) (c : Cell) (loses : Cell → Bool) : Type 0 where
  pub own : is_own (off_tree off) ≡ true → (d : Cell) → In d xs → (loses d ≡ true) ↔ ((c ≡ d) × (set.contains d.row.roles off.role.0 ≡ true))
  pub rest : is_own (off_tree off) ≡ false → LosesBy xs T off others c loses

-- a test that does so, for the row at the place
pub record Taking (xs : List Cell) (p : ℕ) (off : Off) (others : Bool) : Type 0 where
  pub tree : Tree
  pub base : Cell
  pub loses : Cell → Bool
  pub told : TreeOf xs tree
  pub among : In base xs
  pub place : base.place ≡ p
  pub each : TakesBy xs tree off others base loses

-- another base may keep the statement's role: above the row or below it stands one at which the statement isn't signed; `alone` says that none can, as the path of the bases has no descendant step
abbrev pub MayKeep : (alone : Bool) → List Cell → Off → Cell → Type 0
MayKeep alone xs off c = (alone ≡ false) × (is_own (off_tree off) ≡ false) × (BaseAbove xs off c ⊎ BaseBelow xs off c)

-- whether it may for the row at the place
abbrev pub TellsKeepers : (alone : Bool) → List Cell → ℕ → Off → Bool → Type 0
TellsKeepers alone xs p off others = (c : Cell) → In c xs → c.place ≡ p → (others ≡ true) ↔ MayKeep alone xs off c

-- for a spread role the statement that reaches its tops alone
abbrev pub top_for : Option SpreadView → Off → Option Off
top_for None off = None
top_for (Some s) off = slice_index_or s.tops off.role.0 None

-- the statement with whose steps rows are walked
abbrev pub walked_from : Option Off → Off → Off
walked_from None off = off
walked_from (Some top) off = top

-- a test of the rows that lose the role, or, of a spread one, of those that keep it no more
abbrev pub TakingFrom : Option Off → List Cell → ℕ → Off → Bool → Type 0
TakingFrom None xs p off others = Taking xs p off others
TakingFrom (Some top) xs p off others = Recounting xs p top others

-- from the store m0 to m: the role k is taken from the rows that lose it, and what nothing keeps then leaves, falling
pub record TakenBack (m0 m : Store) (loses : Cell → Bool) (k : ℕ) (g0 g : List ℕ) (count : ℕ) : Type 0 where
  pub left : (left : List ℕ) × (g ≡ g0 ++ left) × Purged (taken_by loses k (cells m0)) (cells m) left
  pub taken : count ≡ length (filter loses (cells m0))

-- The same of a spread role, which these rows keep no more: `between` are the rows before what nothing keeps leaves.
pub record SpreadBack (s : Option SpreadView) (m0 m : Store) (loses : Cell → Bool) (k : ℕ) (g0 g : List ℕ) (count : ℕ) : Type 0 where
  pub between : List Cell
  pub rows : map uncovered between ≡ map uncovered (taken_by loses k (cells m0))
  pub covers : TellsCovered s between
  pub left : (left : List ℕ) × (g ≡ g0 ++ left) × Purged between (cells m) left
  pub taken : count ≡ length (filter (is_lost k (seen_rows s between)) (seen_rows s (cells m0)))

-- R holds of each test that tells which rows lose the role
abbrev pub ForLosing : List Cell → Place → Off → (others : Bool) → ((Cell → Bool) → Type 0) → Type 0
ForLosing xs place off others R = (t : Taking xs place.0 off others) → R t.loses

-- the role is spread, and R holds of each test that tells which rows keep it no more
abbrev pub ForSpread : Option SpreadView → List Cell → Place → Off → (others : Bool) → ((Cell → Bool) → Type 0) → Type 0
ForSpread s xs place off others R = (top : Off) → top_for s off ≡ Some top → (t : Recounting xs place.0 top others) → R t.loses

-- the role of a statement is taken, and what nothing keeps below the base goes: a role that is kept at each row that has it
abbrev pub TakesPlain : Off → (others : Bool) → Place → (m0 m : Store) → (before after : Vec Serial) → (count : ℕ) → Type 0
TakesPlain off others place m0 m before after count =
    ForLosing (cells m0) place off others (λ loses. Swept m0 m place.0 loses off.role.0 (serials before.items) (serials after.items) count)

-- so if the role isn't spread
abbrev pub TakesIf : Option SpreadView → Off → (others : Bool) → Place → (m0 m : Store) → (before after : Vec Serial) → (count : ℕ) → Type 0
TakesIf s off others place m0 m before after count = top_for s off ≡ None → TakesPlain off others place m0 m before after count

-- the same, where some roles are spread
abbrev pub TakesIn : SpreadView → Off → (others : Bool) → Place → (m0 m : Store) → (before after : Vec Serial) → (count : ℕ) → Type 0
TakesIn s off others place m0 m before after count = TakesIf (Some s) off others place m0 m before after count

-- and if it is spread
abbrev pub TakesSpread : Option SpreadView → Off → (others : Bool) → Place → (m0 m : Store) → (before after : Vec Serial) → (count : ℕ) → Type 0
TakesSpread s off others place m0 m before after count =
    ForSpread s (cells m0) place off others (λ loses. SpreadSwept s m0 m place.0 loses off.role.0 (serials before.items) (serials after.items) count)

-- the role is taken, and all goes that nothing keeps then: of a role that isn't spread
abbrev pub Withdraws : Option SpreadView → Off → (others : Bool) → Place → (m0 m : Store) → (before after : Vec Serial) → (count : ℕ) → Type 0
Withdraws s off others place m0 m before after count =
    top_for s off ≡ None → ForLosing (cells m0) place off others (λ loses. TakenBack m0 m loses off.role.0 (serials before.items) (serials after.items) count)

-- and of one that is
abbrev pub WithdrawsSpread : Option SpreadView → Off → (others : Bool) → Place → (m0 m : Store) → (before after : Vec Serial) → (count : ℕ) → Type 0
WithdrawsSpread s off others place m0 m before after count =
    ForSpread s (cells m0) place off others (λ loses. SpreadBack s m0 m loses off.role.0 (serials before.items) (serials after.items) count)

-- what is taken back from the rows that contracts see
pub record SeenTaken (s : Option SpreadView) (m0 m : Store) (loses : Cell → Bool) (k : ℕ) (g0 g : List ℕ) (count : ℕ) : Type 0 where
  pub left : (left : List ℕ) × (g ≡ g0 ++ left) × Purged (taken_by loses k (seen_rows s (cells m0))) (seen_rows s (cells m)) left
  pub taken : count ≡ length (filter loses (seen_rows s (cells m0)))

-- what is taken back from a buffer
pub record Withdrawn (v w : View) (loses : Cell → Bool) (k : ℕ) : Type 0 where
  pub leaves : Left v w (taken_by loses k v.rows)
  pub taken : w.taken ≡ capped (v.taken + length (filter loses v.rows))
  pub waiting : w.waiting ≡ v.waiting
  pub nodes : w.nodes ≡ v.nodes
  pub most : w.most ≡ v.most
  pub loans : w.loans ≡ v.loans
  pub spread : w.spread ≡ v.spread
