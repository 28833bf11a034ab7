-- What the cells end as, once a `&mut` into one has ended. This follows the code: only private functions speak of it.
use Rattle.std.specs.Borrow.{Fml, RattleType, MutBor, Lends}
use denote.RawPtr.{Ptr}
use Rattle.raw_nodes.specs.Spots.{written}
use Rattle.raw_nodes.specs.declared.arena.Arena.{Arena}
use Rattle.raw_nodes.specs.contracts.arena.Arena.{the_row}

abbrev pub with_written : {X : Type 0} → Arena X → Ptr → X → Arena X
with_written a p w = record { mark = a.mark; cells = written a.cells p w }

abbrev pub lends_cell : (R : RattleType) → MutBor (Arena R.Denot) → Ptr → MutBor R.Denot → Fml
lends_cell R a p r = Lends (the_row R) R a r (with_written a.now p)
