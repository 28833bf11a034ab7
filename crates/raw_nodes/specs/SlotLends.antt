-- What a slot ends as, once a `&mut` to its value has ended. This follows the code: only private functions speak of it.
use Rattle.std.specs.Prelude.{Option, Some}
use Rattle.std.specs.Borrow.{Fml, RattleType, MutBor, Lends}
use Rattle.raw_nodes.specs.contracts.slot.Slot.{the_row}

abbrev pub lends_held : (R : RattleType) → MutBor (Option R.Denot) → MutBor R.Denot → Fml
lends_held R s r = Lends (the_row R) R s r (λ w. Some w)
