-- These definitions follow the code; no public clause speaks of them.
-- What contracts see of a reader, and what its fields keep.
use Rattle.std.specs.Prelude.{◌+◌, ◌≤◌, length}
use Rattle.doc_reader.specs.Standing.{ReaderView}
use Rattle.doc_reader.specs.declared.lent_reader.LentReader.TheInside.{Inside}

abbrev pub view_of : Inside → ReaderView
view_of r = record { limits = r.limits; state = r.machine; carry = r.chars; place = r.place; count = r.count; refused = r.refused; finished = r.finished; end_waits = r.end_waits }

-- the counts are in order and within the limit
pub record IsInOrder (r : Inside) : Type 0 where
  pub most : r.limits.bytes ≤ 1099511627776
  pub within : r.count ≤ r.limits.bytes
  pub seen : r.chars.seen ≤ r.count
  pub place : r.place + length r.chars.bytes ≤ r.count
