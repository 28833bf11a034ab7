use Rattle.std.proofs.Common.{◌-◌, length}
use Rattle.std.specs.Prelude.{string_bytes}
use Rattle.xq_lex.specs.Reading.{ReadsValue}
use Rattle.xq_lex.proofs.string.string_at.Given as goal

abbrev pub invariant-loop-part : goal.invariant-loop-part
invariant-loop-part l = ReadsValue l.quote l.text (string_bytes l.value) l.count

abbrev pub decreases-loop-part : goal.decreases-loop-part
decreases-loop-part l = length l.text - l.count
