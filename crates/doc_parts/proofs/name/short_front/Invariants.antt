use Rattle.std.proofs.Common.{◌≡◌, take, true}
use Rattle.std.specs.List.{list_all}
use Rattle.doc_parts.specs.Spans.{is_short_part}
use Rattle.doc_parts.proofs.name.short_front.Given as goal

abbrev pub invariant-loop-i : goal.invariant-loop-i
invariant-loop-i l = list_all is_short_part (take l.i l.bytes) ≡ true
