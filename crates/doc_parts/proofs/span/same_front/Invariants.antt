use Rattle.std.proofs.Common.{◌≡◌, take, true}
use Rattle.std.specs.List.{list_all}
use Rattle.doc_parts.specs.Spans.{is_ascii_byte}
use Rattle.doc_parts.proofs.span.same_front.Given as goal

abbrev pub invariant-loop-i : goal.invariant-loop-i
invariant-loop-i l = record { same : take l.i l.left ≡ take l.i l.bytes; ascii : list_all is_ascii_byte (take l.i l.bytes) ≡ true }
