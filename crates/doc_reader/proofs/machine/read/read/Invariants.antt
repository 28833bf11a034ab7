use denote.Shadow.{shadow}
use denote.Text.{Utf8}
use Rattle.std.proofs.Common.{length}
use Rattle.doc_chars.specs.Stream.{AreChars}
use Rattle.doc_machine.specs.Machine.{scan_state}
use Rattle.doc_reader.specs.Reading.{Reached}
use Rattle.doc_reader.proofs.machine.read.read.Given as goal

abbrev pub invariant-loop-n : goal.invariant-loop-n
invariant-loop-n l = shadow (Utf8 l.rest) × AreChars l.rest × Reached l.limits l.place (scan_state l.fn.m) l.text l.at (scan_state l.m) l.rest

abbrev pub decreases-loop-n : goal.decreases-loop-n
decreases-loop-n l = length l.rest
