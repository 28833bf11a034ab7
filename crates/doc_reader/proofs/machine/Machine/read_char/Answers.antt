use Rattle.std.proofs.Common.{List, [], ℕ, subst, sym}
use Rattle.doc_chars.specs.Stream.{AreChars}
use Rattle.doc_chars.proofs.Fronts.{chars_nil, chars_push}
use Rattle.doc_reader.specs.Judged.{Judged}
use Rattle.doc_reader.proofs.Judgings.{one_char}
use Rattle.doc_reader.proofs.machine.Machine.read_char.Goals as goal

pub returns : goal.returns
returns c =
    subst (λ (l : List ℕ). Judged c.read_text.result c.args.limits c.args.place c.args.self.now l c.read_text.new.self) (one_char c.args.c _ c.ranges.c.0 c.encode_utf8.ensures.value) c.read_text.ensures

pub read_text-requires-clause-chars : goal.read_text-requires-clause-chars
read_text-requires-clause-chars c = subst AreChars (sym c.encode_utf8.ensures.value) (chars_push [] c.args.c chars_nil c.requires.char)
