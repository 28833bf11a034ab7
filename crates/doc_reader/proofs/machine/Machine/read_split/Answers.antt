use Rattle.std.proofs.Common.{ℕ, ◌≡◌, List, ◌++◌, length, Result, Ok, Err, subst, sym, ap, ◌∙◌, arith}
use Rattle.std.specs.Prelude.{slice_range, chars}
use Rattle.std.proofs.lemmas.Result.{err_from_is_err_and}
use Rattle.gcx_model.specs.Faults.{size}
use Rattle.doc_laws.specs.Judging.{judged_steps}
use Rattle.doc_chars.specs.Stream.{given, optional}
use Rattle.doc_chars.proofs.Streams.{are_text}
use Rattle.doc_machine.specs.declared.stop.Stop.{Stop}
use Rattle.doc_reader.specs.Piece.{ReadTo}
use Rattle.doc_parts.proofs.Reading.{size_append}
use Rattle.doc_reader.proofs.Judgings.{text_size, reads_both, stops_before, stops_behind}
use Rattle.doc_reader.proofs.machine.Machine.read_split.Goals as goal

pub from_utf8_unchecked-text-requires : goal.from_utf8_unchecked-text-requires
from_utf8_unchecked-text-requires c = are_text (slice_range c.args.piece.now c.args.split.used c.args.split.whole) c.requires.chars

pub returns-in_err-behind : goal.returns-in_err-behind
returns-in_err-behind c =
    let p = err_from_is_err_and c.from_residual.result c.from_residual.ensures.1 in
    let s : Stop = c.in_err-behind.field-0.0 in
    let all = given c.args.split c.args.piece.now in
    let text = chars (slice_range c.args.piece.now c.args.split.used c.args.split.whole) in
    subst (λ (r : Result ℕ Stop). ReadTo r c.args.limits c.args.place c.args.self.now all c.read_first.new.self) (sym (p.1 ∙ ap Err p.2))
    (stops_before c.args.limits c.args.place c.args.self.now (optional c.args.split.first) text s c.read_first.new.self c.in_err-behind.ensures.read)

pub returns-in_err-read_text : goal.returns-in_err-read_text
returns-in_err-read_text c =
    let p = err_from_is_err_and c.from_residual-in_err-read_text.result c.from_residual-in_err-read_text.ensures.1 in
    let s : Stop = c.in_err-read_text.field-0.0 in
    let all = given c.args.split c.args.piece.now in
    let first = optional c.args.split.first in
    let at = c.in_ok-behind.behind in
    let text = chars c.from_utf8_unchecked-text.result.now in
    let two = stops_behind c.args.limits c.args.place c.args.self.now first text c.read_first.new.self at c.in_ok-behind.ensures.read.1 c.in_ok-behind.ensures.read.0 s c.read_text.new.self c.in_err-read_text.ensures in
    subst (λ (r : Result ℕ Stop). ReadTo r c.args.limits c.args.place c.args.self.now all c.read_text.new.self) (sym (p.1 ∙ ap Err p.2))
    (subst (λ (l : List ℕ). ReadTo (Err s) c.args.limits c.args.place c.args.self.now (first ++ chars l) c.read_text.new.self) c.from_utf8_unchecked-text.ensures two)

pub returns : goal.returns
returns c =
    let first = optional c.args.split.first in
    let at = c.in_ok-behind.behind in
    let bytes = c.from_utf8_unchecked-text.result.now in
    let text = chars (slice_range c.args.piece.now c.args.split.used c.args.split.whole) in
    let same : chars bytes ≡ text = ap chars c.from_utf8_unchecked-text.ensures in
    let long : length bytes ≡ size text = text_size bytes c.from_utf8_unchecked-text.utf8 ∙ ap size same in (
      omega (arith, c.in_ok-behind.ensures.read.0, long, size_append first text),
      reads_both c.args.limits c.args.place c.args.self.now first text c.read_first.new.self at (Ok c.read_text.new.self) c.in_ok-behind.ensures.read.1 c.in_ok-behind.ensures.read.0
          (ap (λ l. judged_steps c.args.limits at c.read_first.new.self l) (sym same) ∙ c.in_ok-read_text.ensures),
    )
