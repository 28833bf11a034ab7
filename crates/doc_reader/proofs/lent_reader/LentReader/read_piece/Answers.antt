use Rattle.std.proofs.Common.{◌≡◌, ◌+◌, ◌≤◌, ◌++◌, length, Option, Result, Ok, Err, refl, sym, ap, ◌∙◌, subst, arith, length-append}
use Rattle.std.specs.Prelude.{IfNone, drop}
use Rattle.std.proofs.lemmas.Result.{err_from_is_err_and}
use Rattle.gcx_model.specs.declared.fault.DocFault.{DocFault}
use Rattle.doc_chars.specs.declared.chars.CharFault.{CharFault}
use Rattle.doc_chars.specs.Stream.{given, still_carried, GoesOn}
use Rattle.doc_reader.specs.Standing.{ReaderView, IsReading}
use Rattle.doc_reader.specs.Inside.{view_of}
use Rattle.doc_reader.specs.Piece.{Took}
use Rattle.doc_reader.proofs.Counts.{in_order, given_size}
use Rattle.doc_reader.proofs.Pieces.{took_stop, took_breaks, took_reads}
use Rattle.doc_reader.proofs.Ties.{parts_of}
use Rattle.doc_reader.proofs.lent_reader.LentReader.read_piece.Goals as goal

pub read_split-requires-clause-in_order : goal.read_split-requires-clause-in_order
read_split-requires-clause-in_order c = c.split-split.ensures.within.0

pub read_split-requires-clause-within : goal.read_split-requires-clause-within
read_split-requires-clause-within c = c.split-split.ensures.within.1

pub invariant_of-self : goal.invariant_of-self
invariant_of-self c =
    let a = c.self.inside in
    let split = c.split-split.result in
    let piece = c.args.piece.now in
    let fits : a.count + length piece ≤ a.limits.bytes = subst (λ (v : ReaderView). v.count + length piece ≤ v.limits.bytes) (sym c.self.view_is) c.requires in
    let next = in_order split.fault a.chars c.split-split.new.self split.first split.whole piece a.count a.place c.split-split.ensures.carried c.split-split.ensures.seen c.split-split.ensures.kept c.self.invariant.seen c.self.invariant.place in
    record { most = c.self.invariant.most; within = fits; seen = next.0; place = next.1 }

pub invariant_of-self-in-None : goal.invariant_of-self-in-None
invariant_of-self-in-None c =
    let a = c.self.inside in
    let split = c.split-split.result in
    let piece = c.args.piece.now in
    let none = c.in-None.is in
    let fits : a.count + length piece ≤ a.limits.bytes = subst (λ (v : ReaderView). v.count + length piece ≤ v.limits.bytes) (sym c.self.view_is) c.requires in
    let next = in_order split.fault a.chars c.split-split.new.self split.first split.whole piece a.count a.place c.split-split.ensures.carried c.split-split.ensures.seen c.split-split.ensures.kept c.self.invariant.seen c.self.invariant.place in
    let carried = subst (λ (o : Option CharFault). IfNone o (c.split-split.new.self.bytes ≡ still_carried split.first a.chars.bytes ++ drop split.whole piece)) none c.split-split.ensures.carried in
    let sizes = given_size split a.chars.bytes piece c.split-split.ensures.within.0 c.split-split.ensures.within.1 c.split-split.ensures.text c.split-split.ensures.first in
    record { most = c.self.invariant.most; within = fits; seen = next.0; place = omega (arith, c.in_ok-place.ensures.0, sizes, ap length carried, c.self.invariant.place) }

pub returns-in_err-place-clause-took : goal.returns-in_err-place-clause-took
returns-in_err-place-clause-took c b before r =
    let a = c.self.inside in
    let old = view_of a in
    let piece = c.args.piece.now in
    let split = c.split-split.result in
    let ds = given split piece in
    let new : ReaderView = record { limits = a.limits; state = c.read_split.new.self; carry = c.split-split.new.self; place = a.place; count = a.count + length piece; refused = a.refused; finished = a.finished; end_waits = a.end_waits } in
    let reading : IsReading old a.limits b before = subst (λ (v : ReaderView). IsReading v v.limits b before) (sym c.self.view_is) r in
    let fits : a.count + length piece ≤ a.limits.bytes = subst (λ (v : ReaderView). v.count + length piece ≤ v.limits.bytes) (sym c.self.view_is) c.requires in
    let within : length (b ++ piece) ≤ a.limits.bytes = omega (arith, length-append b piece, fits, reading.count) in
    let p = err_from_is_err_and c.from_residual.result c.from_residual.ensures.1 in
    let parts = parts_of split.fault c.split-split.new.self (b ++ piece) (reading.chars ++ ds) (c.split-split.ensures.stream b reading.chars reading.stream) in
    subst (λ (v : ReaderView). Took c.from_residual.result new v.limits (b ++ piece) before) c.self.view_is
    (subst (λ (q : Result (Unit {0}) DocFault). Took q new a.limits (b ++ piece) before) (sym (p.1 ∙ ap Err p.2))
    (took_stop old new a.limits b piece before ds c.in_err-place.field-0.0 reading within parts c.in_err-place.ensures))

pub returns-in-Some-clause-took : goal.returns-in-Some-clause-took
returns-in-Some-clause-took c b before r =
    let a = c.self.inside in
    let old = view_of a in
    let piece = c.args.piece.now in
    let split = c.split-split.result in
    let ds = given split piece in
    let new : ReaderView = record { limits = a.limits; state = c.read_split.new.self; carry = c.split-split.new.self; place = a.place; count = a.count + length piece; refused = a.refused; finished = a.finished; end_waits = a.end_waits } in
    let reading : IsReading old a.limits b before = subst (λ (v : ReaderView). IsReading v v.limits b before) (sym c.self.view_is) r in
    let fits : a.count + length piece ≤ a.limits.bytes = subst (λ (v : ReaderView). v.count + length piece ≤ v.limits.bytes) (sym c.self.view_is) c.requires in
    let within : length (b ++ piece) ≤ a.limits.bytes = omega (arith, length-append b piece, fits, reading.count) in
    subst (λ (v : ReaderView). Took {T = Unit {0}} (Err c.char_fault.result) new v.limits (b ++ piece) before) c.self.view_is
    (subst (λ (f : DocFault). Took {T = Unit {0}} (Err f) new a.limits (b ++ piece) before) (sym c.char_fault.ensures)
    (took_breaks old new a.limits b piece before ds c.in-Some.fault reading within
    (subst (λ (o : Option CharFault). GoesOn o c.split-split.new.self (b ++ piece) (reading.chars ++ ds)) c.in-Some.is (c.split-split.ensures.stream b reading.chars reading.stream)) c.in_ok-place.ensures.1))

pub returns-in-None-clause-took : goal.returns-in-None-clause-took
returns-in-None-clause-took c b before r =
    let a = c.self.inside in
    let old = view_of a in
    let piece = c.args.piece.now in
    let split = c.split-split.result in
    let ds = given split piece in
    let new : ReaderView = record { limits = a.limits; state = c.read_split.new.self; carry = c.split-split.new.self; place = c.in_ok-place.place; count = a.count + length piece; refused = a.refused; finished = a.finished; end_waits = a.end_waits } in
    let reading : IsReading old a.limits b before = subst (λ (v : ReaderView). IsReading v v.limits b before) (sym c.self.view_is) r in
    let fits : a.count + length piece ≤ a.limits.bytes = subst (λ (v : ReaderView). v.count + length piece ≤ v.limits.bytes) (sym c.self.view_is) c.requires in
    let within : length (b ++ piece) ≤ a.limits.bytes = omega (arith, length-append b piece, fits, reading.count) in
    subst (λ (v : ReaderView). Took {T = Unit {0}} (Ok tt) new v.limits (b ++ piece) before) c.self.view_is
    (took_reads old new a.limits b piece before ds reading within
    (subst (λ (o : Option CharFault). GoesOn o c.split-split.new.self (b ++ piece) (reading.chars ++ ds)) c.in-None.is (c.split-split.ensures.stream b reading.chars reading.stream))
    c.in_ok-place.ensures.1 c.in_ok-place.ensures.0 refl)
