use Rattle.std.proofs.Common.{◌+◌, ◌-◌, ◌++◌, ℕ, List, take, drop, length, ap, sym, subst, arith, length-append, length-drop}
use Rattle.std.proofs.lemmas.List.{take_rest}
use Rattle.doc_chars.specs.declared.chars.CharFault.{CharFault}
use Rattle.doc_chars.specs.Stream.{Carry, IsCharFront, StandsFor, Breaks, still_carried}
use Rattle.doc_chars.proofs.Bytes.{front_short}
use Rattle.doc_chars.proofs.Streams.{are_text, left_front, left_bytes, kept_count, kept_below, cut_given, goes_on, breaks}
use Rattle.doc_chars.proofs.chars.Chars.split.Goals as goal

pub returns-in-Some-clause-within : goal.returns-in-Some-clause-within
returns-in-Some-clause-within c = (c.cut_piece-cut.ensures.in_order, c.cut_piece-cut.ensures.within)

pub returns-in-None-clause-within : goal.returns-in-None-clause-within
returns-in-None-clause-within c = (c.cut_piece-cut.ensures.in_order, c.cut_piece-cut.ensures.within)

pub returns-in-Some-clause-text : goal.returns-in-Some-clause-text
returns-in-Some-clause-text c = are_text _ c.cut_piece-cut.ensures.chars

pub returns-in-None-clause-text : goal.returns-in-None-clause-text
returns-in-None-clause-text c = are_text _ c.cut_piece-cut.ensures.chars

pub returns-in-Some-clause-stream : goal.returns-in-Some-clause-stream
returns-in-Some-clause-stream c b cs s =
    let a = c.self.inside in
    let carry : Carry = record { bytes = take a.count a.bytes; seen = a.seen } in
    let cut = c.cut_piece-cut.result in
    let room = c.self.invariant.room in
    let kept = kept_count cut.first c.still-kept.result a.count a.bytes c.still-kept.ensures (omega arith) in
    subst (λ (f : CharFault). Breaks (b ++ c.args.piece.now) (cs ++ cut_given c.args.piece.now cut) f) (sym c.at.ensures)
    (breaks carry c.args.piece.now cut c.cut_piece-cut.ensures b cs (subst (λ (v : Carry). StandsFor v b cs) (sym c.self.view_is) s)
    c.in-Some.cause _ c.in-Some.is (ap (λ n. a.seen - n + cut.whole) (sym kept)))

pub returns-in-None-clause-stream : goal.returns-in-None-clause-stream
returns-in-None-clause-stream c b cs s =
    let a = c.self.inside in
    let carry : Carry = record { bytes = take a.count a.bytes; seen = a.seen } in
    let cut = c.cut_piece-cut.result in
    let left = left_bytes cut c.args.piece.now a.bytes _ c.still-kept.result a.count c.still-kept.ensures c.keep-self-inside.ensures.bytes in
    subst (λ (l : List ℕ). StandsFor (record { bytes = l; seen = a.seen + length c.args.piece.now }) (b ++ c.args.piece.now) (cs ++ cut_given c.args.piece.now cut)) (sym left)
    (goes_on carry c.args.piece.now cut c.cut_piece-cut.ensures b cs (subst (λ (v : Carry). StandsFor v b cs) (sym c.self.view_is) s) c.in-None.is)

pub keep-self-inside-requires : goal.keep-self-inside-requires
keep-self-inside-requires c =
    let a = c.self.inside in
    let cut = c.cut_piece-cut.result in
    let carried = take a.count a.bytes in
    let short = front_short _ (left_front carried c.args.piece.now cut c.cut_piece-cut.ensures c.in-None.is) in
    let kept = kept_count cut.first c.still-kept.result a.count a.bytes c.still-kept.ensures (omega arith) in
    let rest = ap length (take_rest c.args.piece.now cut.whole) in
    omega (arith, short, kept, rest, length-append (still_carried cut.first carried) (drop cut.whole c.args.piece.now))

pub invariant_of-self : goal.invariant_of-self
invariant_of-self c =
    let a = c.self.inside in
    let cut = c.cut_piece-cut.result in
    let piece = c.args.piece.now in
    let left = left_bytes cut piece a.bytes _ c.still-kept.result a.count c.still-kept.ensures c.keep-self-inside.ensures.bytes in
    let front = left_front (take a.count a.bytes) piece cut c.cut_piece-cut.ensures c.in-None.is in
    let short = front_short _ front in
    let kept = kept_count cut.first c.still-kept.result a.count a.bytes c.still-kept.ensures (omega arith) in
    let rest = ap length (take_rest piece cut.whole) in
    let few = kept_below cut.first c.still-kept.result a.count c.still-kept.ensures in
    let count = c.keep-self-inside.ensures.count in
    let seen = c.self.invariant.seen in
    let within = c.cut_piece-cut.ensures.within in
    let parts = length-append (still_carried cut.first (take a.count a.bytes)) (drop cut.whole piece) in
    record {
      front = subst IsCharFront (sym left) front;
      room = omega (arith, count, short, kept, rest, parts);
      seen = omega (arith, count, few, seen, within, rest, length-drop cut.whole piece);
    }
