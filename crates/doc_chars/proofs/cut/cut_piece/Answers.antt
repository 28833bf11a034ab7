use Rattle.std.proofs.Common.{rules, ◌≡◌, ◌<◌, ◌-◌, ◌++◌, take, length, subst, arith, true}
use Rattle.std.specs.Char.{encode_utf8}
use Rattle.gcx_base.specs.Characters.{is_char}
use Rattle.doc_chars.proofs.Bytes.{front_short}
use Rattle.doc_chars.proofs.Pieces.{longer, completed, completed_within, cut_done}
use Rattle.doc_chars.proofs.cut.cut_piece.Goals as goal

pub first_of-requires-clause-short : goal.first_of-requires-clause-short
first_of-requires-clause-short c = front_short c.args.carried.now c.requires

pub overflow_sub-len_utf8 : goal.overflow_sub-len_utf8
overflow_sub-len_utf8 c =
    let begun = c.in-Whole.ensures in
    let size : c.len_utf8.result ≡ length (encode_utf8 c.in-Whole.c) = search rules in
    let long = longer c.args.carried.now c.args.piece.now begun.0 c.in-Whole.c c.requires begun.1 in
    omega arith

pub behind-requires-in-Whole : goal.behind-requires-in-Whole
behind-requires-in-Whole c =
    let begun = c.in-Whole.ensures in
    let size : c.len_utf8.result ≡ length (encode_utf8 c.in-Whole.c) = search rules in
    let within = completed_within c.args.carried.now c.args.piece.now begun.0 c.in-Whole.c begun.1 in
    omega arith

pub returns-in-Whole : goal.returns-in-Whole
returns-in-Whole c =
    let begun = c.in-Whole.ensures in
    let carried = c.args.carried.now in
    let piece = c.args.piece.now in
    let size : length (encode_utf8 c.in-Whole.c) ≡ c.len_utf8.result = search rules in
    let within = completed_within carried piece begun.0 c.in-Whole.c begun.1 in
    let some : 0 < length carried = search rules in
    let char : is_char c.in-Whole.c ≡ true = search rules in
    let made = c.behind-in-Whole.ensures in
    cut_done carried piece c.behind-in-Whole.result c.in-Whole.c _ made.first made.used (omega arith) made.in_order made.scanned some
    (subst (λ n. encode_utf8 c.in-Whole.c ≡ carried ++ take (n - length carried) piece) size (completed carried piece begun.0 c.in-Whole.c c.requires begun.1)) char
