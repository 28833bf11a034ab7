use Rattle.std.proofs.Common.{rules, ◌≡◌, ◌+◌, drop, get_or, length, refl, arith}
use Rattle.doc_parts.proofs.Wholes.{closes_is}
use Rattle.doc_parts.proofs.whole_tag.closes.Goals as goal

pub returns : goal.returns
returns c = λ is.
    let name = c.args.name.now in
    let bytes = c.args.bytes.now in
    let n = length name in
    let byte : get_or bytes n 0 ≡ 62 = search rules in
    (drop (n + 1) bytes, closes_is bytes name n refl (omega arith) byte (c.same_bytes.ensures.same.0 is))
