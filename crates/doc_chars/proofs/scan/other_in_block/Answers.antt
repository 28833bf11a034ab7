use Rattle.std.proofs.Common.{ap, sym, ◌∙◌, ◌≡◌, ◌+◌, ◌-◌, take, drop, arith}
use Rattle.std.specs.List.{list_all}
use Rattle.doc_chars.specs.Blocks.{is_plain_byte}
use Rattle.doc_chars.proofs.Blocks.{block_none}
use Rattle.doc_chars.proofs.scan.other_in_block.Goals as goal

pub returns-then-are_plain : goal.returns-then-are_plain
returns-then-are_plain c =
    let at = c.args.at in
    let bytes = c.args.bytes.now in
    let size : at + 64 - at ≡ 64 = omega arith in
    block_none bytes at (omega arith) (ap (λ n. list_all is_plain_byte (take n (drop at bytes))) (sym size) ∙ sym c.are_plain.ensures ∙ c.if-are_plain.true)
