use Rattle.std.proofs.Common.{leb, cond, bit_and, refl, arith}
use Rattle.std.proofs.lemmas.Simd.{length-chunk}
use lib.Lanes.{chunk}
use Rattle.doc_parts.specs.Spans.{is_short_part}
use Rattle.doc_parts.proofs.Blocks.{joined, splat_is, itself, passes_in}
use Rattle.doc_parts.proofs.lanes.letters_run.Goals as goal

pub returns : goal.returns
returns c =
    let bytes = c.args.bytes.now in
    let v = chunk 0 16 bytes in
    let long = length-chunk 0 16 bytes c.requires in
    passes_in is_short_part bytes 0 16 _ _ c.requires (omega arith) c.first_set.ensures _
    (joined bit_and _ _ v (joined (λ a b. cond (leb a b) 255 0) _ _ v (splat_is v 16 26 long) (joined _ _ _ v (itself v) (splat_is v 16 97 long)))
    (joined (λ a b. cond (leb a b) 255 0) _ _ v (splat_is v 16 10 long) (joined _ _ _ v (itself v) (splat_is v 16 48 long)))) c.type_inv.bytes refl
