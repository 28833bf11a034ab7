use Rattle.std.proofs.Common.{ℕ, ◌≡◌, ◌+◌, Some, subst, arith}
use Rattle.std.proofs.lemmas.Simd.{zip2_splat, length-chunk}
use lib.Lanes.{chunk}
use Rattle.memchr.specs.Find.{IsFirst, Passes, is_byte3}
use Rattle.doc_parts.proofs.Blocks.{joined, first_inside, none_inside, lane_tells}
use Rattle.doc_parts.proofs.lanes.first_in_block.Goals as goal

pub returns-then-place-lt-BLOCK : goal.returns-then-place-lt-BLOCK
returns-then-place-lt-BLOCK c =
    let x = c.args.a in
    let y = c.args.b in
    let z = c.args.c in
    let bytes = c.args.bytes.now in
    let v = chunk 0 16 bytes in
    let long = length-chunk 0 16 bytes c.requires in
    let run = c.first_set-place.result in
    let front : 0 + run ≡ run = omega arith in
    subst (λ (k : ℕ). IsFirst (Passes (is_byte3 x y z) bytes) 0 16 (Some k)) front
    (first_inside (is_byte3 x y z) bytes 0 16 _ _ c.requires (omega arith) c.first_set-place.ensures _
    (joined _ _ _ v (joined _ _ _ v (zip2_splat {Y = ℕ} _ v 16 x long) (zip2_splat {Y = ℕ} _ v 16 y long)) (zip2_splat {Y = ℕ} _ v 16 z long)) (lane_tells x y z) c.if-place-lt-BLOCK.true)

pub returns-else-place-lt-BLOCK : goal.returns-else-place-lt-BLOCK
returns-else-place-lt-BLOCK c =
    let x = c.args.a in
    let y = c.args.b in
    let z = c.args.c in
    let bytes = c.args.bytes.now in
    let v = chunk 0 16 bytes in
    let long = length-chunk 0 16 bytes c.requires in
    none_inside (is_byte3 x y z) bytes 0 16 _ _ c.requires (omega arith) c.first_set-place.ensures _
    (joined _ _ _ v (joined _ _ _ v (zip2_splat {Y = ℕ} _ v 16 x long) (zip2_splat {Y = ℕ} _ v 16 y long)) (zip2_splat {Y = ℕ} _ v 16 z long)) (lane_tells x y z) (omega (arith, c.if-place-lt-BLOCK.false))
