use Rattle.std.proofs.Common.{◌≡◌, None, get_or, set, length, replicate, sym, ap, subst, ◌∙◌, arith, add-one}
use Rattle.raw_nodes.specs.Places.{IsFilled}
use Rattle.raw_nodes.proofs.Emptying.{emptying, emptying_at, emptying_more, emptying_all, emptying_told}
use Rattle.raw_nodes.proofs.heap.empty.Goals as goal

pub read-requires : goal.read-requires
read-requires g c =
    let inv = c.loop-index.invariant in
    let long = inv.1.2 in
    (sym c.requires.at ∙ sym inv.0, subst (λ cs. IsFilled cs c.loop-index.index) (sym inv.1.1) (emptying_at c.loop-index.index inv.1.0 (omega (arith, long))))

pub destroy-requires : goal.destroy-requires
destroy-requires g c =
    let inv = c.loop-index.invariant in
    emptying_told c.loop-index.index inv.1.0 inv.1.3 c.read.result (sym (ap (λ cs. get_or cs c.loop-index.index None) inv.1.1) ∙ c.read.ensures.value)

pub loop-index-preserved : goal.loop-index-preserved
loop-index-preserved g c =
    let inv = c.loop-index.invariant in
    let long = inv.1.2 in (
      c.read.ensures.slots.0 ∙ inv.0,
      (inv.1.0, rw add-one (c.read.ensures.slots.1 ∙ ap (λ cs. set cs c.loop-index.index None) inv.1.1 ∙ emptying_more c.loop-index.index inv.1.0 (omega (arith, long))), long, inv.1.3),
    )

pub returns-clause-empty : goal.returns-clause-empty
returns-clause-empty g c =
    let inv = c.loop-index.invariant in
    let long = inv.1.2 in
    let same : c.loop-index.index ≡ length inv.1.0 = omega (arith, long) in
    inv.1.1 ∙ ap (λ i. emptying i inv.1.0) same ∙ emptying_all inv.1.0 ∙ ap (λ n. replicate n None) long
