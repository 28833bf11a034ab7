use Rattle.std.proofs.Common.{◌≡◌, ◌+◌, ◌<◌, Some, None, set, slice_index_or, sym, ap, subst, ◌∙◌, arith, length, add-one}
use Rattle.std.specs.Prelude.{IfSome}
use Rattle.raw_nodes.specs.Spots.{IsInSomeBlock}
use Rattle.raw_nodes.specs.Nodes.{dead_node}
use Rattle.raw_nodes.proofs.Placed.{link_placed}
use Rattle.raw_nodes.proofs.Filling.{filling, filling_none, filling_long, filling_more, filling_all}
use Rattle.raw_nodes.proofs.heap.fill.Goals as goal

pub of-own-requires : goal.of-own-requires
of-own-requires g c = subst (λ o. IfSome o (λ l. IsInSomeBlock l.ptr)) (sym c.link_at-this.ensures) (link_placed c.args.links.now c.loop-index.index c.requires.placed)

pub of-next-requires : goal.of-next-requires
of-next-requires g c = subst (λ o. IfSome o (λ l. IsInSomeBlock l.ptr)) (sym c.link_at-later.ensures) (link_placed c.args.links.now (c.loop-index.index + 1) c.requires.placed)

pub write-requires : goal.write-requires
write-requires g c =
    let T = g.row.T.Denot in
    let in_range : c.loop-index.index < length c.loop-index.cells.slots =
    omega (arith, ap length c.loop-index.invariant.1, filling_long T c.loop-index.index c.args.first c.args.links.now) in
    (sym c.requires.at ∙ sym c.loop-index.invariant.0, in_range, ap (λ xs. slice_index_or xs c.loop-index.index None) c.loop-index.invariant.1 ∙ filling_none T c.loop-index.index c.args.first c.args.links.now)

pub loop-index-preserved : goal.loop-index-preserved
loop-index-preserved g c =
    let T = g.row.T.Denot in
    let link = rw add-one at c.link_at-later.ensures in
    let own = c.of-own.ensures ∙ c.link_at-this.ensures in
    let next = c.of-next.ensures ∙ link in
    let wrote = filling_more T c.loop-index.index c.args.first c.args.links.now (omega arith) in (
      c.write.ensures.0 ∙ c.loop-index.invariant.0,
      rw add-one (c.write.ensures.1
          ∙ ap (λ xs. set xs c.loop-index.index (Some c.dead.result)) c.loop-index.invariant.1
          ∙ ap (λ n. set (filling T c.loop-index.index c.args.first c.args.links.now) c.loop-index.index (Some n)) (c.dead.ensures.node ∙ (λ i. dead_node (c.args.first + c.loop-index.index) (own i) (next i)))
          ∙ wrote),
      c.dead.ensures.blank,
    )

pub returns-clause-filled : goal.returns-clause-filled
returns-clause-filled g c =
    let T = g.row.T.Denot in
    let same : c.loop-index.index ≡ length c.args.links.now = omega arith in
    c.loop-index.invariant.1 ∙ ap (λ i. filling T i c.args.first c.args.links.now) same ∙ filling_all T c.args.first c.args.links.now
