use Rattle.std.proofs.Common.{sym, ◌∙◌, ap, refl, subst}
use Rattle.node_store.specs.Rows.{changed_at, paid_by, parent_of}
use Rattle.buf_tree.specs.Rows.{covered_by}
use Rattle.buf_tree.specs.Recount.{TellsParent}
use Rattle.buf_tree.specs.Shape.{cells, AtPlace}
use Rattle.buf_tree.proofs.KeepingTops.{keeps_some}
use Rattle.buf_tree.proofs.Parents.{link_tells, no_link_tells}
use Rattle.buf_tree.proofs.Recovering.{recovered_top, recovered}
use Rattle.buf_tree.proofs.recount.recover.Goals as goal

pub returns-in_default-parent-clause-covered : goal.returns-in_default-parent-clause-covered
returns-in_default-parent-clause-covered g c = rw c.in-Some.is (λ d i e. recovered_top _ _ c.requires.shape d i (ap (parent_of (g.N.NodeStore.rows c.args.nodes.now)) e ∙ sym c.in_default-parent.ensures.value))

pub returns-in_default-parent-clause-parent : goal.returns-in_default-parent-clause-parent
returns-in_default-parent-clause-parent g c = rw c.in-Some.is (λ p e. no_link_tells _ c.requires.shape _ p e c.in_default-parent.ensures.value)

pub returns-clause-covered : goal.returns-clause-covered
returns-clause-covered g c =
    let told = keeps_some c.args.spread.now c.payload-above.result.now _ _ c.covers-covered.ensures c.roles.ensures in
    rw c.in-Some.is (λ d i e. recovered _ _ c.requires.shape d i _ (ap (parent_of (g.N.NodeStore.rows c.args.nodes.now)) e ∙ sym c.in-Some-parent.ensures.value) _ c.payload-above.ensures _ (
      (λ h. (told.0 h).1),
      (λ k. told.1 (refl, k)),
    ) _ (c.cover.ensures.rows ∙ ap (λ q. changed_at (paid_by (covered_by c.covers-covered.result)) q (g.N.NodeStore.rows c.args.nodes.now)) (sym e)))

pub returns-clause-parent : goal.returns-clause-parent
returns-clause-parent g c =
    rw c.in-Some.is
    (λ p e. subst (λ k. AtPlace (cells (g.N.NodeStore.rows c.args.nodes.now)) p (TellsParent k)) (sym c.serial-serial.ensures) (link_tells _ c.requires.shape _ p e _ c.in-Some-parent.ensures.value _ c.payload-above.ensures))
