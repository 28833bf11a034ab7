use Rattle.std.proofs.Common.{IsSome, sym, subst}
use Rattle.std.specs.Prelude.{IfSome}
use Rattle.std.specs.FinMap.{get}
use Rattle.node_store.specs.Slots.{index_of}
use Rattle.node_store.proofs.SlabRows.{prev_used}
use Rattle.node_store.proofs.slab_nodes.SlabNodesNodeStore.prev.Goals as goal

pub returns-clause-in_use : goal.returns-clause-in_use
returns-clause-in_use g c =
    subst (λ s. IfSome c.cell_at.result.now.prev (λ p. IsSome (get s.rows p.0))) c.self.view_is
    (prev_used c.self.inside.cells (index_of c.self.inside.root) c.self.inside.most c.self.invariant c.args.place.0 c.cell_at.result.now c.cell_at.ensures
    (subst (λ s. IsSome (get s.rows c.args.place.0)) (sym c.self.view_is) c.requires))
