use Rattle.std.proofs.Common.{◌≡◌, Some, [], sym, subst}
use Rattle.std.specs.FinMap as fin
use Rattle.node_store.specs.Rows.{StoreRow}
use Rattle.raw_nodes.proofs.raw.RawNodesNodeStore.drop_leaf.Goals as goal

pub drop_leaf-requires-clause-leaf : goal.drop_leaf-requires-clause-leaf
drop_leaf-requires-clause-leaf g c = subst (λ s. (e : StoreRow g.row.T.Denot) × (fin.get s.rows c.args.place.0 ≡ Some e) × (e.children ≡ [])) (sym c.self.view_is) c.requires
