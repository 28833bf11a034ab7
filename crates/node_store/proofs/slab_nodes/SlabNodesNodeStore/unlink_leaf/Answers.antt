use Rattle.std.proofs.Common.{◌≡◌, Some, None, [], false, not, cond, is_some, sym, ap, subst, ◌∙◌}
use Rattle.std.specs.FinMap.{get}
use Rattle.node_store.specs.Rows.{StoreRow, unlinked}
use Rattle.node_store.specs.Links.{IsSound}
use Rattle.node_store.specs.Slots.{index_of, cells_of}
use Rattle.node_store.proofs.SlabRows.{unlinked_rows, unlinked_sound}
use Rattle.node_store.proofs.slab_nodes.SlabNodesNodeStore.unlink_leaf.Goals as goal

pub invariant_of-self : goal.invariant_of-self
invariant_of-self g c =
    let leaf = subst (λ s. (e : StoreRow g.row.T.Denot) × (get s.rows c.args.place.0 ≡ Some e) × (e.children ≡ [])) (sym c.self.view_is) c.requires in
    let none : is_some c.remove-parent.result.parent ≡ false = c.is_none.ensures ∙ ap not c.if-is_none.true in
    subst (λ b. IsSound (cells_of c.join.new.cells) (cond b (index_of c.self.inside.root) None) c.self.inside.most) none
    (unlinked_sound c.self.inside.cells (index_of c.self.inside.root) c.self.inside.most c.self.invariant c.remove-parent.new.self c.join.new.cells c.args.place.0 c.remove-parent.result
    leaf c.remove-parent.ensures.value c.remove-parent.ensures.updates c.remove-parent.ensures.len c.join.ensures.links c.join.ensures.len)

pub invariant_of-self-else-is_none : goal.invariant_of-self-else-is_none
invariant_of-self-else-is_none g c =
    let leaf = subst (λ s. (e : StoreRow g.row.T.Denot) × (get s.rows c.args.place.0 ≡ Some e) × (e.children ≡ [])) (sym c.self.view_is) c.requires in
    let some = c.is_none.ensures ∙ ap not c.if-is_none.false in
    subst (λ b. IsSound (cells_of c.join.new.cells) (cond b (index_of c.self.inside.root) None) c.self.inside.most) some
    (unlinked_sound c.self.inside.cells (index_of c.self.inside.root) c.self.inside.most c.self.invariant c.remove-parent.new.self c.join.new.cells c.args.place.0 c.remove-parent.result
    leaf c.remove-parent.ensures.value c.remove-parent.ensures.updates c.remove-parent.ensures.len c.join.ensures.links c.join.ensures.len)

pub returns-then-is_none-clause-rows : goal.returns-then-is_none-clause-rows
returns-then-is_none-clause-rows g c =
    let leaf = subst (λ s. (e : StoreRow g.row.T.Denot) × (get s.rows c.args.place.0 ≡ Some e) × (e.children ≡ [])) (sym c.self.view_is) c.requires in
    unlinked_rows c.self.inside.cells (index_of c.self.inside.root) c.self.inside.most c.self.invariant c.remove-parent.new.self c.join.new.cells c.args.place.0 c.remove-parent.result
    leaf c.remove-parent.ensures.value c.remove-parent.ensures.updates c.remove-parent.ensures.len c.join.ensures.links c.join.ensures.len
    ∙ ap (λ s. unlinked s.rows c.args.place.0) c.self.view_is

pub returns-else-is_none-clause-rows : goal.returns-else-is_none-clause-rows
returns-else-is_none-clause-rows g c =
    let leaf = subst (λ s. (e : StoreRow g.row.T.Denot) × (get s.rows c.args.place.0 ≡ Some e) × (e.children ≡ [])) (sym c.self.view_is) c.requires in
    unlinked_rows c.self.inside.cells (index_of c.self.inside.root) c.self.inside.most c.self.invariant c.remove-parent.new.self c.join.new.cells c.args.place.0 c.remove-parent.result
    leaf c.remove-parent.ensures.value c.remove-parent.ensures.updates c.remove-parent.ensures.len c.join.ensures.links c.join.ensures.len
    ∙ ap (λ s. unlinked s.rows c.args.place.0) c.self.view_is
