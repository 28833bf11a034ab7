use Rattle.std.proofs.Common.{◌≡◌, Some, IsSome, sym, ap, subst, ◌∙◌, arith, max}
use Rattle.std.specs.FinMap.{get, len}
use Rattle.node_store.specs.Rows.{appended, last_of}
use Rattle.node_store.specs.Links.{rows_of, altered, joined, with_last}
use Rattle.node_store.specs.Slots.{index_of, cells_of}
use Rattle.node_store.proofs.SlabRows.{Tells, told_appended, cell_is, len_slots}
use Rattle.node_store.proofs.slab_nodes.SlabNodesNodeStore.append.Goals as goal
use Rattle.node_store.proofs.slab_nodes.SlabNodesNodeStore.append.Given.{Over}

told : (g : Over) (c : goal.After-self-1 g) → Tells c.join.new.cells (appended (rows_of (cells_of c.self.inside.cells)) c.args.parent.0 c.in_ok-place.place.0 c.args.payload) (index_of c.self.inside.root)
told g c =
    let rows = rows_of (cells_of c.self.inside.cells) in
    let used : IsSome (get rows c.args.parent.0) = subst (λ s. IsSome (get s.rows c.args.parent.0)) (sym c.self.view_is) c.requires in
    let is = cell_is c.self.inside.cells (index_of c.self.inside.root) c.self.inside.most c.self.invariant c.args.parent.0 c.cell_at.result.now c.cell_at.ensures used in
    told_appended c.self.inside.cells (index_of c.self.inside.root) c.self.inside.most c.self.invariant c.join.new.cells c.args.parent.0 c.in_ok-place.place.0
    (index_of c.cell_at.result.now.last) (index_of c.cell_at.result.now.last) c.args.payload used c.in_ok-place.ensures.free
    (λ e has.
    let same : Some is.0 ≡ Some e = sym is.1 ∙ has in
    let it : is.0 ≡ e = search same in
    ap (λ m. m.last) is.2 ∙ ap (λ y. last_of y.children) it)
    (c.join.ensures.links ∙ ap (λ l. joined (Some c.args.parent.0) (index_of c.cell_at.result.now.last) (Some c.in_ok-place.place.0) l)
    (c.set_last.ensures.links ∙ ap (altered (with_last (Some c.in_ok-place.place.0)) c.args.parent.0) c.in_ok-place.ensures.ok))

pub invariant_of-self-2 : goal.invariant_of-self-2
invariant_of-self-2 g c = (told g c).sound c.max-self-inside.result (omega (arith, c.max-self-inside.ensures, c.len.ensures))

pub returns-clause-ok : goal.returns-clause-ok
returns-clause-ok g c = (told g c).rows_are ∙ ap (λ s. appended s.rows c.args.parent.0 c.in_ok-place.place.0 c.args.payload) c.self.view_is

pub returns-clause-most : goal.returns-clause-most
returns-clause-most g c =
    c.max-self-inside.ensures
    ∙ ap (max c.self.inside.most) (c.len.ensures ∙ sym (len_slots c.join.new.cells))
    ∙ ap (λ s. max s.most (len (rows_of (cells_of c.join.new.cells)))) c.self.view_is
