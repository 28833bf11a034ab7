use Rattle.std.proofs.Common.{◌≡◌, IsSome, Some, rules, refl, sym, ap, subst, ◌∙◌}
use Rattle.std.specs.Prelude.{option_map}
use Rattle.std.specs.FinMap.{get}
use Rattle.slab.specs.Slab as slab
use Rattle.node_store.specs.Rows.{changed_at, with_payload}
use Rattle.node_store.specs.Slots.{index_of}
use Rattle.node_store.proofs.SlabRows.{paid_rows, paid_sound, cell_is}
use Rattle.node_store.proofs.slab_nodes.SlabNodesNodeStore.payload_mut.Goals as goal

pub invariant_of-self-lent : goal.invariant_of-self-lent
invariant_of-self-lent g c = λ w.
    let there : slab.get c.self.inside.cells c.args.place.0 ≡ Some c.in-Some.cell.now = search rules in
    paid_sound c.self.inside.cells (index_of c.self.inside.root) c.self.inside.most c.self.invariant c.args.place.0 c.in-Some.cell.now there
    (subst (λ s. IsSome (get s.rows c.args.place.0)) (sym c.self.view_is) c.requires) w

pub returns : goal.returns
returns g c =
    let there : slab.get c.self.inside.cells c.args.place.0 ≡ Some c.in-Some.cell.now = search rules in
    let used = subst (λ s. IsSome (get s.rows c.args.place.0)) (sym c.self.view_is) c.requires in
    let is = cell_is c.self.inside.cells (index_of c.self.inside.root) c.self.inside.most c.self.invariant c.args.place.0 c.in-Some.cell.now there used in (
      (
        refl,
        λ w.
            ap (λ r. record { rows = r; root = index_of c.self.inside.root; most = c.self.inside.most })
            (paid_rows c.self.inside.cells (index_of c.self.inside.root) c.self.inside.most c.self.invariant c.args.place.0 c.in-Some.cell.now there used w)
            ∙ ap (λ s. record { rows = changed_at (with_payload w) c.args.place.0 s.rows; root = s.root; most = s.most }) c.self.view_is,
      ),
      record {
        writes_back = tt;
        value = ap (λ s. option_map (λ e. e.payload) (get s.rows c.args.place.0)) (sym c.self.view_is) ∙ ap (option_map (λ e. e.payload)) is.1 ∙ ap Some (sym (ap (λ m. m.payload) is.2));
      },
    )
