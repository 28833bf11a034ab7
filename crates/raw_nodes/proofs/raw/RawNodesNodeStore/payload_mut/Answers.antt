use Rattle.std.proofs.Common.{IsSome, rules, refl, sym, ap, subst, ◌∙◌}
use Rattle.std.specs.Prelude.{option_map}
use Rattle.std.specs.FinMap as fin
use Rattle.node_store.specs.Rows.{changed_at, with_payload}
use Rattle.node_store.proofs.Maps.{some_row}
use Rattle.raw_nodes.specs.Raw.{raw_of}
use Rattle.raw_nodes.proofs.Unlinking.{leaf_paid, paid_raw, paid_rows, paid_root, paid_long}
use Rattle.raw_nodes.proofs.raw.RawNodesNodeStore.payload_mut.Goals as goal

pub payload_mut-requires : goal.payload_mut-requires
payload_mut-requires g c =
    let e = some_row (fin.get (raw_of c.self.inside.rows).rows c.args.place.0) (subst (λ s. IsSome (fin.get s.rows c.args.place.0)) (sym c.self.view_is) c.requires) in
    subst (λ o. IsSome o) (sym (leaf_paid c.self.inside.rows c.self.invariant c.args.place.0 c.link-link.result c.link-link.ensures.place e.0 e.1 c.follow_mut.result.now c.follow_mut.ensures.value)) (search rules)

pub invariant_of-self-lent : goal.invariant_of-self-lent
invariant_of-self-lent g c = λ w.
    let e = some_row (fin.get (raw_of c.self.inside.rows).rows c.args.place.0) (subst (λ s. IsSome (fin.get s.rows c.args.place.0)) (sym c.self.view_is) c.requires) in
    paid_raw c.self.inside.rows c.self.invariant c.args.place.0 c.link-link.result c.link-link.ensures.place e.0 e.1 c.follow_mut.result.now c.follow_mut.ensures.value w

pub returns : goal.returns
returns g c =
    let e = some_row (fin.get (raw_of c.self.inside.rows).rows c.args.place.0) (subst (λ s. IsSome (fin.get s.rows c.args.place.0)) (sym c.self.view_is) c.requires) in (
      (
        refl,
        λ w.
            (λ i. record {
              rows = paid_rows c.self.inside.rows c.self.invariant c.args.place.0 c.link-link.result c.link-link.ensures.place e.0 e.1 c.follow_mut.result.now c.follow_mut.ensures.value w i;
              root = paid_root c.self.inside.rows c.self.invariant c.args.place.0 c.link-link.result c.link-link.ensures.place e.0 e.1 c.follow_mut.result.now c.follow_mut.ensures.value w i;
              most = c.self.inside.rows.most;
              cells = paid_long c.self.inside.rows c.self.invariant c.args.place.0 c.link-link.result c.link-link.ensures.place e.0 e.1 c.follow_mut.result.now c.follow_mut.ensures.value w i;
            })
            ∙ ap (λ s. record { rows = changed_at (with_payload w) c.args.place.0 s.rows; root = s.root; most = s.most; cells = s.cells }) c.self.view_is,
      ),
      record {
        writes_back = tt;
        value = ap (λ s. option_map (λ e. e.payload) (fin.get s.rows c.args.place.0)) (sym c.self.view_is) ∙ ap (option_map (λ e. e.payload)) e.1
            ∙ sym (leaf_paid c.self.inside.rows c.self.invariant c.args.place.0 c.link-link.result c.link-link.ensures.place e.0 e.1 c.follow_mut.result.now c.follow_mut.ensures.value) ∙ c.payload_mut.ensures.value;
      },
    )
