use Rattle.std.proofs.Common.{sym, ◌∙◌, ap}
use Rattle.std.specs.Prelude.{option_map, sum, map}
use Rattle.node_store.specs.declared.store.Place.{Place}
use Rattle.buf_tree.specs.Spread.{capped64}
use Rattle.buf_tree.specs.View.{View}
use Rattle.buf_tree.proofs.Entries.{size, told_none, told_spread, none_counted, first_num, no_rows}
use Rattle.buf_tree.proofs.Spreading.{upward}
use Rattle.buf_tree.proofs.buffer.Buffer.entries.Goals as goal

pub count_entries-requires-clause-nested : goal.count_entries-requires-clause-nested
count_entries-requires-clause-nested g c = c.self.invariant.0.ordered.nested

pub count_entries-requires-clause-first : goal.count_entries-requires-clause-first
count_entries-requires-clause-first g c d i e =
    first_num _ _ c.root.ensures.tree c.self.invariant.0.shape _ (sym c.root.ensures.value ∙ ap (option_map (λ (p : Place). p.0)) c.in-Some.is) d i e

pub returns-in-Some-clause-none : goal.returns-in-Some-clause-none
returns-in-Some-clause-none g c none =
    let shape = c.self.invariant.0.shape in
    told_none c.self.inside.spread _ (upward _ shape.rising shape.up) (ap (λ (v : View). v.spread) c.self.view_is ∙ none) _ c.count_entries.ensures
    ∙ ap (λ (v : View). capped64 (sum (map size v.rows))) c.self.view_is

pub returns-in-Some-clause-spread : goal.returns-in-Some-clause-spread
returns-in-Some-clause-spread g c some past stands =
    told_spread c.args.self.now.spread past c.args.self.now.kept some stands.kept _
    (c.count_entries.ensures ∙ ap (λ (v : View). capped64 (sum (map size v.kept))) c.self.view_is)

pub returns-in-None-clause-none : goal.returns-in-None-clause-none
returns-in-None-clause-none g c none =
    let shape = c.self.invariant.0.shape in
    let empty = no_rows _ _ c.root.ensures.tree shape (sym c.root.ensures.value ∙ ap (option_map (λ (p : Place). p.0)) c.in-None.is) in
    told_none c.self.inside.spread _ (upward _ shape.rising shape.up) (ap (λ (v : View). v.spread) c.self.view_is ∙ none) _ (none_counted _ empty)
    ∙ ap (λ (v : View). capped64 (sum (map size v.rows))) c.self.view_is

pub returns-in-None-clause-spread : goal.returns-in-None-clause-spread
returns-in-None-clause-spread g c some past stands =
    let empty = no_rows _ _ c.root.ensures.tree c.self.invariant.0.shape (sym c.root.ensures.value ∙ ap (option_map (λ (p : Place). p.0)) c.in-None.is) in
    told_spread c.args.self.now.spread past c.args.self.now.kept some stands.kept _
    (none_counted _ empty ∙ ap (λ (v : View). capped64 (sum (map size v.kept))) c.self.view_is)
