use Rattle.std.proofs.Common.{IsSome, sym, subst}
use Rattle.std.specs.Prelude.{IfSome}
use Rattle.std.specs.FinMap as fin
use Rattle.raw_nodes.proofs.Reading.{last_links, last_places}
use Rattle.raw_nodes.proofs.raw.RawNodesNodeStore.last.Goals as goal

pub place_at-requires-clause-used : goal.place_at-requires-clause-used
place_at-requires-clause-used g c =
    let used = subst (λ s. IsSome (fin.get s.rows c.args.place.0)) (sym c.self.view_is) c.requires in
    last_links c.self.inside.rows c.self.invariant c.args.place.0 used c.node.result.now c.node.ensures

pub returns-clause-in_use : goal.returns-clause-in_use
returns-clause-in_use g c =
    let used = subst (λ s. IsSome (fin.get s.rows c.args.place.0)) (sym c.self.view_is) c.requires in
    subst (λ s. IfSome c.place_at.result (λ p. IsSome (fin.get s.rows p.0))) c.self.view_is
    (last_places c.self.inside.rows c.self.invariant c.args.place.0 used c.node.result.now c.node.ensures c.place_at.result c.place_at.ensures)
