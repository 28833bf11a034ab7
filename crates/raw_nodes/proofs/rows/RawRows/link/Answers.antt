use Rattle.std.proofs.Common.{sym, subst, IsSome}
use Rattle.raw_nodes.proofs.Stored.{alive_of, below, place_of_link}
use Rattle.raw_nodes.proofs.Looks.{look, found_living}
use Rattle.raw_nodes.proofs.rows.RawRows.link.Goals as goal

pub returns-clause-place : goal.returns-clause-place
returns-clause-place g c =
    let cells = c.args.self.now.heap.arena.cells in
    let lives = alive_of cells c.args.place.0 c.requires.used in
    place_of_link cells c.args.self.now.heap.links.items c.requires.raw.heap.apart c.requires.raw.heap.table c.args.place.0 (below cells c.args.place.0 lives) c.index.result.now c.index.ensures

pub returns-clause-found : goal.returns-clause-found
returns-clause-found g c =
    let cells = c.args.self.now.heap.arena.cells in
    let lives = alive_of cells c.args.place.0 c.requires.used in
    let at = place_of_link cells c.args.self.now.heap.links.items c.requires.raw.heap.apart c.requires.raw.heap.table c.args.place.0 (below cells c.args.place.0 lives) c.index.result.now c.index.ensures in
    found_living cells c.index.result.now (subst (λ k. IsSome (look cells k)) (sym at) lives)
