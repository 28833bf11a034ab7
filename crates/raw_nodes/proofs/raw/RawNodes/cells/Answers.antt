use Rattle.std.proofs.Common.{◌≤◌, arith, subst}
use Rattle.std.specs.FinMap as fin
use Rattle.raw_nodes.proofs.Reading.{links_long}
use Rattle.raw_nodes.proofs.Stored.{rows_most}
use Rattle.raw_nodes.proofs.raw.RawNodes.cells.Goals as goal

pub returns-clause-held : goal.returns-clause-held
returns-clause-held g c =
    let rows = rows_most c.self.inside.rows.heap.arena.cells in
    let long = links_long c.self.inside.rows c.self.invariant in
    subst (λ s. fin.len s.rows ≤ c.len.result) c.self.view_is (omega (arith, rows, long, c.len.ensures))
