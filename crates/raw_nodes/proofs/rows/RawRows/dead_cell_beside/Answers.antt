use Rattle.std.proofs.Common.{◌≡◌, Some, None, rules, refl, arith}
use Rattle.raw_nodes.specs.Heaps.{Grows}
use Rattle.raw_nodes.specs.Steps.{Ready}
use Rattle.raw_nodes.specs.declared.rows.RawRows.{RawRows}
use Rattle.raw_nodes.proofs.Readying.{ready_old, ready_new, full_rows, ok_more}
use Rattle.raw_nodes.proofs.rows.RawRows.dead_cell_beside.Goals as goal

pub returns-in-Some-clause-ok : goal.returns-in-Some-clause-ok
returns-in-Some-clause-ok g c =
    let is : c.args.self.now.free ≡ Some c.in-Some.link = search rules in
    ready_old c.args.self.now c.requires.raw c.in-Some.link is

pub returns-in-None-clause-ok : goal.returns-in-None-clause-ok
returns-in-None-clause-ok g c =
    let new : RawRows g.row.T.Denot =
    record {
      heap = c.grow_beside.new.self;
      free = c.args.self.now.free;
      root = c.args.self.now.root;
      len = c.args.self.now.len;
      most = c.args.self.now.most;
    } in
    let is : c.args.self.now.free ≡ None = search rules in
    ok_more (λ link. Grows c.args.self.now.heap c.grow_beside.new.self link) (λ link. Ready c.args.self.now new link) c.grow_beside.result
    (λ link grows. ready_new c.args.self.now c.requires.raw new link is c.grow_beside.ensures.heap grows (refl, refl, refl)) c.grow_beside.ensures.ok

pub returns-in-None-clause-spare : goal.returns-in-None-clause-spare
returns-in-None-clause-spare g c =
    let is : c.args.self.now.free ≡ None = search rules in
    let full = full_rows c.args.self.now c.requires.raw is in
    λ less. absurd (omega (arith, full, less))
