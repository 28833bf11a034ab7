use Rattle.std.proofs.Common.{Option, Some, sym, ap, subst, ◌∙◌}
use Rattle.raw_nodes.specs.Spots.{updated}
use Rattle.raw_nodes.specs.Edits.{to_row}
use Rattle.raw_nodes.specs.Raw.{raw_of, IsRaw}
use Rattle.raw_nodes.specs.Steps.{Plants}
use Rattle.raw_nodes.specs.declared.arena.Link.{Link}
use Rattle.raw_nodes.specs.declared.rows.RawRows.{RawRows}
use Rattle.raw_nodes.proofs.Placed.{found_placed}
use Rattle.raw_nodes.proofs.Stored.{number_is}
use Rattle.raw_nodes.proofs.Changing.{link_found, no_payload, plant_raw, plants}
use Rattle.raw_nodes.proofs.rows.RawRows.plant.Goals as goal

pub follow-dead-requires : goal.follow-dead-requires
follow-dead-requires g c = link_found c.args.self.now c.dead_cell.new.self c.requires.raw c.in-Ok.link c.in-Ok.ensures.ok

pub set_row-requires : goal.set_row-requires
set_row-requires g c =
    (c.follow-dead.result.now, c.follow-dead.ensures, no_payload c.args.self.now c.dead_cell.new.self c.requires.raw c.in-Ok.link c.in-Ok.ensures.ok c.follow-dead.result.now c.follow-dead.ensures)

pub to-self-requires : goal.to-self-requires
to-self-requires g c =
    found_placed c.dead_cell.new.self.heap.arena.cells c.in-Ok.link.ptr c.in-Ok.ensures.ok.heap.placed (link_found c.args.self.now c.dead_cell.new.self c.requires.raw c.in-Ok.link c.in-Ok.ensures.ok)

pub returns-in-Ok-clause-raw : goal.returns-in-Ok-clause-raw
returns-in-Ok-clause-raw g c =
    let now : Option Link → RawRows g.row.T.Denot =
    λ root. record {
      heap = record { arena = c.set_row.new.arena; blocks = c.dead_cell.new.self.heap.blocks; links = c.dead_cell.new.self.heap.links; alloc = c.dead_cell.new.self.heap.alloc };
      free = c.follow-dead.result.now.next;
      root = root;
      len = 1;
      most = c.max-self.result;
    } in
    subst (λ root. IsRaw (now root)) (sym c.to-self.ensures)
    (plant_raw c.args.self.now c.dead_cell.new.self c.requires.raw c.in-Ok.link c.in-Ok.ensures.ok c.follow-dead.result.now c.follow-dead.ensures c.dead_cell.new.like
    c.requires.empty c.set_row.new.arena (c.set_row.ensures ∙ ap (λ l. updated (to_row l l c.dead_cell.new.like) c.dead_cell.new.self.heap.arena.cells c.in-Ok.link.ptr) c.none-nothing.ensures) c.max-self.result c.max-self.ensures)

pub returns-in-Ok-clause-ok : goal.returns-in-Ok-clause-ok
returns-in-Ok-clause-ok g c =
    let now : Option Link → RawRows g.row.T.Denot =
    λ root. record {
      heap = record { arena = c.set_row.new.arena; blocks = c.dead_cell.new.self.heap.blocks; links = c.dead_cell.new.self.heap.links; alloc = c.dead_cell.new.self.heap.alloc };
      free = c.follow-dead.result.now.next;
      root = root;
      len = 1;
      most = c.max-self.result;
    } in
    subst (λ x. Plants (raw_of c.args.self.now) (raw_of (now c.to-self.result)) c.follow-dead.result.now.number x) c.dead_cell.ensures.like
    (subst (λ root. Plants (raw_of c.args.self.now) (raw_of (now root)) c.follow-dead.result.now.number c.dead_cell.new.like) (sym c.to-self.ensures)
    (subst (λ p. Plants (raw_of c.args.self.now) (raw_of (now (Some c.in-Ok.link))) p c.dead_cell.new.like)
    (sym (number_is c.dead_cell.new.self.heap.arena.cells c.in-Ok.ensures.ok.heap.numbered c.in-Ok.link.ptr c.follow-dead.result.now c.follow-dead.ensures))
    (plants c.args.self.now c.dead_cell.new.self c.requires.raw c.in-Ok.link c.in-Ok.ensures.ok c.follow-dead.result.now c.follow-dead.ensures c.dead_cell.new.like
    c.requires.empty c.set_row.new.arena (c.set_row.ensures ∙ ap (λ l. updated (to_row l l c.dead_cell.new.like) c.dead_cell.new.self.heap.arena.cells c.in-Ok.link.ptr) c.none-nothing.ensures) c.max-self.result c.max-self.ensures)))
