use Rattle.std.proofs.Common.{◌+◌, IsSome, sym, subst}
use Rattle.std.specs.Prelude.{IfSome}
use Rattle.raw_nodes.specs.Spots.{found}
use Rattle.raw_nodes.specs.Raw.{raw_of}
use Rattle.raw_nodes.specs.Steps.{Appends}
use Rattle.raw_nodes.specs.declared.rows.RawRows.{RawRows}
use Rattle.raw_nodes.proofs.Placed.{found_placed}
use Rattle.raw_nodes.proofs.Reading.{row_node}
use Rattle.raw_nodes.proofs.Stored.{number_is}
use Rattle.raw_nodes.proofs.Updates.{row_put, last_put, child_put}
use Rattle.raw_nodes.proofs.Changing.{link_found, no_payload, up_found, up_found_two, parent_found_three, last_found_three, link_found_three, append_raw, appends, room}
use Rattle.raw_nodes.proofs.rows.RawRows.append.Goals as goal

pub dead_cell_beside-requires-clause-row : goal.dead_cell_beside-requires-clause-row
dead_cell_beside-requires-clause-row g c = row_node c.args.self.now.heap.arena.cells c.args.parent.0 c.link-up.result c.link-up.ensures.place c.requires.used

pub follow-dead-requires : goal.follow-dead-requires
follow-dead-requires g c = link_found c.args.self.now c.dead_cell_beside.new.self c.requires.raw c.in-Ok.link c.in-Ok.ensures.ok

pub follow-requires : goal.follow-requires
follow-requires g c =
    up_found c.args.self.now c.dead_cell_beside.new.self c.requires.raw c.in-Ok.link c.in-Ok.ensures.ok c.follow-dead.result.now c.follow-dead.ensures c.args.payload
    c.args.parent.0 c.link-up.result c.requires.used c.link-up.ensures.place

pub to-above-requires : goal.to-above-requires
to-above-requires g c =
    found_placed c.dead_cell_beside.new.self.heap.arena.cells c.link-up.result.ptr c.in-Ok.ensures.ok.heap.placed (up_found c.args.self.now c.dead_cell_beside.new.self c.requires.raw c.in-Ok.link c.in-Ok.ensures.ok c.follow-dead.result.now c.follow-dead.ensures c.args.payload
    c.args.parent.0 c.link-up.result c.requires.used c.link-up.ensures.place)

pub to-added-requires : goal.to-added-requires
to-added-requires g c =
    found_placed c.dead_cell_beside.new.self.heap.arena.cells c.in-Ok.link.ptr c.in-Ok.ensures.ok.heap.placed (link_found c.args.self.now c.dead_cell_beside.new.self c.requires.raw c.in-Ok.link c.in-Ok.ensures.ok)

pub set_row-requires : goal.set_row-requires
set_row-requires g c =
    (c.follow-dead.result.now, c.follow-dead.ensures, no_payload c.args.self.now c.dead_cell_beside.new.self c.requires.raw c.in-Ok.link c.in-Ok.ensures.ok c.follow-dead.result.now c.follow-dead.ensures)

pub set_last-requires : goal.set_last-requires
set_last-requires g c =
    subst (λ cells. IsSome (found cells c.link-up.result.ptr))
    (sym (row_put c.dead_cell_beside.new.self.heap.arena.cells c.link-up.result c.in-Ok.link c.follow.result.now.last c.to-above.result c.to-added.result c.args.payload c.to-above.ensures c.to-added.ensures c.set_row.new.arena.cells c.set_row.ensures))
    (up_found_two c.args.self.now c.dead_cell_beside.new.self c.requires.raw c.in-Ok.link c.in-Ok.ensures.ok c.follow-dead.result.now c.follow-dead.ensures c.args.payload
    c.args.parent.0 c.link-up.result c.requires.used c.link-up.ensures.place c.follow.result.now c.follow.ensures)

pub join-requires-clause-parent : goal.join-requires-clause-parent
join-requires-clause-parent g c =
    subst (λ l. IfSome l (λ k. IsSome (found c.set_last.new.arena.cells k.ptr))) (sym c.to-above.ensures)
    (subst (λ cells. IsSome (found cells c.link-up.result.ptr))
    (sym (last_put c.dead_cell_beside.new.self.heap.arena.cells c.link-up.result c.in-Ok.link c.follow.result.now.last c.to-above.result c.to-added.result c.args.payload c.to-above.ensures c.to-added.ensures c.set_row.new.arena.cells c.set_row.ensures
    c.set_last.new.arena.cells c.set_last.ensures))
    (parent_found_three c.args.self.now c.dead_cell_beside.new.self c.requires.raw c.in-Ok.link c.in-Ok.ensures.ok c.follow-dead.result.now c.follow-dead.ensures c.args.payload
    c.args.parent.0 c.link-up.result c.requires.used c.link-up.ensures.place c.follow.result.now c.follow.ensures))

pub join-requires-clause-left : goal.join-requires-clause-left
join-requires-clause-left g c =
    subst (λ cells. IfSome c.follow.result.now.last (λ l. IsSome (found cells l.ptr)))
    (sym (last_put c.dead_cell_beside.new.self.heap.arena.cells c.link-up.result c.in-Ok.link c.follow.result.now.last c.to-above.result c.to-added.result c.args.payload c.to-above.ensures c.to-added.ensures c.set_row.new.arena.cells c.set_row.ensures
    c.set_last.new.arena.cells c.set_last.ensures))
    (last_found_three c.args.self.now c.dead_cell_beside.new.self c.requires.raw c.in-Ok.link c.in-Ok.ensures.ok c.follow-dead.result.now c.follow-dead.ensures c.args.payload
    c.args.parent.0 c.link-up.result c.requires.used c.link-up.ensures.place c.follow.result.now c.follow.ensures)

pub join-requires-clause-right : goal.join-requires-clause-right
join-requires-clause-right g c =
    subst (λ l. IfSome l (λ k. IsSome (found c.set_last.new.arena.cells k.ptr))) (sym c.to-added.ensures)
    (subst (λ cells. IsSome (found cells c.in-Ok.link.ptr))
    (sym (last_put c.dead_cell_beside.new.self.heap.arena.cells c.link-up.result c.in-Ok.link c.follow.result.now.last c.to-above.result c.to-added.result c.args.payload c.to-above.ensures c.to-added.ensures c.set_row.new.arena.cells c.set_row.ensures
    c.set_last.new.arena.cells c.set_last.ensures))
    (link_found_three c.args.self.now c.dead_cell_beside.new.self c.requires.raw c.in-Ok.link c.in-Ok.ensures.ok c.follow-dead.result.now c.follow-dead.ensures c.args.payload
    c.args.parent.0 c.link-up.result c.requires.used c.link-up.ensures.place c.follow.result.now c.follow.ensures))

pub overflow_add-self : goal.overflow_add-self
overflow_add-self g c = room c.args.self.now c.dead_cell_beside.new.self c.requires.raw c.in-Ok.link c.in-Ok.ensures.ok

pub returns-in-Ok-clause-raw : goal.returns-in-Ok-clause-raw
returns-in-Ok-clause-raw g c =
    append_raw c.args.self.now c.dead_cell_beside.new.self c.requires.raw c.in-Ok.link c.in-Ok.ensures.ok c.follow-dead.result.now c.follow-dead.ensures c.args.payload
    c.args.parent.0 c.link-up.result c.requires.used c.link-up.ensures.place c.follow.result.now c.follow.ensures c.join.new.arena
    (child_put c.dead_cell_beside.new.self.heap.arena.cells c.link-up.result c.in-Ok.link c.follow.result.now.last c.to-above.result c.to-added.result c.args.payload c.to-above.ensures c.to-added.ensures c.set_row.new.arena.cells c.set_row.ensures
    c.set_last.new.arena.cells c.set_last.ensures c.join.new.arena.cells c.join.ensures)
    c.max-self.result c.max-self.ensures

pub returns-in-Ok-clause-ok : goal.returns-in-Ok-clause-ok
returns-in-Ok-clause-ok g c =
    let now : RawRows g.row.T.Denot =
    record {
      heap = record { arena = c.join.new.arena; blocks = c.dead_cell_beside.new.self.heap.blocks; links = c.dead_cell_beside.new.self.heap.links; alloc = c.dead_cell_beside.new.self.heap.alloc };
      free = c.follow-dead.result.now.next;
      root = c.dead_cell_beside.new.self.root;
      len = c.dead_cell_beside.new.self.len + 1;
      most = c.max-self.result;
    } in
    subst (λ p. Appends (raw_of c.args.self.now) (raw_of now) c.args.parent.0 p c.args.payload)
    (sym (number_is c.dead_cell_beside.new.self.heap.arena.cells c.in-Ok.ensures.ok.heap.numbered c.in-Ok.link.ptr c.follow-dead.result.now c.follow-dead.ensures))
    (appends c.args.self.now c.dead_cell_beside.new.self c.requires.raw c.in-Ok.link c.in-Ok.ensures.ok c.follow-dead.result.now c.follow-dead.ensures c.args.payload
    c.args.parent.0 c.link-up.result c.requires.used c.link-up.ensures.place c.follow.result.now c.follow.ensures c.join.new.arena
    (child_put c.dead_cell_beside.new.self.heap.arena.cells c.link-up.result c.in-Ok.link c.follow.result.now.last c.to-above.result c.to-added.result c.args.payload c.to-above.ensures c.to-added.ensures c.set_row.new.arena.cells c.set_row.ensures
    c.set_last.new.arena.cells c.set_last.ensures c.join.new.arena.cells c.join.ensures)
    c.max-self.result c.max-self.ensures)
