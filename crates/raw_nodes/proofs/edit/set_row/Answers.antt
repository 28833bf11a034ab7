use Rattle.std.proofs.Common.{◌≡◌, ◌∙◌, Some, None, sym, ap}
use Rattle.raw_nodes.specs.Spots.{written}
use Rattle.raw_nodes.specs.Edits.{to_row}
use Rattle.raw_nodes.proofs.Updates.{written_updated}
use Rattle.raw_nodes.proofs.edit.set_row.Goals as goal

pub put-requires : goal.put-requires
put-requires g c =
    let both : Some c.requires.0 ≡ Some c.follow_mut-node.result.now = sym c.requires.1 ∙ c.follow_mut-node.ensures.value in
    let same : c.requires.0 ≡ c.follow_mut-node.result.now = search both in
    ap (λ n. n.payload) (sym same) ∙ c.requires.2

pub returns : goal.returns
returns g c =
    ap (λ l. written c.args.arena.now.cells c.args.at.ptr (record { number = c.follow_mut-node.result.now.number; parent = c.args.parent; first = l; last = l; prev = c.args.prev; next = l; payload = c.put.new.self })) c.none-nothing.ensures
    ∙ ap (λ o. written c.args.arena.now.cells c.args.at.ptr (record { number = c.follow_mut-node.result.now.number; parent = c.args.parent; first = None; last = None; prev = c.args.prev; next = None; payload = o })) c.put.ensures
    ∙ written_updated (to_row c.args.parent c.args.prev c.args.payload) c.args.arena.now.cells c.args.at.ptr c.follow_mut-node.result.now c.follow_mut-node.ensures.value
