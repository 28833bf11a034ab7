use Rattle.std.proofs.Common.{◌≡◌, ◌∙◌, Some, None, IsSome, sym, ap, subst}
use Rattle.raw_nodes.specs.Spots.{written}
use Rattle.raw_nodes.specs.Edits.{to_dead}
use Rattle.raw_nodes.proofs.Updates.{written_updated}
use Rattle.raw_nodes.proofs.edit.set_dead.Goals as goal

pub take-requires : goal.take-requires
take-requires g c =
    let both : Some c.requires.row.0 ≡ Some c.follow_mut-node.result.now = sym c.requires.row.1 ∙ c.follow_mut-node.ensures.value in
    let same : c.requires.row.0 ≡ c.follow_mut-node.result.now = search both in
    subst (λ n. IsSome n.payload) same c.requires.row.2

pub returns-clause-cells : goal.returns-clause-cells
returns-clause-cells g c =
    ap (λ o. written c.args.arena.now.cells c.args.at.ptr (record { number = c.follow_mut-node.result.now.number; parent = c.follow_mut-node.result.now.parent; first = c.follow_mut-node.result.now.first; last = c.to-own.result; prev = c.follow_mut-node.result.now.prev; next = c.args.next; payload = o })) c.take.ensures.empty
    ∙ ap (λ l. written c.args.arena.now.cells c.args.at.ptr (record { number = c.follow_mut-node.result.now.number; parent = c.follow_mut-node.result.now.parent; first = c.follow_mut-node.result.now.first; last = l; prev = c.follow_mut-node.result.now.prev; next = c.args.next; payload = None })) c.to-own.ensures
    ∙ written_updated (to_dead c.args.at c.args.next) c.args.arena.now.cells c.args.at.ptr c.follow_mut-node.result.now c.follow_mut-node.ensures.value
