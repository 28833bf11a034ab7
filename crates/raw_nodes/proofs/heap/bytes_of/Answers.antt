use Rattle.std.proofs.Common.{◌≡◌, Some, IsSome, sym, ap, subst, ◌∙◌}
use Rattle.raw_nodes.specs.Nodes.{paid_node}
use Rattle.raw_nodes.specs.Spots.{written}
use Rattle.raw_nodes.proofs.Updates.{written_same, paid_same}
use Rattle.raw_nodes.proofs.heap.bytes_of.Goals as goal

pub payload_mut-requires : goal.payload_mut-requires
payload_mut-requires g c =
    let both : Some c.requires.0 ≡ Some c.follow_mut-node.result.now = sym c.requires.1 ∙ c.follow_mut-node.ensures.value in
    let same : c.requires.0 ≡ c.follow_mut-node.result.now = search both in
    subst (λ n. IsSome n.payload) same c.requires.2

pub returns-clause-arena : goal.returns-clause-arena
returns-clause-arena g c =
    let n = c.follow_mut-node.result.now in
    let cells = c.args.arena.now.cells in
    let paid : n.payload ≡ Some c.like.new.value = c.payload_mut.ensures.value ∙ ap Some (sym c.like.ensures.value) in
    let same : written cells c.args.row.ptr (paid_node n c.like.new.value) ≡ cells =
    ap (written cells c.args.row.ptr) (paid_same n c.like.new.value paid) ∙ written_same cells c.args.row.ptr n c.follow_mut-node.ensures.value in
    λ i. record { mark = c.args.arena.now.mark; cells = same i }
