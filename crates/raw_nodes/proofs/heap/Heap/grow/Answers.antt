use Rattle.std.proofs.Common.{◌≡◌, [], ◌∷◌, get_or, ◌-◌, ◌++◌, length, drop, replicate, map, Some, None, sym, ap, subst, ◌∙◌, arith, length-drop}
use Rattle.std.specs.List.{AllByRecursion}
use Rattle.raw_nodes.specs.Spots.{run_places, IsInSomeBlock}
use Rattle.raw_nodes.specs.Nodes.{dead_nodes}
use Rattle.raw_nodes.specs.Heaps.{addresses}
use Rattle.raw_nodes.specs.declared.heap.Block.{Block}
use Rattle.raw_nodes.specs.declared.heap.Heap.{Heap}
use Rattle.raw_nodes.proofs.Growing.{grown, grows, full}
use Rattle.raw_nodes.proofs.Placed.{new_placed}
use Rattle.raw_nodes.proofs.heap.Heap.grow.Goals as goal

pub links_from-requires : goal.links_from-requires
links_from-requires g c = omega (arith, c.in_ok-base.ensures.len, c.len-count.ensures)

pub fill-requires-clause-empty : goal.fill-requires-clause-empty
fill-requires-clause-empty g c =
    let dropped : length c.links_from.result.now ≡ length c.new_block.new.links.items - c.len-count.result = ap length c.links_from.ensures ∙ length-drop c.len-count.result c.new_block.new.links.items in
    let long : 256 ≡ length c.links_from.result.now = omega (arith, c.in_ok-base.ensures.len, c.len-count.ensures, c.new_block.new.links.ok.0) in
    c.in_ok-base.ensures.block.1 ∙ ap (λ n. replicate n None) long

pub fill-requires-clause-placed : goal.fill-requires-clause-placed
fill-requires-clause-placed g c =
    let count : c.len-count.result ≡ length c.args.self.now.links.items = c.len-count.ensures ∙ c.args.self.now.links.ok.0 in
    subst (λ ls. AllByRecursion IsInSomeBlock (addresses ls)) (sym (c.links_from.ensures ∙ ap (λ n. drop n c.new_block.new.links.items) count))
    (new_placed c.args.self.now.links.items c.new_block.new.links.items _ c.in_ok-base.base.ptr 256 c.in_ok-base.ensures.links c.in_ok-base.ensures.placed)

pub adopt-run-requires : goal.adopt-run-requires
adopt-run-requires g c = (full _ _ c.fill.ensures.filled, c.in_ok-base.ensures.size)

pub index-requires : goal.index-requires
index-requires g c = omega (arith, c.in_ok-base.ensures.len, c.len-count.ensures)

pub returns-clause-heap : goal.returns-clause-heap
returns-clause-heap g c =
    let T = g.row.T.Denot in
    let b : Block T = record { base = c.in_ok-base.base; run = c.adopt-run.result; deed = c.in_ok-base.deed } in
    let new : Heap T = record { arena = c.adopt-run.new.self; blocks = c.push_reserved.new.self; links = c.new_block.new.links; alloc = c.args.self.now.alloc } in
    let at = c.fill.ensures.at ∙ c.in_ok-base.ensures.block.0 in
    let count : c.len-count.result ≡ length c.args.self.now.links.items = c.len-count.ensures ∙ c.args.self.now.links.ok.0 in
    let tabled = c.in_ok-base.ensures.links ∙ ap (λ p. addresses c.args.self.now.links.items ++ run_places _ p 256) (sym at) in
    let filled = c.fill.ensures.filled ∙ ap (λ ls. map Some (dead_nodes c.len-count.result ls)) c.links_from.ensures ∙ ap (λ n. map Some (dead_nodes n (drop n c.new_block.new.links.items))) count in
    let placed = subst (λ p. AllByRecursion IsInSomeBlock (run_places _ p 256)) (sym at) c.in_ok-base.ensures.placed in
    grown c.args.self.now new c.requires.heap _ c.fill.new.cells.at c.fill.new.cells.slots b tabled filled c.adopt-run.ensures.cells c.adopt-run.ensures.run.0 placed
    (c.push_reserved.ensures.items ∙ ap (λ bs. bs ++ b ∷ []) c.in_ok-reserve.ensures.items)
    (c.adopt-run.ensures.run.1 ∙ at) c.adopt-run.ensures.run.2 c.in_ok-base.ensures.block.2 c.in_ok-base.ensures.block.3

pub returns-clause-ok : goal.returns-clause-ok
returns-clause-ok g c =
    let T = g.row.T.Denot in
    let b : Block T = record { base = c.in_ok-base.base; run = c.adopt-run.result; deed = c.in_ok-base.deed } in
    let new : Heap T = record { arena = c.adopt-run.new.self; blocks = c.push_reserved.new.self; links = c.new_block.new.links; alloc = c.args.self.now.alloc } in
    let at = c.fill.ensures.at ∙ c.in_ok-base.ensures.block.0 in
    let count : c.len-count.result ≡ length c.args.self.now.links.items = c.len-count.ensures ∙ c.args.self.now.links.ok.0 in
    let tabled = c.in_ok-base.ensures.links ∙ ap (λ p. addresses c.args.self.now.links.items ++ run_places _ p 256) (sym at) in
    let filled = c.fill.ensures.filled ∙ ap (λ ls. map Some (dead_nodes c.len-count.result ls)) c.links_from.ensures ∙ ap (λ n. map Some (dead_nodes n (drop n c.new_block.new.links.items))) count in
    grows c.args.self.now new c.requires.heap _ c.fill.new.cells.at c.fill.new.cells.slots b tabled filled c.adopt-run.ensures.cells c.index.result.now (c.index.ensures ∙ ap (λ n. get_or c.new_block.new.links.items n c.index.result.now) count)
