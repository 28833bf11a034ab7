use Rattle.std.proofs.Common.{◌≡◌, ◌+◌, ◌++◌, ◌∷◌, [], List, ap, ◌∙◌, arith, append_assoc, add-one, ℕ, sym, rules}
use Rattle.std.proofs.lemmas.List.{map-append}
use denote.RawPtr.{Ptr, count_of}
use Rattle.std.specs.Mem.{type_size}
use Rattle.raw_nodes.specs.Spots.{run_places, cell_ptr}
use Rattle.raw_nodes.specs.Heaps.{addresses}
use Rattle.raw_nodes.specs.declared.arena.Link.{Link}
use Rattle.raw_nodes.proofs.Filling.{run_more}
use Rattle.raw_nodes.proofs.Placed.{block_placed}
use Rattle.raw_nodes.proofs.heap.new_block.Goals as goal

-- one link more
linked : (old now later : List Link) (s : ℕ) (p : Ptr) (n : ℕ) (l : Link)
    → addresses now ≡ addresses old ++ run_places s p n → later ≡ now ++ l ∷ [] → l.ptr ≡ cell_ptr s p n → addresses later ≡ addresses old ++ run_places s p (n + 1)
linked old now later s p n l before pushed at =
    rw add-one (
    ap addresses pushed
    ∙ map-append (λ (k : Link). k.ptr) now (l ∷ [])
    ∙ ap (λ ps. ps ++ l.ptr ∷ []) before
    ∙ append_assoc (addresses old) (run_places s p n) (l.ptr ∷ [])
    ∙ ap (λ ps. addresses old ++ ps) (ap (λ q. run_places s p n ++ q ∷ []) at ∙ run_more s p n))

pub returns-clause-placed : goal.returns-clause-placed
returns-clause-placed g c = block_placed (type_size g.row.N) c.in_ok-base.base.ptr c.args.count c.in_ok-base.ensures.5 (ap count_of (sym c.in_ok-base.ensures.2) ∙ c.located-deed.ensures.1) (search rules)

pub loop-index-preserved : goal.loop-index-preserved
loop-index-preserved g c = (
  linked c.reserve.new.self.items c.loop-index.links.items c.push_reserved.new.self.items (type_size g.row.N) c.in_ok-base.base.ptr c.loop-index.index c.within.result
      c.loop-index.invariant.0 c.push_reserved.ensures.items c.within.ensures,
  omega (arith, c.push_reserved.ensures.len, c.loop-index.invariant.1),
  c.push_reserved.ensures.capacity ∙ c.loop-index.invariant.2,
)
