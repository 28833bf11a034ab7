use Rattle.std.proofs.Common.{◌≡◌, sym, ap, ◌∙◌, arith, max}
use Rattle.std.specs.FinMap.{len, len-empty}
use Rattle.slab.specs.Slab.{slab_len}
use Rattle.node_store.specs.Rows.{planted}
use Rattle.node_store.specs.Slots.{index_of}
use Rattle.node_store.proofs.SlabRows.{told_planted, len_slots}
use Rattle.node_store.proofs.slab_nodes.SlabNodesNodeStore.plant.Goals as goal

pub invariant_of-self-2 : goal.invariant_of-self-2
invariant_of-self-2 g c =
    let none = ap (λ s. s.rows) c.self.view_is ∙ c.requires in
    let told = told_planted c.self.inside.cells (index_of c.self.inside.root) c.self.inside.most c.self.invariant c.add.new.cells c.in_ok-place.place.0 c.args.payload none c.in_ok-place.ensures.ok in
    told.sound c.max-self-inside.result (omega (arith, c.max-self-inside.ensures, c.len.ensures))

pub returns-clause-ok : goal.returns-clause-ok
returns-clause-ok g c =
    let none = ap (λ s. s.rows) c.self.view_is ∙ c.requires in
    let told = told_planted c.self.inside.cells (index_of c.self.inside.root) c.self.inside.most c.self.invariant c.add.new.cells c.in_ok-place.place.0 c.args.payload none c.in_ok-place.ensures.ok in
    told.rows_are ∙ ap (λ s. planted s.rows c.in_ok-place.place.0 c.args.payload) c.self.view_is

pub returns-clause-most : goal.returns-clause-most
returns-clause-most g c =
    let none : slab_len c.self.inside.cells ≡ 0 = sym (len_slots c.self.inside.cells) ∙ ap (λ s. len s.rows) c.self.view_is ∙ ap len c.requires ∙ len-empty _ _ in
    let one : c.len.result ≡ 1 = omega (arith, none, c.len.ensures, c.in_ok-place.ensures.len) in
    c.max-self-inside.ensures ∙ ap (max c.self.inside.most) one ∙ ap (λ s. max s.most 1) c.self.view_is
