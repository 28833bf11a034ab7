use Rattle.std.proofs.Common.{IsSome, refl, sym, ap, subst, ◌∙◌, rules}
use Rattle.std.specs.Prelude.{IfSome}
use Rattle.raw_nodes.specs.Spots.{found}
use Rattle.raw_nodes.specs.Edits.{join_put}
use Rattle.raw_nodes.specs.Raw.{raw_of, IsRaw}
use Rattle.raw_nodes.specs.Steps.{Unlinks}
use Rattle.raw_nodes.proofs.Placed.{found_placed}
use Rattle.raw_nodes.proofs.Unlinking.{leaf_paid, parent_found_out, prev_found_out, next_found_out, some_rows, unlink_raw, unlinks}
use Rattle.raw_nodes.proofs.rows.RawRows.drop_leaf.Goals as goal

pub set_empty-requires-clause-row : goal.set_empty-requires-clause-row
set_empty-requires-clause-row g c = (
  c.follow-leaf.result.now,
  c.follow-leaf.ensures,
  subst (λ o. IsSome o) (sym (leaf_paid c.args.self.now c.requires.raw c.args.place.0 c.link-link.result c.link-link.ensures.place c.requires.leaf.0 c.requires.leaf.1 c.follow-leaf.result.now c.follow-leaf.ensures)) (search rules),
)

pub set_empty-requires-clause-placed : goal.set_empty-requires-clause-placed
set_empty-requires-clause-placed g c = found_placed c.args.self.now.heap.arena.cells c.link-link.result.ptr c.requires.raw.heap.placed (c.link-link.ensures.found)

pub close_gap-requires-clause-parent : goal.close_gap-requires-clause-parent
close_gap-requires-clause-parent g c =
    subst (λ cells. IfSome c.follow-leaf.result.now.parent (λ l. IsSome (found cells l.ptr))) (sym c.set_empty.ensures)
    (parent_found_out c.args.self.now c.requires.raw c.args.place.0 c.link-link.result c.link-link.ensures.place c.requires.leaf.0 c.requires.leaf.1 c.follow-leaf.result.now c.follow-leaf.ensures c.requires.leaf.2)

pub close_gap-requires-clause-left : goal.close_gap-requires-clause-left
close_gap-requires-clause-left g c =
    subst (λ cells. IfSome c.follow-leaf.result.now.prev (λ l. IsSome (found cells l.ptr))) (sym c.set_empty.ensures)
    (prev_found_out c.args.self.now c.requires.raw c.args.place.0 c.link-link.result c.link-link.ensures.place c.requires.leaf.0 c.requires.leaf.1 c.follow-leaf.result.now c.follow-leaf.ensures c.requires.leaf.2)

pub close_gap-requires-clause-right : goal.close_gap-requires-clause-right
close_gap-requires-clause-right g c =
    subst (λ cells. IfSome c.follow-leaf.result.now.next (λ l. IsSome (found cells l.ptr))) (sym c.set_empty.ensures)
    (next_found_out c.args.self.now c.requires.raw c.args.place.0 c.link-link.result c.link-link.ensures.place c.requires.leaf.0 c.requires.leaf.1 c.follow-leaf.result.now c.follow-leaf.ensures c.requires.leaf.2)

pub close_gap-requires-clause-placed : goal.close_gap-requires-clause-placed
close_gap-requires-clause-placed g c = found_placed c.args.self.now.heap.arena.cells c.link-link.result.ptr c.requires.raw.heap.placed (c.link-link.ensures.found)

pub close_gap-requires-clause-some : goal.close_gap-requires-clause-some
close_gap-requires-clause-some g c = some_rows c.args.self.now c.requires.raw c.args.place.0 c.link-link.result c.link-link.ensures.place c.requires.leaf.0 c.requires.leaf.1 c.follow-leaf.result.now c.follow-leaf.ensures c.requires.leaf.2

pub returns-clause-raw : goal.returns-clause-raw
returns-clause-raw g c =
    subst (λ s. IsRaw s) (sym c.close_gap.ensures.fields)
    (unlink_raw c.args.self.now c.requires.raw c.args.place.0 c.link-link.result c.link-link.ensures.place c.requires.leaf.0 c.requires.leaf.1 c.follow-leaf.result.now c.follow-leaf.ensures c.requires.leaf.2
    c.close_gap.new.self.heap.arena (c.close_gap.ensures.cells ∙ ap (join_put c.follow-leaf.result.now.parent c.follow-leaf.result.now.prev c.follow-leaf.result.now.next) c.set_empty.ensures)
    _ refl)

pub returns-clause-left : goal.returns-clause-left
returns-clause-left g c =
    subst (λ s. Unlinks (raw_of c.args.self.now) (raw_of s) c.args.place.0) (sym c.close_gap.ensures.fields)
    (unlinks c.args.self.now c.requires.raw c.args.place.0 c.link-link.result c.link-link.ensures.place c.requires.leaf.0 c.requires.leaf.1 c.follow-leaf.result.now c.follow-leaf.ensures c.requires.leaf.2
    c.close_gap.new.self.heap.arena (c.close_gap.ensures.cells ∙ ap (join_put c.follow-leaf.result.now.parent c.follow-leaf.result.now.prev c.follow-leaf.result.now.next) c.set_empty.ensures)
    _ refl)
