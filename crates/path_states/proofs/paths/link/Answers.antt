use Rattle.std.proofs.Common.{get_or, refl}
use Rattle.std.proofs.lemmas.Option.{slice_get-get_or}
use Rattle.path_states.specs.Growing.{Below}
use Rattle.path_states.proofs.Growing.{tell_at, tell_none}
use Rattle.path_states.proofs.paths.link.Goals as goal

pub returns-in_ok-note_below : goal.returns-in_ok-note_below
returns-in_ok-note_below c =
    let x = get_or c.args.tree.now c.args.parent c.index-tree-place.result in
    tell_at (Below c.args.axis) c.args.parent c.args.number c.args.tree.now _ x c.note_below.new.state refl c.if-place-tree.true (slice_get-get_or c.args.tree.now c.args.parent c.index-tree-place.result c.if-place-tree.true) c.in_ok-note_below.ensures

pub returns-else-place-tree : goal.returns-else-place-tree
returns-else-place-tree c = tell_none (Below c.args.axis) c.args.parent c.args.number c.args.tree.now c.if-place-tree.false
