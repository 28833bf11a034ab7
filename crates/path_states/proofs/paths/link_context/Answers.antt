use Rattle.std.proofs.Common.{get_or, refl}
use Rattle.std.proofs.lemmas.Option.{slice_get-get_or}
use Rattle.path_states.specs.Growing.{Contexts}
use Rattle.path_states.proofs.Growing.{tell_at, tell_none}
use Rattle.path_states.proofs.paths.link_context.Goals as goal

pub returns-in_ok-note_context : goal.returns-in_ok-note_context
returns-in_ok-note_context c =
    let x = get_or c.args.tree.now c.args.var c.index-tree-place.result in
    tell_at Contexts c.args.var c.args.role c.args.tree.now _ x c.note_context.new.state refl c.if-place-tree.true (slice_get-get_or c.args.tree.now c.args.var c.index-tree-place.result c.if-place-tree.true) c.in_ok-note_context.ensures

pub returns-else-place-tree : goal.returns-else-place-tree
returns-else-place-tree c = tell_none Contexts c.args.var c.args.role c.args.tree.now c.if-place-tree.false
