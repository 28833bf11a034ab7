use Rattle.std.proofs.Common.{get_or, refl}
use Rattle.std.proofs.lemmas.Option.{slice_get-get_or}
use Rattle.path_states.specs.Growing.{Ends}
use Rattle.gcx_model.specs.ItemView.{role_kind}
use Rattle.path_states.proofs.Growing.{tell_at, tell_none}
use Rattle.path_states.proofs.paths.link_end.Goals as goal

pub returns-in_ok-note_end : goal.returns-in_ok-note_end
returns-in_ok-note_end c =
    let x = get_or c.args.tree.now c.args.end c.index-tree-place.result in
    tell_at (Ends (role_kind c.args.kind)) c.args.end c.args.role c.args.tree.now _ x c.note_end.new.state refl c.if-place-tree.true (slice_get-get_or c.args.tree.now c.args.end c.index-tree-place.result c.if-place-tree.true) c.in_ok-note_end.ensures

pub returns-else-place-tree : goal.returns-else-place-tree
returns-else-place-tree c = tell_none (Ends (role_kind c.args.kind)) c.args.end c.args.role c.args.tree.now c.if-place-tree.false
