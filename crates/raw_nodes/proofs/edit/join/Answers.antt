use Rattle.std.proofs.Common.{sym, subst, IsSome}
use Rattle.std.specs.Prelude.{IfSome}
use Rattle.raw_nodes.specs.Spots.{found}
use Rattle.raw_nodes.proofs.Updates.{still_there}
use Rattle.raw_nodes.proofs.edit.join.Goals as goal

pub set_left-requires-clause-parent : goal.set_left-requires-clause-parent
set_left-requires-clause-parent g c =
    subst (λ cells. IfSome c.args.parent (λ l. IsSome (found cells l.ptr))) (sym c.set_right.ensures)
    (still_there c.args.arena.now.cells c.args.parent c.args.left c.args.right c.args.parent c.requires.parent)

pub set_left-requires-clause-right : goal.set_left-requires-clause-right
set_left-requires-clause-right g c =
    subst (λ cells. IfSome c.args.right (λ l. IsSome (found cells l.ptr))) (sym c.set_right.ensures)
    (still_there c.args.arena.now.cells c.args.parent c.args.left c.args.right c.args.right c.requires.right)
