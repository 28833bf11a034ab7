use Rattle.std.proofs.Common.{refl, sym, subst}
use Rattle.buf_tree.specs.Recount.{TellsParent}
use Rattle.buf_tree.specs.Shape.{cells, AtPlace}
use Rattle.buf_tree.proofs.Parents.{link_tells, no_link_tells}
use Rattle.buf_tree.proofs.recount.parent_serial.Goals as goal

pub returns-in-Some : goal.returns-in-Some
returns-in-Some g c = subst (λ k. AtPlace (cells (g.N.NodeStore.rows c.args.nodes.now)) c.args.place.0 (TellsParent k)) (sym c.serial.ensures) (link_tells _ c.requires.shape _ _ refl _ c.in-Some.ensures.value _ c.payload.ensures)

pub returns-in-None : goal.returns-in-None
returns-in-None g c = no_link_tells _ c.requires.shape _ _ refl c.in-None.ensures.value
