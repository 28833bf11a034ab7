use Rattle.std.proofs.Common.{◌∙◌, ap, List, []}
use Rattle.buf_tree.specs.declared.ahead.Ahead.{Ahead}
use Rattle.buf_tree.specs.Rows.{serials}
use Rattle.buf_tree.specs.Shape.{cells}
use Rattle.buf_tree.specs.View.{View}
use Rattle.buf_tree.proofs.LeftViews.{stands_told}
use Rattle.buf_tree.proofs.SignedViews.{view_of}
use Rattle.buf_tree.proofs.buffer.Buffer.clear_waiting.Goals as goal

pub returns-clause-stands : goal.returns-clause-stands
returns-clause-stands g c past h =
    let nodes = c.self.inside.nodes in
    stands_told c.args.self.now _
    (ap (λ (ws : List Ahead). view_of c.self.inside.spread (cells (g.N.NodeStore.rows nodes)) (serials c.self.inside.gone.items) ws c.self.inside.count c.self.inside.taken (g.N.NodeStore.most_held nodes) (g.N.NodeStore.loans nodes)) c.clear.ensures.items
    ∙ ap (λ (v : View). record v { waiting = [] }) c.self.view_is)
    past h
