use Rattle.std.proofs.Common.{◌∷◌, [], refl, ◌∙◌, arith}
use Rattle.gcx_model.specs.Tree.{serial_of}
use Rattle.doc_tree.specs.Rows.{node_at, nodes_of}
use Rattle.gcx_model.specs.Paths.{hits}
use Rattle.doc_tree.proofs.Numbers.{hits_more}
use Rattle.doc_tree.proofs.sets.step_to.Goals as goal

pub returns : goal.returns
returns c =
    c.in_ok-found.ensures (hits (serial_of (node_at (nodes_of c.args.rows.now) c.args.node)) []) (c.deref.ensures.value ∙ c.in_ok-set.ensures)
    ∙ hits_more c.args.rows.now (serial_of (node_at (nodes_of c.args.rows.now) c.args.node)) (c.args.step.now ∷ []) 0 c.args.step.now (omega arith) refl
