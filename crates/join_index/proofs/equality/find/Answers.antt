use Rattle.std.proofs.Common.{sym, ◌∙◌}
use Rattle.std.proofs.lemmas.Bool.{false≢true}
use Rattle.gcx_model.specs.CondView.{operand_tree}
use Rattle.join_index.proofs.Finding.{not_in_more}
use Rattle.join_index.proofs.equality.find.Goals as goal

pub equalities-preserved : goal.equalities-preserved
equalities-preserved c =
    not_in_more c.args.equalities.now (operand_tree c.args.left.now) (operand_tree c.args.right.now) c.equalities.index c.index-equalities-index.result c.equalities-test.true c.index-equalities-index.is
    (λ is. false≢true (sym c.if-is_of.false ∙ c.is_of.ensures.1 is)) c.equalities.invariant
