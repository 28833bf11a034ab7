use Rattle.std.proofs.Common.{◌≡◌, ◌++◌, ap, ◌∙◌}
use Rattle.std.specs.Prelude.{codes}
use Rattle.gcx_model.specs.Query.{query_trees, exprs_of}
use Rattle.xq_print.specs.Printed.{expr_texts, joined, printed_query}
use Rattle.xq_print.proofs.Lists.{texts_are}
use Rattle.xq_print.proofs.ReadsBack.{reads_back}
use Rattle.xq_print.proofs.expr.print.Goals as goal

pub returns : goal.returns
returns c = record { text = printed; reads_back = reads_back _ (query_trees c.args.query.now) printed }
  where
    printed : c.from_string.result ≡ printed_query (query_trees c.args.query.now)
    printed =
        c.from_string.ensures
        ∙ (c.in_ok-put_exprs.ensures
        ∙ (ap (λ x. x ++ joined (codes ", ") (expr_texts (exprs_of (query_trees c.args.query.now)))) c.new-out.ensures.bytes
        ∙ ap (joined (codes ", ")) (texts_are (query_trees c.args.query.now))))
