use Rattle.std.proofs.Common.{◌≡◌, ap, ◌∙◌}
use Rattle.std.proofs.lemmas.Result.{IfOk-weaker}
use Rattle.gcx_model.specs.Document.{tree_of}
use Rattle.gcx_model.specs.PlanView.{CoreTree}
use Rattle.gcx_model.specs.Query.{query_trees}
use Rattle.gcx_model.specs.Run.{bytes_written}
use Rattle.xq_normal.proofs.normal.normalise.Goals as goal

pub returns-clause-meaning : goal.returns-clause-meaning
returns-clause-meaning c =
    IfOk-weaker c.core_within.result _ _
    (λ core e d. ap (λ (b : CoreTree). bytes_written b.body (tree_of d)) e ∙ c.normal_law.ensures (query_trees c.args.query.now) c.requires.sound d)
    c.core_within.ensures.core
