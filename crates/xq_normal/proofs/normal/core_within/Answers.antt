use Rattle.std.proofs.Common.{◌≡◌, Some, ap, sym, ◌∙◌}
use Rattle.std.proofs.lemmas.Result.{err_from_is_err_and}
use Rattle.gcx_model.specs.Document.{tree_of}
use Rattle.gcx_model.specs.ItemView.{body_tree}
use Rattle.gcx_model.specs.Normal.{no_names, normal}
use Rattle.gcx_model.specs.PlanView.{CoreTree}
use Rattle.gcx_model.specs.Query.{exprs_of, query_trees}
use Rattle.gcx_model.specs.Run.{bytes_written}
use Rattle.xq_normal.specs.Raw.{moved}
use Rattle.xq_normal.specs.Sums.{conditions_refusal, refusal, with_rows}
use Rattle.xq_normal.proofs.Limits.{loops_refused, refused_by_conditions, unless_weaker}
use Rattle.xq_normal.proofs.Moved.{moved-exprs}
use Rattle.xq_normal.proofs.normal.core_within.Goals as goal

pub returns-then-all_loops-gt-LOOPS-clause-refused : goal.returns-then-all_loops-gt-LOOPS-clause-refused
returns-then-all_loops-gt-LOOPS-clause-refused c = loops_refused (query_trees c.args.query.now) c.all_loops.result c.all_loops.ensures c.if-all_loops-gt-LOOPS.true

pub returns-in_err-check_conditions-clause-refused : goal.returns-in_err-check_conditions-clause-refused
returns-in_err-check_conditions-clause-refused c =
    let core : moved (body_tree c.in_ok-body.body) ≡ normal (query_trees c.args.query.now) = ap moved c.in_ok-body.ensures ∙ moved-exprs (exprs_of (query_trees c.args.query.now)) no_names 1 in
    let p = err_from_is_err_and c.from_residual-in_err-check_conditions.result c.from_residual-in_err-check_conditions.ensures.1 in
    rw (p.1, p.2)
    (unless_weaker (λ fault. conditions_refusal (moved (body_tree c.in_ok-body.body)) ≡ Some fault) (λ fault. refusal (normal (query_trees c.args.query.now)) ≡ Some fault)
    (λ fault e. refused_by_conditions (query_trees c.args.query.now) c.all_loops.result c.all_loops.ensures c.if-all_loops-gt-LOOPS.false ∙ (ap conditions_refusal (sym core) ∙ e))
    c.in_err-check_conditions.field-0.0 c.in_err-check_conditions.ensures.err)

pub returns-clause-core : goal.returns-clause-core
returns-clause-core c =
    let core : moved (body_tree c.in_ok-body.body) ≡ normal (query_trees c.args.query.now) = ap moved c.in_ok-body.ensures ∙ moved-exprs (exprs_of (query_trees c.args.query.now)) no_names 1 in
    c.in_ok-core.ensures ∙ ap with_rows core

pub returns-clause-within : goal.returns-clause-within
returns-clause-within c =
    let core : moved (body_tree c.in_ok-body.body) ≡ normal (query_trees c.args.query.now) = ap moved c.in_ok-body.ensures ∙ moved-exprs (exprs_of (query_trees c.args.query.now)) no_names 1 in
    refused_by_conditions (query_trees c.args.query.now) c.all_loops.result c.all_loops.ensures c.if-all_loops-gt-LOOPS.false ∙ (ap conditions_refusal (sym core) ∙ c.in_ok-check_conditions.ensures.ok)
