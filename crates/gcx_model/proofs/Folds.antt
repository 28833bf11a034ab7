-- One layer of the fold, at the variants where the search needs it spelled out.
use Rattle.std.proofs.Common.{◌≡◌, ℕ, List, rules}
use Rattle.gcx_base.specs.declared.ids.VarId.{VarId}
use Rattle.gcx_base.specs.declared.steps.Step.{Step}
use Rattle.gcx_model.specs.declared.query.Expr.{the_lemmas as expr_lemmas}
use Rattle.gcx_model.specs.declared.query.Expr.TheViews as expr
use Rattle.gcx_model.specs.declared.query.Exprs.{Exprs}
use Rattle.gcx_model.specs.Query.{Elem, exprs_of, expr_tree, expr_trees}
use Rattle.gcx_model.specs.declared.cond.Cond.{Cond}
use Rattle.gcx_model.specs.declared.item.Item.{the_lemmas as item_lemmas}
use Rattle.gcx_model.specs.declared.item.Item.TheViews as item
use Rattle.gcx_model.specs.declared.item.Body.{Body}
use Rattle.gcx_model.specs.Core as tree
use Rattle.gcx_model.specs.CondView.{core_cond_tree}
use Rattle.gcx_model.specs.ItemView.{item_tree, body_tree}

pub fold_Elem : (name : List ℕ) (body : Exprs) → expr_tree (expr.Elem name body) ≡ Elem name (exprs_of (expr_trees body))
fold_Elem name body = search (rules, expr_lemmas)

pub fold_For : (var from : VarId) (step : Step) (body : Body) → item_tree (item.For var from step body) ≡ tree.For var.0 from.0 step (body_tree body)
fold_For var from step body = search (rules, item_lemmas)

pub fold_If : (cond : Cond) (this other : Body) → item_tree (item.If cond this other) ≡ tree.If (core_cond_tree cond) (body_tree this) (body_tree other)
fold_If cond this other = search (rules, item_lemmas)
