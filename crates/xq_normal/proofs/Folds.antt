-- One layer of an item and of an expression as plain trees.
use Rattle.std.proofs.Common.{◌≡◌, rules}
use Rattle.gcx_base.specs.declared.ids.VarId.{VarId}
use Rattle.gcx_model.specs.declared.item.Item.{the_lemmas as item_lemmas}
use Rattle.gcx_model.specs.declared.item.Item as item
use Rattle.gcx_model.specs.declared.query.Expr.{the_lemmas as expr_lemmas}
use Rattle.gcx_model.specs.declared.query.Expr as expr
use Rattle.gcx_model.specs.Core.{Copy}
use Rattle.gcx_model.specs.ItemView.{item_tree}
use Rattle.gcx_model.specs.Query.{Empty, expr_tree}

pub fold_Copy : (var : VarId) → item_tree (item.Copy var) ≡ Copy var.0
fold_Copy var = search (rules, item_lemmas)

pub fold_Empty : expr_tree expr.Empty ≡ Empty
fold_Empty = search (rules, expr_lemmas)
