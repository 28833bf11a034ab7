use Rattle.std.proofs.Common.{arith}
use Rattle.gcx_model.proofs.Folds.{fold_For, fold_If}
use Rattle.gcx_model.proofs.item.+copy_items.Goals as goal

pub Item::copy-returns-in_ok-body-in-For : goal.Item::copy-returns-in_ok-body-in-For
Item::copy-returns-in_ok-body-in-For t c = grind (arith, fold_For)

pub Item::copy-returns-in_ok-other-in-If : goal.Item::copy-returns-in_ok-other-in-If
Item::copy-returns-in_ok-other-in-If t c = grind (arith, fold_If)
