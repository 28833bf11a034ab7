use Rattle.std.proofs.Common.{◌≡◌, map, drop}
use Rattle.gcx_model.specs.Query.{cond_tree, conds_of}
use Rattle.gcx_model.specs.Answer.{holds_all, holds_any}
use Rattle.tree_eval.specs.Scopes.{scope_of}
use Rattle.tree_eval.proofs.conditions.+holds.Given as goal

abbrev pub invariant-loop-inner : goal.invariant-loop-inner
invariant-loop-inner l = holds_all (conds_of (map cond_tree (drop l.inner-index l.inner-items))) (scope_of l.tree l.scope) l.tree ≡ holds_all (conds_of (map cond_tree l.inner-items)) (scope_of l.tree l.scope) l.tree

abbrev pub invariant-loop-inner-2 : goal.invariant-loop-inner-2
invariant-loop-inner-2 l = holds_any (conds_of (map cond_tree (drop l.inner-index l.inner-items))) (scope_of l.tree l.scope) l.tree ≡ holds_any (conds_of (map cond_tree l.inner-items)) (scope_of l.tree l.scope) l.tree
