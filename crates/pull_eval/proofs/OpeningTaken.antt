-- At the opening tree no role is taken before the first action.
use Rattle.std.proofs.Common.{◌≡◌, ℕ, false, ◌&&◌, ◌+◌, List, [], length, ◌∙◌, ap, inl, inr}
use Rattle.std.proofs.lemmas.Bool.{cases_Bool}
use Rattle.gcx_model.specs.Tree.{Root, opening}
use Rattle.gcx_model.specs.Members.{count}
use Rattle.gcx_model.specs.Core.{BodyTree, PlanTree}
use Rattle.gcx_model.specs.Cores.{Good}
use Rattle.gcx_model.specs.Placed.{Placed}
use Rattle.gcx_model.specs.Held.{path_of, statement_of, given, taken, sum_taken, all_signed, on_off}
use Rattle.tree_laws.proofs.Lists.{filter_none}
use Rattle.buf_tree.proofs.Starting.{none_taken}

module _ (core : BodyTree) (good : Good core) (plan : PlanTree) (pl : Placed core plan) where
  not_taken : (r : ℕ) → taken plan opening [] Root r ≡ false
  not_taken r = elim (cases_Bool (given plan opening Root r)) [
    | inl g ↦ ap (λ b. b && on_off (all_signed (path_of plan) opening [] Root) (statement_of plan r)) g ∙ none_taken core good plan pl r g
    | inr g ↦ ap (λ b. b && on_off (all_signed (path_of plan) opening [] Root) (statement_of plan r)) g
  ]

  pub sum_starts : sum_taken plan opening [] ≡ 0
  sum_starts = ap (λ (rs : List ℕ). 0 + length rs) (filter_none (taken plan opening [] Root) (count 0 (length plan.roles)) (λ r i. not_taken r))
