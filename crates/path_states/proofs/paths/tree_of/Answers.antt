use Rattle.std.proofs.Common.{◌≡◌, ◌<◌, ℕ, List, [], ◌∷◌, ◌++◌, map, sym, ◌∙◌, ap, subst, Some, false}
use Rattle.std.specs.Prelude.{slice_get}
use Rattle.gcx_base.specs.declared.kind.Kind.TheVariants.{Text}
use Rattle.gcx_model.specs.Held.{paths_from}
use Rattle.gcx_base.specs.Tests.{passes}
use Rattle.gcx_model.specs.PlanView.{plan_tree, role_row_tree, var_row_tree}
use Rattle.gcx_model.specs.declared.plan.RoleRow.{RoleRow}
use Rattle.gcx_model.specs.declared.plan.VarRow.{VarRow}
use Rattle.path_states.specs.Growing.{Growing, Ended}
use Rattle.path_states.specs.declared.paths.PathState.{PathState}
use Rattle.path_states.proofs.Sprouting.{growing_top, are_states}
use Rattle.path_states.proofs.paths.tree_of.Goals as goal

pub returns : goal.returns
returns c =
    let start : c.push.new.self.items ≡ c.top.result ∷ [] = c.in_ok-push.ensures.items ∙ ap (λ (z : List PathState). z ++ c.top.result ∷ []) c.new-tree.ensures.items in
    let g : Growing c.push.new.self.items ([] ∷ []) [] = subst (λ (z : List PathState). Growing z ([] ∷ []) []) (sym start) (growing_top c.top.result c.top.ensures.0 c.top.ensures.1) in
    let vars : Growing c.put_vars.new.tree.items (paths_from ([] ∷ []) (map var_row_tree c.args.plan.now.vars)) [] =
    subst (λ (z : List VarRow). Growing c.put_vars.new.tree.items (paths_from ([] ∷ []) (map var_row_tree z)) []) c.items.ensures (c.in_ok-put_vars.ensures ([] ∷ []) [] g) in
    let ended = subst (λ (z : List RoleRow). Ended (plan_tree c.args.plan.now) c.put_ways.new.tree.items c.in_ok-ways.ways.items (map role_row_tree z)) c.items-2.ensures (c.in_ok-ways.ensures (plan_tree c.args.plan.now) vars) in
    are_states (plan_tree c.args.plan.now) _ ended
    (subst (λ (z : List PathState). c.take_texts-texts.result ≡ false → (k : ℕ) (s : PathState) (b : List ℕ) → slice_get z k ≡ Some s → 0 < k → passes s.step.test (Text b) ≡ false) c.deref.ensures.value c.take_texts-texts.ensures)
