use Rattle.std.proofs.Common.{◌≡◌, ℕ, ◌+◌, List, [], ◌∷◌, ◌++◌, map, take, sym, ◌∙◌, ap}
use Rattle.std.specs.Prelude.{slice_index_or}
use Rattle.std.specs.Global.{Vec}
use Rattle.std.proofs.lemmas.List.{map-append, take_more}
use Rattle.gcx_model.specs.Core.{VarRowTree}
use Rattle.gcx_model.specs.Paths.{hits}
use Rattle.gcx_model.specs.PlanView.{var_row_tree}
use Rattle.trace_check.specs.Reaching.{numbers_of}
use Rattle.trace_check.specs.Wanting.{lists_in, matches_by, path_in, row_paths}
use Rattle.trace_check.proofs.Givens.{matches_of_var, matches_push, root_alone}
use Rattle.trace_check.proofs.given.matches_of.Goals as goal

pub loop-row-init : goal.loop-row-init
loop-row-init c =
    ap lists_in c.in_ok-push.ensures.items
    ∙ (ap (λ l. lists_in (l ++ c.in_ok-root.field-0 ∷ [])) c.new-matches.ensures.items
    ∙ ap (λ (n : List ℕ). n ∷ []) (c.in_ok-root.ensures ∙ sym (root_alone c.args.tree.now c.requires.grown c.requires.some)))

pub loop-row-preserved : goal.loop-row-preserved
loop-row-preserved c =
    let x : ℕ = c.row-item.result.parent.0 in
    let rows : List VarRowTree = map var_row_tree (take c.loop-row.row-index c.args.vars.now) in
    let parents : c.in_ok-parents.parents.items ≡ numbers_of c.args.tree.now (hits 0 (path_in (row_paths rows) x))
    = c.in_ok-parents.ensures
    ∙ (ap (λ l. slice_index_or (lists_in l) x (0 ∷ [])) c.deref.ensures.value
    ∙ (ap (λ l. slice_index_or l x (0 ∷ [])) c.loop-row.invariant ∙ matches_of_var c.args.tree.now c.requires.grown c.requires.some (row_paths rows) x)) in
    let found = c.in_ok-reached_from.ensures (hits 0 (path_in (row_paths rows) x)) (c.deref-in-loop-row.ensures.value ∙ parents) in
    let more : rows ++ var_row_tree c.row-item.result ∷ [] ≡ map var_row_tree (take (c.loop-row.row-index + 1) c.args.vars.now)
    = ap (λ r. rows ++ var_row_tree r ∷ []) c.row-item.is
    ∙ (sym (map-append var_row_tree (take c.loop-row.row-index c.args.vars.now) _) ∙ sym (ap (map var_row_tree) (take_more c.args.vars.now c.loop-row.row-index c.row-item.result c.loop-row-test.true))) in
    ap lists_in c.in_ok-push-2.ensures.items
    ∙ (map-append (λ (v : Vec ℕ). v.items) c.loop-row.matches.items (c.in_ok-reached_from.field-0 ∷ [])
    ∙ (matches_push c.args.tree.now c.requires.grown rows (var_row_tree c.row-item.result) (lists_in c.loop-row.matches.items) c.in_ok-reached_from.field-0.items c.loop-row.invariant found
    ∙ ap (λ rs. matches_by c.args.tree.now (row_paths rs)) more))
