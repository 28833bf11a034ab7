use Rattle.std.proofs.Common.{◌≡◌, ◌∙◌, ℕ, ap, length, map, sym, subst, List, Option, Some, None, is_some}
use Rattle.std.specs.Prelude.{slice_index_or}
use Rattle.spread_laws.specs.Tops.{tops_of}
use Rattle.gcx_model.specs.declared.item.Off.{Off}
use Rattle.gcx_model.specs.declared.plan.VarRow.{VarRow}
use Rattle.gcx_model.specs.PlanView.{plan_tree, var_row_tree}
use Rattle.buf_tree.specs.Tops.{alone_by, trees_of}
use Rattle.buf_tree.proofs.Tables.{table_is, own_role}
use Rattle.buf_tree.proofs.spread.Spread.of.Goals as goal

pub roles_of-requires : goal.roles_of-requires
roles_of-requires c =
    let r = c.requires in
    let told : trees_of c.put_body.new.tops.items ≡ tops_of (plan_tree c.args.plan.now) =
    table_is r.0 r.1 c.args.plan.now r.2 _ (ap length c.items.ensures) _ _ c.in_ok-tops.ensures c.in_ok-put_body.ensures in
    subst (λ (ts : List (Option Off)). (k : ℕ) (top : Off) → slice_index_or ts k None ≡ Some top → top.role.0 ≡ k) (sym c.deref.ensures.value)
    (own_role r.0 r.1 (plan_tree c.args.plan.now) r.2 c.put_body.new.tops.items told)

pub invariant_of-result : goal.invariant_of-result
invariant_of-result c =
    let r = c.requires in
    let told : trees_of c.put_body.new.tops.items ≡ tops_of (plan_tree c.args.plan.now) =
    table_is r.0 r.1 c.args.plan.now r.2 _ (ap length c.items.ensures) _ _ c.in_ok-tops.ensures c.in_ok-put_body.ensures in
    let own = own_role r.0 r.1 (plan_tree c.args.plan.now) r.2 c.put_body.new.tops.items told in (
      (λ k. c.in_ok-roles.ensures k ∙ ap (λ (ts : List (Option Off)). is_some (slice_index_or ts k None)) c.deref.ensures.value),
      (λ k top e. (own k top e, c.in_ok-flags.ensures k top (ap (λ (ts : List (Option Off)). slice_index_or ts k None) c.deref-2.ensures.value ∙ e))),
    )

pub returns : goal.returns
returns c =
    let r = c.requires in
    record {
      tops = table_is r.0 r.1 c.args.plan.now r.2 _ (ap length c.items.ensures) _ _ c.in_ok-tops.ensures c.in_ok-put_body.ensures;
      alone = c.in_ok-alone.ensures ∙ ap (λ (rows : List VarRow). alone_by (map var_row_tree rows)) c.items-2.ensures;
    }
