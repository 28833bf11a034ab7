-- The lists of a core's plan fit together, and are short.
use Rattle.std.proofs.Common.{◌≡◌, ◌≤◌, Bool, true, false, cond, ltb, length, Some, None, sym, ◌∙◌, ap, refl, arith}
use Rattle.std.proofs.lemmas.Bool.{ltb-false}
use Rattle.std.proofs.lemmas.List.{length-map}
use Rattle.gcx_base.specs.declared.ids.VarId.{VarId}
use Rattle.gcx_model.specs.declared.fault.QueryFault.TheVariants.{TooLarge}
use Rattle.gcx_model.specs.declared.fault.What.TheVariants.{Loops}
use Rattle.gcx_model.specs.declared.plan.Plan.{Plan}
use Rattle.gcx_model.specs.Core.{BodyTree, PlanTree}
use Rattle.gcx_model.specs.Placed.{plan_of}
use Rattle.gcx_model.specs.PlanView.{plan_tree, role_row_tree, var_row_tree}
use Rattle.gcx_model.specs.Roles.{roles_of}
use Rattle.gcx_model.specs.Variables.{vars, straight_in, fsa_in}
use Rattle.xq_normal.specs.Sums.{conditions_refusal, loops_of, refusal}
use Rattle.signoff_place.specs.Sized.{IsSized}
use Rattle.signoff_place.proofs.Known.{rows_number}

few_loops : (core : BodyTree) → refusal core ≡ None → length (vars core) ≤ 500
few_loops core e = go (ltb 500 (loops_of core)) refl
  where
    go : (b : Bool) → ltb 500 (loops_of core) ≡ b → length (vars core) ≤ 500
    go false h = ltb-false 500 (loops_of core) h
    go true h = let some : Some (TooLarge Loops 500) ≡ None = sym (ap (λ b. cond b (Some (TooLarge Loops 500)) (conditions_refusal core)) h) ∙ e in absurd (cc)

pub sized : (core : BodyTree) (plan : Plan) → plan_tree plan ≡ plan_of core → refusal core ≡ None → length (roles_of core) ≤ 2000 → IsSized plan
sized core plan e within few = record {
  straight = straight ∙ sym rows;
  fsa = fsa ∙ sym rows;
  vars = let h : length (vars core) ≤ 500 = few_loops core within in omega (arith, rows);
  roles = omega (arith, sym (length-map plan.roles role_row_tree) ∙ ap (λ (p : PlanTree). length p.roles) e);
}
  where
    rows : length plan.vars ≡ length (vars core)
    rows = sym (length-map plan.vars var_row_tree) ∙ (ap (λ (p : PlanTree). length p.vars) e ∙ rows_number core)

    straight : length plan.straight ≡ length (vars core)
    straight = ap (λ (p : PlanTree). length p.straight) e ∙ length-map (vars core) (straight_in core)

    fsa : length plan.fsa ≡ length (vars core)
    fsa = sym (length-map plan.fsa (λ (x : VarId). x.0)) ∙ (ap (λ (p : PlanTree). length p.fsa) e ∙ length-map (vars core) (fsa_in core))
