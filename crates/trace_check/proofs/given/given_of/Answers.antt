use Rattle.std.proofs.Common.{◌≡◌, ℕ, suc, ◌+◌, List, [], ◌++◌, length, map, replicate, take, drop, All, refl, sym, ◌∙◌, ap, subst, arith}
use Rattle.std.proofs.lemmas.List.{length-map}
use Rattle.gcx_base.specs.declared.ids.Role.{Role}
use Rattle.gcx_base.specs.declared.steps.Step.{Step}
use Rattle.gcx_model.specs.Core.{PlanTree}
use Rattle.gcx_model.specs.Held.{given, given_row, path_of}
use Rattle.gcx_model.specs.Members.{In}
use Rattle.gcx_model.specs.PlanView.{plan_tree, role_row_tree, var_row_tree}
use Rattle.gcx_model.specs.Tree.{Node, serial_of, Tree}
use Rattle.trace_check.specs.Reaching.{covers}
use Rattle.trace_check.specs.Wanting.{AreBelow, lists_in, matches_by, row_paths}
use Rattle.trace_check.proofs.Giving.{HasGiven, given_at, given_below, given_end, given_more, given_start}
use Rattle.trace_check.proofs.Numbers.{lent}
use Rattle.trace_check.proofs.given.given_of.Goals as goal

pub loop-row-init : goal.loop-row-init
loop-row-init c = record {
  given = subst (λ (gs : List (List Role)). HasGiven (plan_tree c.args.plan.now) c.args.tree.now 0 gs) (sym (c.in_ok-given.ensures ∙ ap (λ (n : ℕ). replicate n []) c.count.ensures))
      (given_start (plan_tree c.args.plan.now) c.args.tree.now);
  number = refl;
}

pub give-requires : goal.give-requires
give-requires c = subst (λ (n : ℕ). All (AreBelow (suc n)) c.deref_mut.result.now) (sym c.loop-row.invariant.number)
    (subst (λ (gs : List (List Role)). All (AreBelow (suc c.loop-row.row-index)) gs) (sym c.deref_mut.ensures.value)
    (given_below (plan_tree c.args.plan.now) c.args.tree.now c.requires.grown c.loop-row.row-index c.loop-row.given.items c.loop-row.invariant.given))

pub loop-row-preserved : goal.loop-row-preserved
loop-row-preserved c =
    let plan : PlanTree = plan_tree c.args.plan.now in
    let C : Tree = c.args.tree.now in
    let i : ℕ = c.loop-row.row-index in
    let written : take c.loop-row.given.len (c.give.new.given ++ drop (length c.give.new.given) c.loop-row.given.items) ≡ c.give.new.given =
    lent c.loop-row.given.items c.give.new.given c.loop-row.given.len (c.in_ok-give.ensures.given.as_many ∙ c.deref_mut.ensures.len) in
    let before : HasGiven plan C i c.deref_mut.result.now = subst (λ (gs : List (List Role)). HasGiven plan C i gs) (sym c.deref_mut.ensures.value) c.loop-row.invariant.given in
    let paths : List (List Step) = row_paths (map var_row_tree c.args.plan.now.vars) in
    let found : lists_in c.deref.result.now ≡ matches_by C paths =
    ap lists_in c.deref.ensures.value ∙ (c.in_ok-matches.ensures ∙ ap (λ vars. matches_by C (row_paths (map var_row_tree vars))) c.items.ensures) in
    let same : (n : Node) → In n C.nodes → covers c.deref-in-loop-row.result.now (serial_of n) ≡ given plan C n i =
    λ n k.
    ap (λ ranges. covers ranges (serial_of n)) c.deref-in-loop-row.ensures.value
    ∙ (c.in_ok-ranges.ensures paths found n k
    ∙ (ap (λ row. given_row (path_of plan) C n (role_row_tree row)) c.row-item.is
    ∙ sym (given_at plan C n c.items-row-items.result.now i c.row-item.result (ap (map role_row_tree) c.items-row-items.ensures) c.loop-row-test.true))) in
    let more : HasGiven plan C (suc i) c.give.new.given =
    given_more plan C c.requires.grown i _ (covers c.deref-in-loop-row.result.now) c.deref_mut.result.now c.give.new.given c.loop-row.invariant.number before c.in_ok-give.ensures.given same in
    record {
      given = subst (λ (gs : List (List Role)). HasGiven plan C (i + 1) gs) (sym written) (subst (λ (k : ℕ). HasGiven plan C k c.give.new.given) (let z : suc i ≡ i + 1 = omega arith in z) more);
      number = (let a = c.in_ok-number.ensures in let b = c.loop-row.invariant.number in omega (arith, a, b));
    }

pub returns : goal.returns
returns c =
    let end : c.loop-row.row-index ≡ length (plan_tree c.args.plan.now).roles =
    (let a = c.loop-row-test.false in
    let b = c.loop-row.auto.row-index-end in
    let rows = ap length c.items-row-items.ensures in
    let many = length-map c.args.plan.now.roles role_row_tree in
    omega (arith, a, b, rows, many)) in
    given_end (plan_tree c.args.plan.now) c.args.tree.now c.requires.grown c.loop-row.given.items
    (subst (λ (k : ℕ). HasGiven (plan_tree c.args.plan.now) c.args.tree.now k c.loop-row.given.items) end c.loop-row.invariant.given)
