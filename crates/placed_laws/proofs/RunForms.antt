-- Runs over a tree that grows: the prefix law, the closed law, and points.
use Rattle.std.proofs.Common.{ℕ, ◌≤◌, true, false, [], sym, ◌∙◌, ap, subst, arith}
use Rattle.std.specs.Prelude.{drop}
use Rattle.std.proofs.lemmas.List.{append-nil, take-append-drop}
use Rattle.std.proofs.lemmas.Bool.{true≢false}
use Rattle.gcx_model.specs.Tree.{Root, Tree}
use Rattle.gcx_model.specs.Nodes.{Grown}
use Rattle.gcx_model.specs.Core.{PlanTree}
use Rattle.gcx_model.specs.Run.{Out, run, env0}
use Rattle.gcx_model.specs.Growth.{Leads, stays, more}
use Rattle.gcx_model.specs.Points.{actions, so_far, ReachedFrom, here, fed, acted}
use Rattle.placed_laws.specs.Runs.{GoesOn, PrefixLaw, ClosedLaw, PointLaw, ResumeLaw}
use Rattle.tree_laws.proofs.Matches.{Numbered-high}
use Rattle.placed_laws.proofs.Prefix.{Before, Same, More}
use Rattle.placed_laws.proofs.Whole.{run_grows_all, run_is_done}
use Rattle.placed_laws.proofs.PointForms.{resume}
use Rattle.placed_laws.proofs.Points.{point}
use Rattle.tree_laws.proofs.Fed.{closed_all, grown_from, root_from}
use Rattle.tree_laws.proofs.Growing.{fed_all}

goes_on : (a b : Out) → Before a b → GoesOn a b
goes_on a b (Same e) = (([], ap (λ (z : Out). z.acts) (sym e) ∙ sym (append-nil a.acts)), λ d. sym e)
goes_on a b (More f r e) = ((r, e), λ d. absurd (true≢false (sym d ∙ f)))

pub prefix_law : PrefixLaw
prefix_law P Q l m d env b =
    let w : Grown P = grown_from P l in
    let s = fed_all P Q m in
    goes_on (run d env P) (run d env Q) (subst (λ (z : Tree). Before (run d env P) (run d env z)) (sym s.2) (run_grows_all s.0 P w d env (λ x. let h = Numbered-high 0 P.nodes w.numbered (env x) (b x) in omega arith)))

pub closed_law : ClosedLaw
closed_law P l c d env b = run_is_done P (grown_from P l) (closed_all P (c Root (root_from P l))) d env b

pub reached_leads : (plan : PlanTree) (P0 : Tree) (k0 : ℕ) (P : Tree) (k : ℕ) → ReachedFrom plan P0 k0 P k → Leads P0 P × (k0 ≤ k)
reached_leads plan P0 k0 P k here = (stays, omega arith)
reached_leads plan P0 k0 P k (fed h g) = let r = reached_leads plan P0 k0 _ k h in (more r.0 g, r.1)
reached_leads plan P0 k0 P k (acted h l) = let r = reached_leads plan P0 k0 P _ h in (r.0, omega (arith, r.1))

pub point_law : PointLaw
point_law plan P k = point P plan.body env0 (so_far plan P k) (drop k (actions plan P)) (sym (take-append-drop k (actions plan P)))

pub resume_law : ResumeLaw
resume_law plan P l k fs st = let e = resume P (grown_from P l) plan.body env0 (so_far plan P k) fs st in (ap (λ (z : Out). z.acts) e, ap (λ (z : Out). z.done) e)
