-- The statements and paths of a placed plan.
use Rattle.std.proofs.Common.{◌≡◌, ℕ, Bool, true, List, [], ◌∷◌, refl, sym, ap, subst, inl, Some}
use Rattle.std.specs.List.{filter}
use Rattle.std.proofs.lemmas.Bool.{eqb-true}
use Rattle.std.proofs.lemmas.Option.{same_Some}
use Rattle.gcx_model.specs.Tree.{serial_of}
use Rattle.gcx_model.specs.Paths.{head}
use Rattle.gcx_model.specs.Members.{In}
use Rattle.gcx_model.specs.Core.{BodyTree, OffTree}
use Rattle.gcx_model.specs.Run.{Offed}
use Rattle.gcx_model.specs.Variables.{var_tree, path_in}
use Rattle.gcx_model.specs.Roles.{roles_of}
use Rattle.gcx_model.specs.Cores.{Good}
use Rattle.gcx_model.specs.Placed.{offs_in, of_role, offs_of, plan_of}
use Rattle.gcx_model.specs.Held.{path_of, statement_of}
use Rattle.placed_laws.specs.Plans.{SignedByRole, OneStatement, PathsByRows}
use Rattle.tree_laws.proofs.Lists.{In-filter}
use Rattle.placed_laws.proofs.CorePlans.{same_role}
use Rattle.placed_laws.proofs.Placed.{one_statement, statements_only}
use Rattle.placed_laws.proofs.Bridge.{path_is}
use Rattle.placed_laws.proofs.FromPlans.{from_plan}
use Rattle.tree_laws.proofs.OffsSigned.{signed_is_off}

pub paths_by_rows : PathsByRows
paths_by_rows core good plan pl x = from_plan core good (λ plan. path_of plan x ≡ path_in core x) (path_is core good x) plan pl

head_filter : (p : OffTree → Bool) (os : List OffTree) (o : OffTree) → head (filter p os) ≡ Some o → In o os × (p o ≡ true)
head_filter p os o e = go (filter p os) refl e
  where
    go : (xs : List OffTree) → filter p os ≡ xs → head xs ≡ Some o → In o os × (p o ≡ true)
    go [] f g = absurd (cc)
    go (x ∷ xs) f g = In-filter p o os (subst (λ (z : List OffTree). In o z) (sym f) (inl (same_Some _ _ g)))

one_at : (core : BodyTree) (good : Good core) (r : ℕ) (o : OffTree) → ((statement_of (plan_of core) r ≡ Some o) → (In o (offs_in (plan_of core).body) × (o.role ≡ r))) × ((In o (offs_in (plan_of core).body) × (o.role ≡ r)) → (statement_of (plan_of core) r ≡ Some o))
one_at core good r o = (
  (λ e. let h = head_filter (of_role r) (offs_in (plan_of core).body) o e in (h.0, eqb-true _ _ h.1)),
  (λ h. subst (λ (z : ℕ). statement_of (plan_of core) z ≡ Some o) h.1 (ap head (one_statement core good o (statements_only core good o h.0)))),
)

pub one_statement_law : OneStatement
one_statement_law core good plan pl r o =
    from_plan core good (λ plan. ((statement_of plan r ≡ Some o) → (In o (offs_in plan.body) × (o.role ≡ r))) × ((In o (offs_in plan.body) × (o.role ≡ r)) → (statement_of plan r ≡ Some o))) (one_at core good r o) plan pl

pub signed_by_role : SignedByRole
signed_by_role core good plan pl A stated s m i = (
  (λ h. (s, (signed_is_off A s m).0 h, refl)),
  (λ h. (signed_is_off A s m).1 (subst (λ (z : OffTree). In (Offed z (serial_of m)) A) (same h.0 (stated h.0 (serial_of m) h.1) h.2) h.1)),
)
  where
    known : (o : OffTree) → In o (offs_in plan.body) → In o (offs_of core)
    known o h = from_plan core good (λ plan. In o (offs_in plan.body) → In o (offs_of core)) (statements_only core good o) plan pl h

    same : (o : OffTree) → In o (offs_in plan.body) → o.role ≡ s.role → o ≡ s
    same o h e = same_role (var_tree core) (roles_of core) 0 (roles_of core) o s (known o h) (known s i) e
