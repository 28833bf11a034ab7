-- What a placed plan tells of its statements.
use Rattle.std.proofs.Common.{◌≡◌, ℕ, ◌&&◌, List, [], ◌∷◌, ◌++◌, refl, sym, ◌∙◌, ap, subst, inl, Some}
use Rattle.std.proofs.lemmas.List.{append-nil}
use Rattle.std.proofs.lemmas.Bool.{eqb-true}
use Rattle.std.proofs.lemmas.Option.{same_Some}
use Rattle.gcx_model.specs.Tree.{Node, Tree}
use Rattle.gcx_model.specs.Members.{In}
use Rattle.gcx_model.specs.Core.{Own, BodyTree, OffTree, RoleRowTree, PlanTree}
use Rattle.gcx_model.specs.Run.{Action}
use Rattle.gcx_model.specs.Variables.{Var, var_tree, path_in, vars}
use Rattle.gcx_model.specs.Roles.{own_row, roles_of}
use Rattle.gcx_model.specs.Cores.{Good}
use Rattle.gcx_model.specs.Placed.{offs_in, of_role, row_at, Placed}
use Rattle.gcx_model.specs.Held.{path_of, statement_of, gives, on_row, given_row, given, all_signed, on_off, taken}
use Rattle.tree_laws.proofs.Lists.{In-filter}
use Rattle.placed_laws.proofs.CorePlans.{good_based, roles_known}
use Rattle.placed_laws.proofs.Ends.{cancel, row_in}
use Rattle.placed_laws.proofs.Unique.{row_below}
use Rattle.placed_laws.proofs.PlanStatements.{paths_by_rows, one_statement_law}

-- the row and the path of its role; and its base's own role, whose statement has no steps
pub record Told (plan : PlanTree) (s : OffTree) : Type 0 where
  pub row : RoleRowTree
  pub at : row_at plan.roles s.role ≡ Some row
  pub path : path_of plan row.var ≡ path_of plan s.base ++ s.rel
  pub tail : row.tail ≡ s.tail
  pub kind : row.kind ≡ s.kind
  pub stated : statement_of plan s.role ≡ Some s
  pub own : OffTree
  pub own_in : In own (offs_in plan.body)
  pub own_role : own.role ≡ s.own
  pub own_base : own.base ≡ s.base
  pub own_rel : own.rel ≡ []
  pub own_kind : own.kind ≡ Own

pub told : (core : BodyTree) → Good core → (plan : PlanTree) → Placed core plan → (s : OffTree) → In s (offs_in plan.body) → Told plan s
told core good plan pl s i =
    let q = pl.statements s i in
    let V : ℕ → Var = var_tree core in
    let paths : (x : ℕ) → path_of plan x ≡ path_in core x = paths_by_rows core good plan pl in
    let b = good_based core good q.row.var (roles_known core good q.row (row_in (roles_of core) s.role q.row q.at)) in
    let known : In s.base (0 ∷ vars core) = subst (λ (z : ℕ). In z (0 ∷ vars core)) (sym q.base) b.known in
    let self = (good_based core good s.base known).self (ap (λ (z : ℕ). (V z).straight) q.base ∙ b.straight) in
    let one = pl.one s.own (row_below (roles_of core) s.own (own_row s.base) q.own) in
    let found = In-filter (of_role s.own) one.0 (offs_in plan.body) (subst (λ (z : List OffTree). In one.0 z) (sym one.1) (inl refl)) in
    let role : (one.0).role ≡ s.own = eqb-true _ _ found.1 in
    let o = pl.statements one.0 found.0 in
    let row : o.row ≡ own_row s.base = same_Some _ _ (sym o.at ∙ (ap (row_at (roles_of core)) role ∙ q.own)) in
    let base : (one.0).base ≡ s.base = o.base ∙ (ap (λ (z : RoleRowTree). (V z.var).base) row ∙ self.0) in
    let rel : (one.0).rel ≡ [] = cancel (path_in core s.base) (one.0).rel [] (ap (λ (z : ℕ). path_in core z ++ (one.0).rel) (sym base) ∙ (o.rel ∙ (ap (λ (z : RoleRowTree). path_in core z.var) row ∙ sym (append-nil (path_in core s.base))))) in
    record {
      row = q.row;
      at = ap (λ z. row_at z s.role) pl.roles ∙ q.at;
      path = paths q.row.var ∙ (sym q.rel ∙ ap (λ z. z ++ s.rel) (sym (paths s.base)));
      tail = sym q.tail;
      kind = sym q.kind;
      stated = (one_statement_law core good plan pl s.role s).1 (i, refl);
      own = one.0;
      own_in = found.0;
      own_role = role;
      own_base = base;
      own_rel = rel;
      own_kind = o.kind ∙ ap (λ (z : RoleRowTree). z.kind) row;
    }

module _ (plan : PlanTree) (s : OffTree) (t : Told plan s) where
  -- what its role is given to
  pub given_told : (Q : Tree) (n : Node) → given plan Q n s.role ≡ gives Q 0 (path_of plan s.base ++ s.rel) s.tail s.kind n
  given_told Q n =
      ap (on_row (given_row (path_of plan) Q n)) t.at
      ∙ (ap (λ z. gives Q 0 z t.row.tail t.row.kind n) t.path
      ∙ (ap (λ z. gives Q 0 (path_of plan s.base ++ s.rel) z t.row.kind n) t.tail ∙ ap (λ z. gives Q 0 (path_of plan s.base ++ s.rel) s.tail z n) t.kind))

  -- and where it is taken
  pub taken_told : (Q : Tree) (A : List Action) (n : Node) → taken plan Q A n s.role ≡ (given plan Q n s.role && all_signed (path_of plan) Q A n s)
  taken_told Q A n = ap (λ z. given plan Q n s.role && on_off (all_signed (path_of plan) Q A n) z) t.stated
