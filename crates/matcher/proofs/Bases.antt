-- A statement is signed at nodes alone to which the path of a state leads.
use Rattle.std.proofs.Common.{◌≡◌, ℕ, zero, suc, ◌<◌, true, List, [], ◌∷◌, ◌++◌, length, refl, sym, ◌∙◌, ap, subst, arith, eqb, Some}
use Rattle.std.proofs.lemmas.Bool.{and_parts, eqb-true, false≢true}
use Rattle.std.proofs.lemmas.List.{append-nil, length-append}
use Rattle.gcx_base.specs.declared.steps.Step.{Step}
use Rattle.gcx_model.specs.Tree.{Node, serial_of}
use Rattle.gcx_model.specs.Paths.{hits}
use Rattle.gcx_model.specs.Nodes.{Grown}
use Rattle.gcx_model.specs.Core.{BodyTree, OffTree, RoleRowTree, PlanTree}
use Rattle.gcx_model.specs.Cores.{Good}
use Rattle.gcx_model.specs.Run.{Action, Wrote, Offed}
use Rattle.gcx_model.specs.Equal.{off_eq}
use Rattle.gcx_model.specs.Held.{path_of, is_off, signed}
use Rattle.gcx_model.specs.Past.{Past, IsPast}
use Rattle.gcx_model.specs.Placed.{offs_in, row_at, Placed}
use Rattle.tree_laws.proofs.Lists.{In, any_in}
use Rattle.tree_laws.proofs.Equal.{off_same}
use Rattle.tree_laws.proofs.Matches.{Numbered-same, Matches-in}
use Rattle.placed_laws.proofs.PlanStatements.{paths_by_rows}
use Rattle.tree_laws.proofs.Fed.{grown_from}
use Rattle.path_states.specs.PathTree.{IsPathTree}
use Rattle.path_states.specs.declared.paths.PathTree.{PathTree}
use Rattle.path_states.proofs.Looking.{some_at}
use Rattle.matcher.proofs.Origins.{last_part}

-- the action that signs a statement at a node
pub signed_by : (A : List Action) (o : OffTree) (n : Node) → signed A o n ≡ true → In (Offed o (serial_of n)) A
signed_by A o n h = let r = any_in (is_off o (serial_of n)) A h in go r.0 r.1 r.2
  where
    go : (a : Action) → In a A → is_off o (serial_of n) a ≡ true → In (Offed o (serial_of n)) A
    go (Wrote b) i e = absurd (false≢true e)
    go (Offed p k) i e =
        let q = and_parts (off_eq o p) (eqb k (serial_of n)) e in
        let f : Offed p k ≡ Offed o (serial_of n) = ap (λ (z : OffTree). Offed z k) (off_same o p q.0) ∙ ap (λ (z : ℕ). Offed o z) (eqb-true k (serial_of n) q.1) in
        subst (λ (z : Action). In z A) f i

module _ (plan : PlanTree) (t : PathTree) (A : IsPathTree plan t) where
  -- the path of a state without its last steps is that of a state
  pub shorter : (k : ℕ) (base rest : List Step) (c : ℕ) → length rest ≡ k → c < length t.states.items → A.path c ≡ base ++ rest → (b : ℕ) × (b < length t.states.items) × (A.path b ≡ base)
  shorter zero base [] c e l p = (c, l, p ∙ append-nil base)
  shorter zero base (x ∷ xs) c e l p = absurd (omega arith)
  shorter (suc k) base rest c e l p =
      let s = some_at t.states.items c l in
      let y = A.step c s.0 s.1 (behind c p) in
      let d = last_part base rest (A.path s.0.parent) s.0.step k (sym y.1 ∙ p) e in
      let m : s.0.parent < length t.states.items = (let z = y.0 in omega arith) in
      shorter k base d.0 s.0.parent d.3 m d.2
    where
      behind : (c : ℕ) → A.path c ≡ base ++ rest → 0 < c
      behind zero f = let g = ap length (sym A.top ∙ f) in let h = length-append base rest in absurd (omega arith)
      behind (suc c) f = omega arith

  pub base_spot : (core : BodyTree) → Good core → Placed core plan → (o : OffTree) → In o (offs_in plan.body) → (b : ℕ) × (b < length t.states.items) × (A.path b ≡ path_of plan o.base)
  base_spot core good placed o i =
      let is = placed.statements o i in
      let at : row_at plan.roles o.role ≡ Some is.row = subst (λ (z : List RoleRowTree). row_at z o.role ≡ Some is.row) (sym placed.roles) is.at in
      let w = A.ways o.role is.row at in
      let rel : path_of plan is.row.var ≡ path_of plan o.base ++ o.rel = paths_by_rows core good plan placed is.row.var ∙ (sym is.rel ∙ ap (λ (z : List Step). z ++ o.rel) (sym (paths_by_rows core good plan placed o.base))) in
      shorter (length o.rel) (path_of plan o.base) o.rel w.0.var refl w.2.var_known (w.2.var ∙ rel)

  -- so where a statement is signed, the path of a state leads
  pub signed_hit : (past : Past) → IsPast past → plan ≡ past.plan → (o : OffTree) (n : Node) → In n past.tree.nodes → signed past.acts o n ≡ true → (b : ℕ) × (b < length t.states.items) × (hits 0 (A.path b) n ≡ true)
  signed_hit past is e o n i h =
      let w : Grown past.tree = grown_from past.tree is.grown in
      let q = is.stated o (serial_of n) (signed_by past.acts o n h) in
      let m = Matches-in past.tree 0 (path_of past.plan o.base) q.1.0 q.1.1 in
      let same : q.1.0 ≡ n = Numbered-same 0 past.tree.nodes w.numbered q.1.0 n m.0 i q.1.2 in
      let b = base_spot is.core is.good (subst (Placed is.core) (sym e) is.placed) o (subst (λ (z : PlanTree). In o (offs_in z.body)) (sym e) q.0) in
      let p : A.path b.0 ≡ path_of past.plan o.base = b.2 ∙ ap (λ (z : PlanTree). path_of z o.base) e in
      (b.0, b.1, subst (λ (z : List Step). hits 0 z n ≡ true) (sym p) (subst (λ (z : Node). hits 0 (path_of past.plan o.base) z ≡ true) same m.1))
