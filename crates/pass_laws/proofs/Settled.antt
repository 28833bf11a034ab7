-- Where the nodes of the variables are closed that a body uses, no more nodes come for it.
use Rattle.std.proofs.Common.{◌≡◌, ℕ, true, [], ◌∷◌, refl, inl, inr, ◌⊎◌}
use Rattle.std.proofs.lemmas.Bool.{eq-eqb, ne_eqb, cases_eq}
use Rattle.gcx_base.specs.declared.steps.Step.{Step}
use Rattle.gcx_model.specs.Tree.{Node, serial_of, Tree, opening, is_closed}
use Rattle.gcx_model.specs.Paths.{matches}
use Rattle.gcx_model.specs.Members.{In}
use Rattle.gcx_model.specs.Growth.{Leads}
use Rattle.gcx_model.specs.Core.{OperandTree, Path, Str, Num, CondTree, CondTrees, Always, Exists, Compare, Not, AllOf, AnyOf, no_cond, more_conds, ItemTree, Write, Copy, For, If, SignOff, BodyTree, Nil, Then, First, Whole, RoleRowTree}
use Rattle.gcx_model.specs.Roles.{operand_rows, cond_rows, conds_rows}
use Rattle.gcx_model.specs.Truth.{Env, bind_var, is_over}
use Rattle.tree_laws.proofs.Lists.{In-left, In-right}
use Rattle.tree_laws.proofs.Matches.{Matches-in}
use Rattle.tree_laws.proofs.Freeze.{closed_below, hits_within}
use Rattle.tree_laws.proofs.Fed.{grown_from}
use Rattle.pass_laws.specs.Idle.{IsSettled, AreSettled, IsItemSettled, IsBodySettled, FreeIn, FreeInItem, ClosedAreSettled}

module _ (P : Tree) (lo : Leads opening P) where
  over : (env : Env) (o : OperandTree) → ((r : RoleRowTree) → In r (operand_rows o) → is_closed P (env r.var) ≡ true) → is_over P env o ≡ true
  over env (Path x steps) h = h (record { var = x; tail = steps; kind = Whole }) (inl refl)
  over env (Str b) h = refl
  over env (Num l) h = refl

  mutual
    cond_settled : (env : Env) (c : CondTree) → ((r : RoleRowTree) → In r (cond_rows c) → is_closed P (env r.var) ≡ true) → IsSettled P env c
    cond_settled env Always h = tt
    cond_settled env (Exists x steps) h = h (record { var = x; tail = steps; kind = First }) (inl refl)
    cond_settled env (Compare l rel r) h = (over env l (λ q i. h q (In-left q (operand_rows l) (operand_rows r) i)), over env r (λ q i. h q (In-right q (operand_rows l) (operand_rows r) i)))
    cond_settled env (Not c) h = cond_settled env c h
    cond_settled env (AllOf cs) h = conds_settled env cs h
    cond_settled env (AnyOf cs) h = conds_settled env cs h

    conds_settled : (env : Env) (cs : CondTrees) → ((r : RoleRowTree) → In r (conds_rows cs) → is_closed P (env r.var) ≡ true) → AreSettled P env cs
    conds_settled env no_cond h = tt
    conds_settled env (more_conds c cs) h = (cond_settled env c (λ q i. h q (In-left q (cond_rows c) (conds_rows cs) i)), conds_settled env cs (λ q i. h q (In-right q (cond_rows c) (conds_rows cs) i)))

  abbrev AllClosed : Env → BodyTree → Type 0
  AllClosed env d = (z : ℕ) → FreeIn z d → is_closed P (env z) ≡ true

  inner : (x y : ℕ) (s : Step) (e : BodyTree) (env : Env) (m : Node) → ((z : ℕ) → FreeInItem z (For x y s e) → is_closed P (env z) ≡ true) → In m (matches P (serial_of (env y)) (s ∷ [])) → AllClosed (bind_var env x m) e
  inner x y s e env m h i z f = go (cases_eq z x)
    where
      closed : is_closed P m ≡ true
      closed = let q = Matches-in P (serial_of (env y)) (s ∷ []) m i in closed_below P (grown_from P lo) (env y) m q.0 (hits_within (serial_of (env y)) (s ∷ []) m q.1) (h y (inl refl))

      go : (z ≡ x) ⊎ (z ≡ x → ⊥) → is_closed P (bind_var env x m z) ≡ true
      go (inl g) = rw (eq-eqb z x g) closed
      go (inr g) = rw (ne_eqb z x g) (h z (inr (f, g)))

  mutual
    item_settled : (i : ItemTree) (env : Env) → ((z : ℕ) → FreeInItem z i → is_closed P (env z) ≡ true) → IsItemSettled P env i
    item_settled (Write b) env h = tt
    item_settled (Copy x) env h = tt
    item_settled (For x y s e) env h = (h y (inl refl), λ m i. body_settled e (bind_var env x m) (inner x y s e env m h i))
    item_settled (If c a b) env h = cond_settled env c (λ r i. h r.var (r, i, refl))
    item_settled (SignOff o) env h = tt

    body_settled : (d : BodyTree) (env : Env) → AllClosed env d → IsBodySettled P env d
    body_settled Nil env h = tt
    body_settled (Then i d) env h = (item_settled i env (λ z f. h z (inl f)), body_settled d env (λ z f. h z (inr f)))

pub closed_are_settled : ClosedAreSettled
closed_are_settled P lo d env h = body_settled P lo d env h
