-- What is the same over the same nodes, where other ones of them are open.
use Rattle.std.proofs.Common.{◌≡◌, ℕ, zero, suc, ◌<◌, true, not, ◌||◌, List, [], ◌∷◌, length, map, refl, sym, ◌∙◌, ap, inl, inr, arith, Some, None, Option}
use Rattle.std.proofs.lemmas.Bool.{eq-eqb, ne_eqb}
use Rattle.gcx_model.specs.Tree.{Node, Root, Under, serial_of, kind_of, within, Tree, TreeToken, Start, Chars, End, grow_at, is_open_at, is_closed}
use Rattle.gcx_model.specs.Paths.{matches}
use Rattle.gcx_model.specs.Core.{CondTree, Always, Exists, Compare, Not, AllOf, AnyOf, CondTrees, no_cond, more_conds, OperandTree, Path, Str, Num, First, RoleRowTree, Whole}
use Rattle.gcx_model.specs.Truth.{Env, node_value, settled_values, is_over, settle, negate, truth, truth_all, truth_any}
use Rattle.gcx_model.specs.Roles.{operand_rows, cond_rows, conds_rows}
use Rattle.gcx_model.specs.Needs.{Operand_needs, Cond_needs, Conds_need}
use Rattle.gcx_model.specs.Answer.{is_any, children, child_step}
use Rattle.gcx_model.specs.Run.{copy, copy_with, loop}
use Rattle.tree_laws.proofs.Lists.{In, In-left, In-right, filter_same}
use Rattle.tree_laws.proofs.Matches.{Grown, Matches-in, added_at}
use Rattle.tree_laws.proofs.Freeze.{within_self, within_trans, hits_within}
use Rattle.placed_laws.proofs.Pruned.{loop_same}

abbrev pub open_as : Tree → Option Node → Tree
open_as P at = record { nodes = P.nodes; at = at }

module _ (P : Tree) (at : Option Node) where
  -- the node is open in both or in neither
  abbrev pub IsSame : Node → Type 0
  IsSame m = is_open_at at (serial_of m) ≡ is_open_at P.at (serial_of m)

  closed_same : (m : Node) → IsSame m → is_closed (open_as P at) m ≡ is_closed P m
  closed_same m h = ap not h

  abbrev SameRows : Env → List RoleRowTree → Type 0
  SameRows env rs = (r : RoleRowTree) → In r rs → IsSame (env r.var)

  values_same : (env : Env) (o : OperandTree) → ((m : Node) → In m P.nodes → Operand_needs P env o m → IsSame m) → settled_values (open_as P at) env o ≡ settled_values P env o
  values_same env (Path x tail) h =
      ap (map (node_value P)) (filter_same (is_closed (open_as P at)) (is_closed P) (matches P (serial_of (env x)) tail)
      (λ m i. closed_same m (h m (Matches-in P (serial_of (env x)) tail m i).0 (m, i, within_self (serial_of m) m (eq-eqb _ _ refl)))))
  values_same env (Str b) h = refl
  values_same env (Num l) h = refl

  over_same : (env : Env) (o : OperandTree) → SameRows env (operand_rows o) → is_over (open_as P at) env o ≡ is_over P env o
  over_same env (Path x tail) h = closed_same (env x) (h (record { var = x; tail = tail; kind = Whole }) (inl refl))
  over_same env (Str b) h = refl
  over_same env (Num l) h = refl

  mutual
    pub truth_same : (c : CondTree) (env : Env) → SameRows env (cond_rows c) → ((m : Node) → In m P.nodes → Cond_needs P env c m → IsSame m) → truth c env (open_as P at) ≡ truth c env P
    truth_same Always env r h = refl
    truth_same (Exists x tail) env r h = ap (settle (is_any (matches P (serial_of (env x)) tail))) (closed_same (env x) (r (record { var = x; tail = tail; kind = First }) (inl refl)))
    truth_same (Compare l rel s) env r h = rw (
      values_same env l (λ m i k. h m i (inl k)),
      values_same env s (λ m i k. h m i (inr k)),
      over_same env l (λ q i. r q (In-left q (operand_rows l) (operand_rows s) i)),
      over_same env s (λ q i. r q (In-right q (operand_rows l) (operand_rows s) i)),
    ) refl
    truth_same (Not c) env r h = ap negate (truth_same c env r h)
    truth_same (AllOf cs) env r h = all_same cs env r h
    truth_same (AnyOf cs) env r h = some_same cs env r h

    all_same : (cs : CondTrees) (env : Env) → SameRows env (conds_rows cs) → ((m : Node) → In m P.nodes → Conds_need P env cs m → IsSame m) → truth_all cs env (open_as P at) ≡ truth_all cs env P
    all_same no_cond env r h = refl
    all_same (more_conds c cs) env r h = rw (
      truth_same c env (λ q i. r q (In-left q (cond_rows c) (conds_rows cs) i)) (λ m i k. h m i (inl k)),
      all_same cs env (λ q i. r q (In-right q (cond_rows c) (conds_rows cs) i)) (λ m i k. h m i (inr k)),
    ) refl

    some_same : (cs : CondTrees) (env : Env) → SameRows env (conds_rows cs) → ((m : Node) → In m P.nodes → Conds_need P env cs m → IsSame m) → truth_any cs env (open_as P at) ≡ truth_any cs env P
    some_same no_cond env r h = refl
    some_same (more_conds c cs) env r h = rw (
      truth_same c env (λ q i. r q (In-left q (cond_rows c) (conds_rows cs) i)) (λ m i k. h m i (inl k)),
      some_same cs env (λ q i. r q (In-right q (cond_rows c) (conds_rows cs) i)) (λ m i k. h m i (inr k)),
    ) refl

  pub copy_same : Grown P → (most : ℕ) (n : Node) → In n P.nodes → ((m : Node) → In m P.nodes → within (serial_of n) m ≡ true → IsSame m) → copy most (open_as P at) n ≡ copy most P n
  copy_same w zero n i h = refl
  copy_same w (suc most) n i h =
      let in_n : (m : Node) → In m (children P n) → In m P.nodes × (within (serial_of n) m ≡ true) = λ m j. let q = Matches-in P (serial_of n) (child_step ∷ []) m j in (q.0, hits_within (serial_of n) (child_step ∷ []) m q.1) in
      ap (copy_with (kind_of n))
      (ap (loop (copy most (open_as P at)) (children P n)) (closed_same n (h n i (within_self (serial_of n) n (eq-eqb _ _ refl))))
      ∙ loop_same (copy most (open_as P at)) (copy most P) (children P n) (is_closed P n)
      (λ m j. let q = in_n m j in copy_same w most m q.0 (λ a k b. h a k (within_trans P w (serial_of n) m a q.0 k q.1 b))))

-- what a token adds has the next number
pub added_serial : (at : Option Node) (t : TreeToken) (P : Tree) (m : Node) → In m (added_at at t P) → serial_of m ≡ length P.nodes
added_serial None t P m i = absurd i
added_serial (Some p) (Start name) P m (inl e) = ap serial_of (sym e)
added_serial (Some p) (Start name) P m (inr i) = absurd i
added_serial (Some p) (Chars b) P m (inl e) = ap serial_of (sym e)
added_serial (Some p) (Chars b) P m (inr i) = absurd i
added_serial (Some p) End P m i = absurd i

-- it is one node at most
pub added_one : (at : Option Node) (t : TreeToken) (P : Tree) (m n : Node) → In m (added_at at t P) → In n (added_at at t P) → m ≡ n
added_one None t P m n i j = absurd i
added_one (Some p) (Start name) P m n (inl e) (inl f) = sym e ∙ f
added_one (Some p) (Start name) P m n (inl e) (inr j) = absurd j
added_one (Some p) (Start name) P m n (inr i) j = absurd i
added_one (Some p) (Chars b) P m n (inl e) (inl f) = sym e ∙ f
added_one (Some p) (Chars b) P m n (inl e) (inr j) = absurd j
added_one (Some p) (Chars b) P m n (inr i) j = absurd i
added_one (Some p) End P m n i j = absurd i

-- where it adds a node, those that were there are open where they were
pub open_kept : (at : Option Node) (t : TreeToken) (P : Tree) (m : Node) → In m (added_at at t P) → (k : ℕ) → k < length P.nodes → is_open_at (grow_at at t P).at k ≡ is_open_at at k
open_kept None t P m i k l = absurd i
open_kept (Some p) (Start name) P m i k l = ap (λ b. b || within k p) (ne_eqb (length P.nodes) k (λ e. omega arith))
open_kept (Some p) (Chars b) P m i k l = refl
open_kept (Some p) End P m i k l = absurd i

-- where it closes a node, so are the others
pub others_kept : (p : Node) (P : Tree) (k : ℕ) → (serial_of p ≡ k → ⊥) → is_open_at (grow_at (Some p) End P).at k ≡ within k p
others_kept Root P k n = sym (ne_eqb 0 k n)
others_kept (Under q s kd) P k n = ap (λ b. b || within k q) (sym (ne_eqb s k n))

pub end_nodes : (at : Option Node) (P : Tree) → added_at at End P ≡ []
end_nodes None P = refl
end_nodes (Some p) P = refl
