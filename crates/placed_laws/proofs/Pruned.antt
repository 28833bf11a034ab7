-- What the evaluator reads from the rows that are held is what it would read from the whole tree.
use Rattle.std.proofs.Common.{◌≡◌, ℕ, zero, suc, Bool, true, false, cond, List, [], ◌∷◌, ◌++◌, map, refl, sym, ◌∙◌, ap, inl, inr, ◌⊎◌, Some}
use Rattle.std.specs.List.{filter, flat_map}
use Rattle.std.proofs.lemmas.Bool.{true≢false, eq-eqb}
use Rattle.gcx_model.specs.Tree.{Node, serial_of, kind_of, within, Tree, is_closed}
use Rattle.gcx_base.specs.declared.steps.Step.{Step}
use Rattle.gcx_model.specs.Paths.{hits, matches, head, value, text_of}
use Rattle.gcx_model.specs.Values.{Bytes}
use Rattle.gcx_model.specs.Core.{CondTree, Always, Exists, Compare, Not, AllOf, AnyOf, CondTrees, no_cond, more_conds, OperandTree, Path, Str, Num}
use Rattle.gcx_model.specs.Truth.{Env, node_value, settled_values, is_over, settle, negate, truth, truth_all, truth_any}
use Rattle.gcx_model.specs.Answer.{is_any, children, child_step}
use Rattle.gcx_model.specs.Run.{Out, loop, copy, copy_with}
use Rattle.base_laws.proofs.Members.{map_same, filter_all}
use Rattle.tree_laws.proofs.Lists.{In, In-filter}
use Rattle.tree_laws.proofs.Matches.{Grown, Matches-in}
use Rattle.tree_laws.proofs.Freeze.{within_self, within_trans, hits_within}
use Rattle.tree_laws.proofs.Held.{filter_comm}
use Rattle.placed_laws.proofs.Need.{Operand_needs, Cond_needs, Conds_need}

-- the tree of the nodes that pass
abbrev pub pruned : (Node → Bool) → Tree → Tree
pruned keep P = record { nodes = filter keep P.nodes; at = P.at }

-- what the nodes that don't pass would add is nothing
flat_map_kept : {X A : Type 0} (f : X → List A) (keep : X → Bool) (xs : List X) → ((x : X) → In x xs → (keep x ≡ true) ⊎ (f x ≡ [])) → flat_map f (filter keep xs) ≡ flat_map f xs
flat_map_kept f keep [] h = refl
flat_map_kept f keep (x ∷ xs) h = go (keep x) refl (h x (inl refl)) (flat_map_kept f keep xs (λ y i. h y (inr i)))
  where
    go : (c : Bool) → keep x ≡ c → (keep x ≡ true) ⊎ (f x ≡ []) → flat_map f (filter keep xs) ≡ flat_map f xs → flat_map f (cond c (x ∷ filter keep xs) (filter keep xs)) ≡ f x ++ flat_map f xs
    go true e k ih = ap (λ z. f x ++ z) ih
    go false e (inl k) ih = absurd (true≢false (sym k ∙ e))
    go false e (inr k) ih = rw k ih

pub loop_same : (f g : Node → Out) (ns : List Node) (over : Bool) → ((n : Node) → In n ns → f n ≡ g n) → loop f ns over ≡ loop g ns over
loop_same f g [] over h = refl
loop_same f g (n ∷ ns) over h = rw (h n (inl refl), loop_same f g ns over (λ m i. h m (inr i))) refl

module _ (P : Tree) (w : Grown P) (keep : Node → Bool) where
  matches_pruned : (n : ℕ) (path : List Step) → matches (pruned keep P) n path ≡ filter keep (matches P n path)
  matches_pruned n path = filter_comm (hits n path) keep P.nodes

  pub matches_kept : (n : ℕ) (path : List Step) → ((m : Node) → In m (matches P n path) → keep m ≡ true) → matches (pruned keep P) n path ≡ matches P n path
  matches_kept n path h = matches_pruned n path ∙ filter_all keep (matches P n path) h

  pub value_kept : (n : Node) → ((m : Node) → In m P.nodes → within (serial_of n) m ≡ true → keep m ≡ true) → value (pruned keep P) n ≡ value P n
  value_kept n h = flat_map_kept (λ (m : Node). cond (within (serial_of n) m) (text_of (kind_of m)) []) keep P.nodes (λ m i. go (within (serial_of n) m) refl (h m i))
    where
      go : {m : Node} (c : Bool) → within (serial_of n) m ≡ c → (within (serial_of n) m ≡ true → keep m ≡ true) → (keep m ≡ true) ⊎ (cond (within (serial_of n) m) (text_of (kind_of m)) [] ≡ [])
      go true e k = inl (k e)
      go false e k = inr (rw e refl)

  any_kept : (xs : List Node) → ((m : Node) → head xs ≡ Some m → keep m ≡ true) → is_any (filter keep xs) ≡ is_any xs
  any_kept [] h = refl
  any_kept (x ∷ xs) h = rw (h x refl) refl

  abbrev Kept : (Node → Type 0) → Type 0
  Kept need = (m : Node) → In m P.nodes → need m → keep m ≡ true

  values_kept : (env : Env) (o : OperandTree) → Kept (Operand_needs P env o) → settled_values (pruned keep P) env o ≡ settled_values P env o
  values_kept env (Path x tail) h =
      let n : ℕ = serial_of (env x) in
      let all_kept : (m : Node) → In m (matches P n tail) → keep m ≡ true = λ m i. h m (Matches-in P n tail m i).0 (m, i, within_self (serial_of m) m (eq-eqb _ _ refl)) in
      ap (λ ms. map (node_value (pruned keep P)) (filter (is_closed P) ms)) (matches_kept n tail all_kept)
      ∙ map_same (node_value (pruned keep P)) (node_value P) (filter (is_closed P) (matches P n tail))
      (λ m i. let j = (In-filter (is_closed P) m (matches P n tail) i).0 in ap Bytes (value_kept m (λ a k b. h a k (m, j, b))))
  values_kept env (Str b) h = refl
  values_kept env (Num l) h = refl

  over_kept : (env : Env) (o : OperandTree) → is_over (pruned keep P) env o ≡ is_over P env o
  over_kept env (Path x tail) = refl
  over_kept env (Str b) = refl
  over_kept env (Num l) = refl

  first_in : (xs : List Node) (m : Node) → head xs ≡ Some m → In m xs
  first_in [] m e = absurd (cc)
  first_in (x ∷ xs) m e = inl (cc)

  mutual
    -- where what it needs is kept, a condition's truth is the same
    pub truth_kept : (c : CondTree) (env : Env) → Kept (Cond_needs P env c) → truth c env (pruned keep P) ≡ truth c env P
    truth_kept Always env h = refl
    truth_kept (Exists x tail) env h =
        let n : ℕ = serial_of (env x) in
        ap (λ z. settle z (is_closed P (env x))) (ap is_any (matches_pruned n tail) ∙ any_kept (matches P n tail) (λ m e. h m (Matches-in P n tail m (first_in (matches P n tail) m e)).0 e))
    truth_kept (Compare l r s) env h = rw (values_kept env l (λ m i k. h m i (inl k)), values_kept env s (λ m i k. h m i (inr k)), over_kept env l, over_kept env s) refl
    truth_kept (Not c) env h = ap negate (truth_kept c env h)
    truth_kept (AllOf cs) env h = all_kept cs env h
    truth_kept (AnyOf cs) env h = some_kept cs env h

    all_kept : (cs : CondTrees) (env : Env) → Kept (Conds_need P env cs) → truth_all cs env (pruned keep P) ≡ truth_all cs env P
    all_kept no_cond env h = refl
    all_kept (more_conds c cs) env h = rw (truth_kept c env (λ m i k. h m i (inl k)), all_kept cs env (λ m i k. h m i (inr k))) refl

    some_kept : (cs : CondTrees) (env : Env) → Kept (Conds_need P env cs) → truth_any cs env (pruned keep P) ≡ truth_any cs env P
    some_kept no_cond env h = refl
    some_kept (more_conds c cs) env h = rw (truth_kept c env (λ m i k. h m i (inl k)), some_kept cs env (λ m i k. h m i (inr k))) refl

  -- and so is the copy of a node whose subtree is kept
  pub copy_kept : (most : ℕ) (n : Node) → In n P.nodes → Kept (λ m. within (serial_of n) m ≡ true) → copy most (pruned keep P) n ≡ copy most P n
  copy_kept zero n i h = refl
  copy_kept (suc most) n i h =
      let in_n : (m : Node) → In m (children P n) → In m P.nodes × (within (serial_of n) m ≡ true) = λ m j. let q = Matches-in P (serial_of n) (child_step ∷ []) m j in (q.0, hits_within (serial_of n) (child_step ∷ []) m q.1) in
      ap (copy_with (kind_of n))
      (ap (λ ms. loop (copy most (pruned keep P)) ms (is_closed P n)) (matches_kept (serial_of n) (child_step ∷ []) (λ m j. let q = in_n m j in h m q.0 q.1))
      ∙ loop_same (copy most (pruned keep P)) (copy most P) (children P n) (is_closed P n)
      (λ m j. let q = in_n m j in copy_kept most m q.0 (λ a k b. h a k (within_trans P w (serial_of n) m a q.0 k q.1 b))))
