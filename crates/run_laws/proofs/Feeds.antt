-- What a list of tokens adds to a tree, and what is known over it stays known.
use Rattle.std.proofs.Common.{◌≡◌, ℕ, ◌+◌, ◌<◌, ◌≤◌, Bool, true, false, cond, not, List, [], ◌∷◌, ◌++◌, length, refl, sym, ◌∙◌, ap, subst, inl, inr, ◌⊎◌, arith, append_assoc, ltb, Some, None, Option}
use Rattle.std.specs.List.{filter}
use Rattle.std.proofs.lemmas.List.{append-nil, length-append}
use Rattle.std.proofs.lemmas.List.Elements.{filter-append}
use Rattle.std.proofs.lemmas.Bool.{ltb-true, lt-ltb, not-false}
use Rattle.gcx_model.specs.Tree.{Node, Root, Under, serial_of, above, Tree, TreeToken, grow, grow_all, is_open_at, is_closed}
use Rattle.gcx_model.specs.Paths.{hits, matches}
use Rattle.gcx_model.specs.Members.{In}
use Rattle.gcx_model.specs.Nodes.{Numbered, Grown}
use Rattle.gcx_model.specs.Answer.{is_any}
use Rattle.gcx_model.specs.Core.{OperandTree, Path, Str, Num, CondTree, CondTrees, Always, Exists, Compare, Not, AllOf, AnyOf, no_cond, more_conds, First, Whole, RoleRowTree}
use Rattle.gcx_model.specs.Roles.{operand_rows, cond_rows, conds_rows}
use Rattle.gcx_model.specs.declared.truth.Truth.{Truth}
use Rattle.gcx_model.specs.declared.truth.Truth.TheVariants.{Unknown}
use Rattle.gcx_model.specs.Truth.{Env, settled_values, is_over, settle, negate, both, either, truth, truth_all, truth_any}
use Rattle.gcx_model.specs.Growth.{Leads}
use Rattle.gcx_model.specs.Past.{open_from}
use Rattle.run_laws.proofs.Traces.{numbered_rest}
use Rattle.tree_laws.proofs.Lists.{In-left, In-right, In-filter}
use Rattle.tree_laws.proofs.Matches.{Numbered-low, Numbered-high, Numbered-same, added, grow_nodes, Grown-grow, Grown-all}
use Rattle.tree_laws.proofs.Chains.{above_self, above_in}
use Rattle.placed_laws.proofs.Prefix.{truth_firmer}
use Rattle.placed_laws.proofs.PointForms.{firm_true}
use Rattle.tree_laws.proofs.Growing.{fed_all}
use Rattle.tree_laws.proofs.Fed.{grown_from, root_from}
use Rattle.past_laws.proofs.Ahead.{open_nodes_are}
use Rattle.run_laws.specs.Feeding.{NodesGrow, MatchesGrow, TruthStays, OpenChain}

-- Nodes and matches

abbrev Longer : Tree → Tree → Type 0
Longer P Q = (more : List Node) × (Q.nodes ≡ P.nodes ++ more)

added_all : (ts : List TreeToken) (P : Tree) → Longer P (grow_all ts P)
added_all [] P = ([], sym (append-nil P.nodes))
added_all (t ∷ ts) P = let r = added_all ts (grow t P) in (added t P ++ r.0, r.1 ∙ (ap (λ z. z ++ r.0) (grow_nodes t P) ∙ append_assoc P.nodes (added t P) r.0))

longer : (P Q : Tree) → Leads P Q → Longer P Q
longer P Q m = let f = fed_all P Q m in let r = added_all f.0 P in (r.0, ap (λ (z : Tree). z.nodes) f.2 ∙ r.1)

pub nodes_grow : NodesGrow
nodes_grow P Q l m =
    let r = longer P Q m in
    let f = fed_all P Q m in
    let w : Grown Q = subst (λ (z : Tree). Grown z) (sym f.2) (Grown-all f.0 P (grown_from P l)) in
    let n : Numbered (0 + length P.nodes) r.0 = numbered_rest 0 P.nodes r.0 (subst (λ (z : List Node). Numbered 0 z) r.1 w.numbered) in (
      r.0,
      r.1,
      (λ a i. let h = Numbered-low (0 + length P.nodes) r.0 n a i in omega arith),
      (λ k path. ap (filter (hits k path)) r.1 ∙ filter-append (hits k path) P.nodes r.0),
    )

In-filtered : {X : Type 0} (p : X → Bool) (m : X) (xs : List X) → In m (filter p xs) → In m xs
In-filtered p m xs i = (In-filter p m xs i).0

pub matches_grow : MatchesGrow
matches_grow P Q l m n path =
    let r = nodes_grow P Q l m in
    (filter (hits n path) r.0, r.3 n path, λ a i. r.2 a (In-filtered (hits n path) a r.0 i))

-- Truth

values_by : (P : Tree) (o : OperandTree) (u v : Env) → ((r : RoleRowTree) → In r (operand_rows o) → u r.var ≡ v r.var) → settled_values P u o ≡ settled_values P v o
values_by P (Path x steps) u v h = ap (λ (z : Node). settled_values P (λ y. z) (Path x steps)) (h (record { var = x; tail = steps; kind = Whole }) (inl refl))
values_by P (Str b) u v h = refl
values_by P (Num l) u v h = refl

over_by : (P : Tree) (o : OperandTree) (u v : Env) → ((r : RoleRowTree) → In r (operand_rows o) → u r.var ≡ v r.var) → is_over P u o ≡ is_over P v o
over_by P (Path x steps) u v h = ap (is_closed P) (h (record { var = x; tail = steps; kind = Whole }) (inl refl))
over_by P (Str b) u v h = refl
over_by P (Num l) u v h = refl

-- a truth depends on the variables of the condition alone
mutual
  truth_by : (P : Tree) (c : CondTree) (u v : Env) → ((r : RoleRowTree) → In r (cond_rows c) → u r.var ≡ v r.var) → truth c u P ≡ truth c v P
  truth_by P Always u v h = refl
  truth_by P (Exists x steps) u v h = ap (λ (z : Node). settle (is_any (matches P (serial_of z) steps)) (is_closed P z)) (h (record { var = x; tail = steps; kind = First }) (inl refl))
  truth_by P (Compare l rel r) u v h =
      let hl : (q : RoleRowTree) → In q (operand_rows l) → u q.var ≡ v q.var = λ q i. h q (In-left q (operand_rows l) (operand_rows r) i) in
      let hr : (q : RoleRowTree) → In q (operand_rows r) → u q.var ≡ v q.var = λ q i. h q (In-right q (operand_rows l) (operand_rows r) i) in
      rw (values_by P l u v hl, values_by P r u v hr, over_by P l u v hl, over_by P r u v hr) refl
  truth_by P (Not c) u v h = ap negate (truth_by P c u v h)
  truth_by P (AllOf cs) u v h = all_by P cs u v h
  truth_by P (AnyOf cs) u v h = any_by P cs u v h

  all_by : (P : Tree) (cs : CondTrees) (u v : Env) → ((r : RoleRowTree) → In r (conds_rows cs) → u r.var ≡ v r.var) → truth_all cs u P ≡ truth_all cs v P
  all_by P no_cond u v h = refl
  all_by P (more_conds c cs) u v h =
      ap (λ z. both z (truth_all cs u P)) (truth_by P c u v (λ r i. h r (In-left r (cond_rows c) (conds_rows cs) i)))
      ∙ ap (both (truth c v P)) (all_by P cs u v (λ r i. h r (In-right r (cond_rows c) (conds_rows cs) i)))

  any_by : (P : Tree) (cs : CondTrees) (u v : Env) → ((r : RoleRowTree) → In r (conds_rows cs) → u r.var ≡ v r.var) → truth_any cs u P ≡ truth_any cs v P
  any_by P no_cond u v h = refl
  any_by P (more_conds c cs) u v h =
      ap (λ z. either z (truth_any cs u P)) (truth_by P c u v (λ r i. h r (In-left r (cond_rows c) (conds_rows cs) i)))
      ∙ ap (either (truth c v P)) (any_by P cs u v (λ r i. h r (In-right r (cond_rows c) (conds_rows cs) i)))

-- bound to nodes of so small a number
abbrev Low : Env → ℕ → Type 0
Low env n = (x : ℕ) → serial_of (env x) < n

truth_stays_all : (ts : List TreeToken) (P : Tree) → Grown P → (c : CondTree) (env : Env) (k : Truth) → Low env (length P.nodes) → truth c env P ≡ k → (k ≡ Unknown → ⊥) → truth c env (grow_all ts P) ≡ k
truth_stays_all [] P w c env k b e n = e
truth_stays_all (t ∷ ts) P w c env k b e n =
    let l = ap length (grow_nodes t P) ∙ length-append P.nodes (added t P) in
    truth_stays_all ts (grow t P) (Grown-grow t P w) c env k (λ x. let h = b x in omega arith) (firm_true _ _ k (truth_firmer t P w c env b) e n) n

-- where it is bound to a later node, to the document node instead
lowered : Env → ℕ → Env
lowered env n = λ x. cond (ltb (serial_of (env x)) n) (env x) Root

lowered_low : (env : Env) (n : ℕ) → 0 < n → Low (lowered env n) n
unfolding lowered
lowered_low env n z x = go (ltb (serial_of (env x)) n) refl
  where
    go : (b : Bool) → ltb (serial_of (env x)) n ≡ b → serial_of (cond b (env x) Root) < n
    go true e = ltb-true _ _ e
    go false e = z

lowered_same : (env : Env) (n x : ℕ) → serial_of (env x) < n → env x ≡ lowered env n x
unfolding lowered
lowered_same env n x l = sym (rw (lt-ltb (serial_of (env x)) n l) refl)

pub truth_stays : TruthStays
truth_stays P Q l m c env h n =
    let w : Grown P = grown_from P l in
    let k : ℕ = length P.nodes in
    let v : Env = lowered env k in
    let f = fed_all P Q m in
    let root = Numbered-high 0 P.nodes w.numbered Root (root_from P l) in
    let same : (r : RoleRowTree) → In r (cond_rows c) → env r.var ≡ v r.var = λ r i. let b = Numbered-high 0 P.nodes w.numbered (env r.var) (h r i) in lowered_same env k r.var (omega arith) in
    let stays : truth c v (grow_all f.0 P) ≡ truth c env P = truth_stays_all f.0 P w c v (truth c env P) (lowered_low env k (omega arith)) (sym (truth_by P c env v same)) n in
    ap (truth c env) f.2 ∙ (truth_by (grow_all f.0 P) c env v same ∙ stays)

-- The open nodes

above_either : (m a b : Node) → In a (above m) → In b (above m) → In a (above b) ⊎ In b (above a)
above_either Root a b i (inl f) = inl (subst (λ (z : Node). In a (above z)) f i)
above_either Root a b i (inr j) = absurd j
above_either (Under p s k) a b (inl e) j = inr (subst (λ (z : Node). In b (above z)) e j)
above_either (Under p s k) a b (inr i) (inl f) = inl (subst (λ (z : Node). In a (above z)) f (inr i))
above_either (Under p s k) a b (inr i) (inr j) = above_either p a b i j

above_low : (P : Tree) → Grown P → (m j : Node) → In m P.nodes → In j (above m) → serial_of j ≤ serial_of m
above_low P w Root j i (inl e) = let f = ap serial_of e in omega arith
above_low P w Root j i (inr h) = absurd h
above_low P w (Under p s k) j i (inl e) = let f = ap serial_of e in omega arith
above_low P w (Under p s k) j i (inr h) = let f = above_low P w p j (w.upward p s k i) h in let g = w.below p s k i in omega arith

pub open_chain : OpenChain
open_chain P l = (
  (λ n i c. innermost n P.at refl (open_is n i c)),
  (λ p n e i.
      let j : In n P.nodes = above_in P w p n (w.at_in p e) i in
      (j, ap not ((open_nodes_are P l n j).1 (subst (λ (z : Option Node). In n (open_from z)) (sym e) i)))),
  (λ a b i j c d le.
      let p = innermost a P.at refl (open_is a i c) in
      let q : In b (above p.0) = subst (λ (z : Option Node). In b (open_from z)) p.1 (open_is b j d) in
      elim (above_either p.0 a b p.2 q) [
        | inl h ↦ h
        | inr h ↦ (let g = above_low P w a b i h in let s : serial_of a ≡ serial_of b = omega arith in subst (λ (z : Node). In a (above z)) (Numbered-same 0 P.nodes w.numbered a b i j s) (above_self a))
      ]),
)
  where
    w : Grown P
    w = grown_from P l

    open_is : (n : Node) → In n P.nodes → is_closed P n ≡ false → In n (open_from P.at)
    open_is n i c = (open_nodes_are P l n i).0 (not-false (is_open_at P.at (serial_of n)) c)

    innermost : (n : Node) (at : Option Node) → P.at ≡ at → In n (open_from at) → (p : Node) × (P.at ≡ Some p) × In n (above p)
    innermost n None e i = absurd i
    innermost n (Some p) e i = (p, e, i)
