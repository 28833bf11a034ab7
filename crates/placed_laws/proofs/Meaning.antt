-- The normal law: over a whole document the core of a sound query writes the query's answer.
use Rattle.std.proofs.Common.{◌≡◌, ℕ, zero, suc, ◌+◌, ◌<◌, ◌≤◌, Bool, true, false, cond, not, ◌&&◌, ◌||◌, List, [], ◌∷◌, ◌++◌, length, map, refl, sym, ◌∙◌, ap, subst, inl, inr, arith, add-zero, add_assoc, append_assoc, Some, None, Option, eqb}
use Rattle.std.specs.List.{filter, flat_map}
use Rattle.std.specs.Prelude.{bytes_eq}
use Rattle.std.proofs.lemmas.List.{append-nil}
use Rattle.std.proofs.lemmas.Bool.{and_parts, eq-eqb, ne_eqb}
use Rattle.std.proofs.lemmas.Grind.{flat_map-append}
use Rattle.gcx_base.specs.declared.kind.Kind.{Kind}
use Rattle.gcx_base.specs.declared.kind.Kind.TheVariants.{Document, Element, Text}
use Rattle.gcx_base.specs.declared.steps.Step.{Step}
use Rattle.gcx_model.specs.declared.query.Clause.{Clause}
use Rattle.gcx_model.specs.declared.query.QOperand.{QOperand}
use Rattle.gcx_model.specs.declared.query.QOperand.TheVariants as operand
use Rattle.gcx_model.specs.Query as query
use Rattle.gcx_model.specs.Query.{ExprTree, ExprTrees, exprs_of}
use Rattle.gcx_model.specs.Document.{tokens, tree_of}
use Rattle.gcx_model.specs.Tree.{Node, Root, serial_of, kind_of, Tree, TreeToken, End, opening, is_closed}
use Rattle.gcx_model.specs.Paths.{matches}
use Rattle.gcx_model.specs.Values.{compare}
use Rattle.gcx_model.specs.Written.{start_tag, end_tag, escaped}
use Rattle.gcx_model.specs.Answer as meaning
use Rattle.gcx_model.specs.Answer.{child_step, children, copied_with, copied, copy_of, Scope, start_of, found, some_pair, is_any, holds, holds_all, holds_any, turns, answer_expr, answer_exprs, answer}
use Rattle.gcx_model.specs.Core.{OperandTree, Path, Str, Num, CondTree, CondTrees, Always, Exists, Compare, Not, AllOf, AnyOf, no_cond, more_conds, ItemTree, Write, Copy, For, If, SignOff, BodyTree, Nil, Then}
use Rattle.gcx_model.specs.declared.truth.Truth.{Truth}
use Rattle.gcx_model.specs.declared.truth.Truth.TheVariants.{True, False}
use Rattle.gcx_model.specs.Truth.{Env, bind_var, node_value, settled_values, is_over, settle, negate, both, either, truth, truth_all, truth_any}
use Rattle.gcx_model.specs.Run.{Out, wrote, seq, loop, copy_with, copy, choose, run_item, run, env0, bytes_of}
use Rattle.gcx_model.specs.Members.{In, count}
use Rattle.gcx_model.specs.Nodes.{Grown, Ordered, chain_at}
use Rattle.gcx_model.specs.Variables.{vars}
use Rattle.gcx_model.specs.Cores.{operand_in, cond_in, conds_in}
use Rattle.gcx_model.specs.Sound.{only_last, is_path, is_ordered_path, are_clauses, scope_of, has_step, has_clause, is_filter, is_cond, is_expr, are_exprs, two_exprs, has_expr}
use Rattle.gcx_model.specs.Normal.{join, one, Names, named, start_var, normal_exists, normal_operand, normal_cond, normal_conds, has_loop, half, BranchPart, Run, Loop, begin, pieces, halved, turned_in, spread, branch, nest, normal_clauses, guarded, clause_loops, loops, normal_expr, normal_exprs, no_names}
use Rattle.base_laws.proofs.Numbers.{count_high, in_count}
use Rattle.base_laws.proofs.Members.{flat_map_same}
use Rattle.placed_laws.specs.Normal.{NormalLaw}
use Rattle.tree_laws.proofs.Lists.{In-left, In-right}
use Rattle.tree_laws.proofs.Matches.{Matches-in, Matches-from, Numbered-high, Grown-opening}
use Rattle.tree_laws.proofs.Order.{chain_is}
use Rattle.placed_laws.proofs.Whole.{run_is_done, item_is_done, copy_is_done, child_above}
use Rattle.placed_laws.proofs.CorePlans.{In-count}
use Rattle.placed_laws.proofs.Moved.{vars-expr, cond_scoped}
use Rattle.tree_laws.proofs.Fed.{root_in, ordered_all, ordered_opening}
use Rattle.tree_laws.proofs.Documents.{whole_closed}

flat_map-flat_map : {X Y A : Type 0} (g : Y → List A) (f : X → List Y) (xs : List X) → flat_map g (flat_map f xs) ≡ flat_map (λ x. flat_map g (f x)) xs
flat_map-flat_map g f [] = refl
flat_map-flat_map g f (x ∷ xs) = flat_map-append g (f x) (flat_map f xs) ∙ ap (λ z. flat_map g (f x) ++ z) (flat_map-flat_map g f xs)

filter_all : {X : Type 0} (p : X → Bool) (xs : List X) → ((x : X) → p x ≡ true) → filter p xs ≡ xs
filter_all p [] h = refl
filter_all p (x ∷ xs) h = rw (h x) (ap (λ z. x ∷ z) (filter_all p xs h))

below_in : (k v : ℕ) → v < k → In v (count 0 k)
below_in k v l = let e : 0 + v ≡ v = omega arith in subst (λ (z : ℕ). In z (count 0 k)) e (in_count 0 k v l)

-- conditions see only the variables that they use

module _ (P : Tree) (L : List ℕ) (env env' : Env) (same : (z : ℕ) → In z L → env z ≡ env' z) where
  values_same : (o : OperandTree) → operand_in L o → settled_values P env o ≡ settled_values P env' o
  values_same (Path x steps) i = ap (λ (n : Node). map (node_value P) (filter (is_closed P) (matches P (serial_of n) steps))) (same x i)
  values_same (Str b) i = refl
  values_same (Num l) i = refl

  over_same : (o : OperandTree) → operand_in L o → is_over P env o ≡ is_over P env' o
  over_same (Path x steps) i = ap (is_closed P) (same x i)
  over_same (Str b) i = refl
  over_same (Num l) i = refl

  mutual
    truth_same : (c : CondTree) → cond_in L c → truth c env P ≡ truth c env' P
    truth_same Always i = refl
    truth_same (Exists x steps) i = ap (λ (n : Node). settle (is_any (matches P (serial_of n) steps)) (is_closed P n)) (same x i)
    truth_same (Compare l rel r) i =
        ap (λ vs. settle (some_pair (compare rel) vs (settled_values P env r)) (is_over P env l && is_over P env r)) (values_same l i.0)
        ∙ (ap (λ vs. settle (some_pair (compare rel) (settled_values P env' l) vs) (is_over P env l && is_over P env r)) (values_same r i.1)
        ∙ (ap (λ b. settle (some_pair (compare rel) (settled_values P env' l) (settled_values P env' r)) (b && is_over P env r)) (over_same l i.0)
        ∙ ap (λ b. settle (some_pair (compare rel) (settled_values P env' l) (settled_values P env' r)) (is_over P env' l && b)) (over_same r i.1)))
    truth_same (Not c) i = ap negate (truth_same c i)
    truth_same (AllOf cs) i = all_same cs i
    truth_same (AnyOf cs) i = any_same cs i

    all_same : (cs : CondTrees) → conds_in L cs → truth_all cs env P ≡ truth_all cs env' P
    all_same no_cond i = refl
    all_same (more_conds c cs) i = ap (λ v. both v (truth_all cs env P)) (truth_same c i.0) ∙ ap (both (truth c env' P)) (all_same cs i.1)

    any_same : (cs : CondTrees) → conds_in L cs → truth_any cs env P ≡ truth_any cs env' P
    any_same no_cond i = refl
    any_same (more_conds c cs) i = ap (λ v. either v (truth_any cs env P)) (truth_same c i.0) ∙ ap (either (truth c env' P)) (any_same cs i.1)

-- whether the branch is the one that the condition picks
abbrev agree : (first h : Bool) → Bool
agree true h = h
agree false h = not h

module _ (P : Tree) (w : Grown P) (o : Ordered P) (over : P.at ≡ None) where
  abbrev In_P : Env → Type 0
  In_P env = (x : ℕ) → In (env x) P.nodes

  abbrev said : BodyTree → Env → List ℕ
  said d env = flat_map bytes_of (run d env P).acts

  abbrev said_item : ItemTree → Env → List ℕ
  said_item i env = flat_map bytes_of (run_item i env P).acts

  closed : (n : Node) → is_closed P n ≡ true
  closed n = rw over refl

  said-seq : (a b : Out) → a.done ≡ true → flat_map bytes_of (seq a b).acts ≡ flat_map bytes_of a.acts ++ flat_map bytes_of b.acts
  said-seq a b d = rw d (flat_map-append bytes_of a.acts b.acts)

  said-then : (i : ItemTree) (d : BodyTree) (env : Env) → In_P env → said (Then i d) env ≡ said_item i env ++ said d env
  said-then i d env h = said-seq (run_item i env P) (run d env P) (item_is_done P w over i env h)

  said-one : (i : ItemTree) (env : Env) → In_P env → said (one i) env ≡ said_item i env
  said-one i env h = said-then i Nil env h ∙ append-nil _

  said-join : (a b : BodyTree) (env : Env) → In_P env → said (join a b) env ≡ said a env ++ said b env
  said-join Nil b env h = refl
  said-join (Then i a) b env h = said-then i (join a b) env h ∙ (ap (λ z. said_item i env ++ z) (said-join a b env h) ∙ (sym (append_assoc (said_item i env) (said a env) (said b env)) ∙ ap (λ z. z ++ said b env) (sym (said-then i a env h))))

  said-loop : (f : Node → Out) (ns : List Node) (ov : Bool) → ((n : Node) → In n ns → (f n).done ≡ true) → flat_map bytes_of (loop f ns ov).acts ≡ flat_map (λ n. flat_map bytes_of (f n).acts) ns
  said-loop f [] ov h = refl
  said-loop f (n ∷ ns) ov h = said-seq (f n) (loop f ns ov) (h n (inl refl)) ∙ ap (λ z. flat_map bytes_of (f n).acts ++ z) (said-loop f ns ov (λ m i. h m (inr i)))

  in_bind : (env : Env) (x : ℕ) (n : Node) → In_P env → In n P.nodes → In_P (bind_var env x n)
  in_bind env x n h i z = go (eqb z x)
    where
      go : (t : Bool) → In (cond t n (env z)) P.nodes
      go true = i
      go false = h z

  bind_other : (env : Env) (x v : ℕ) (n : Node) → (v ≡ x → ⊥) → bind_var env x n v ≡ env v
  bind_other env x v n h = rw (ne_eqb v x h) refl

  bind_here : (env : Env) (x : ℕ) (n : Node) → bind_var env x n x ≡ n
  bind_here env x n = rw (eq-eqb x x refl) refl

  -- a loop says what its body says at each match
  said_for : (x y : ℕ) (s : Step) (d : BodyTree) (env : Env) → In_P env → said_item (For x y s d) env ≡ flat_map (λ n. said d (bind_var env x n)) (matches P (serial_of (env y)) (s ∷ []))
  said_for x y s d env h = said-loop (λ n. run d (bind_var env x n) P) (matches P (serial_of (env y)) (s ∷ [])) (is_closed P (env y))
      (λ n i. run_is_done P w over d (bind_var env x n) (in_bind env x n h (Matches-in P (serial_of (env y)) (s ∷ []) n i).0))

  -- Copies

  copy-with : (k : Kind) (a : Out) (inner : List ℕ) → a.done ≡ true → flat_map bytes_of a.acts ≡ inner → flat_map bytes_of (copy_with k a).acts ≡ copied_with k inner
  copy-with Document a inner d e = e
  copy-with (Element name) a inner d e =
      ap (λ z. start_tag name ++ z) (said-seq a (wrote (end_tag name)) d ∙ (ap (λ z. z ++ (end_tag name ++ [])) e ∙ ap (λ z. inner ++ z) (append-nil (end_tag name))))
  copy-with (Text b) a inner d e = append-nil (escaped b)

  said_copy : (most : ℕ) (n : Node) → In n P.nodes → length P.nodes ≤ most + serial_of n → flat_map bytes_of (copy most P n).acts ≡ copied most P n
  said_copy zero n i l = let r = Numbered-high 0 P.nodes w.numbered n i in absurd (omega arith)
  said_copy (suc most) n i l =
      let below : (m : Node) → In m (children P n) → In m P.nodes × (length P.nodes ≤ most + serial_of m) = λ m j.
      let q = Matches-in P (serial_of n) (child_step ∷ []) m j in
      let g = child_above P w over (serial_of n) m q.0 q.1 in (q.0, omega arith) in
      let f : (m : Node) → In m (children P n) → (copy most P m).done ≡ true = λ m j. let q = below m j in copy_is_done P w over most m q.0 q.1 in
      copy-with (kind_of n) (loop (copy most P) (children P n) (is_closed P n)) (flat_map (copied most P) (children P n))
      (loop_done (copy most P) (children P n) (is_closed P n) (closed n) f)
      (said-loop (copy most P) (children P n) (is_closed P n) f ∙ flat_map_same (λ m. flat_map bytes_of (copy most P m).acts) (copied most P) (children P n) (λ m j. let q = below m j in said_copy most m q.0 q.1))
    where
      loop_done : (f : Node → Out) (ns : List Node) (ov : Bool) → ov ≡ true → ((m : Node) → In m ns → (f m).done ≡ true) → (loop f ns ov).done ≡ true
      loop_done f [] ov e h = e
      loop_done f (n ∷ ns) ov e h = rw (h n (inl refl)) (loop_done f ns ov e (λ m i. h m (inr i)))

  -- nested loops say what the inside says at each innermost node
  said-nest : (ss : List Step) (y k : ℕ) (inner : ℕ → BodyTree) (env : Env) (G : Node → List ℕ) → y < k → In_P env
      → ((z : ℕ) (env' : Env) → z < k + length ss → In_P env' → ((v : ℕ) → v < k → env' v ≡ env v) → said (inner z) env' ≡ G (env' z))
      → said (nest y ss k inner) env ≡ flat_map G (chain_at P (env y) ss)
  said-nest [] y k inner env G l h f = f y env (omega arith) h (λ v m. refl) ∙ sym (append-nil (G (env y)))
  said-nest (s ∷ ss) y k inner env G l h f =
      let ms : List Node = matches P (serial_of (env y)) (s ∷ []) in
      let d : BodyTree = nest k ss (suc k) inner in
      let in_P : (n : Node) → In n ms → In_P (bind_var env k n) = λ n i. in_bind env k n h (Matches-in P (serial_of (env y)) (s ∷ []) n i).0 in
      said-one (For k y s d) env h
      ∙ (said_for k y s d env h
      ∙ (flat_map_same (λ n. said d (bind_var env k n)) (λ n. flat_map G (chain_at P n ss)) ms
      (λ n i. said-nest ss k (suc k) inner (bind_var env k n) G (omega arith) (in_P n i)
      (λ z env' m j g. f z env' (omega arith) j (λ v q. g v (omega arith) ∙ bind_other env k v n (λ e. omega arith)))
      ∙ ap (λ z. flat_map G (chain_at P z ss)) (bind_here env k n))
      ∙ sym (flat_map-flat_map G (λ n. chain_at P n ss) ms)))

  -- Conditions

  abbrev Known_as : (b : Bool) → Truth
  Known_as true = True
  Known_as false = False

  settle_is : (b ov : Bool) → ov ≡ true → settle b ov ≡ Known_as b
  settle_is true ov e = refl
  settle_is false ov e = rw e refl

  start_is : (names : Names) (env : Env) (st : Option (List ℕ)) → env 0 ≡ Root → start_of (λ x. env (names x)) st ≡ env (start_var names st)
  start_is names env None e = sym e
  start_is names env (Some x) e = refl

  self_match : (n : Node) → In n P.nodes → is_any (matches P (serial_of n) []) ≡ true
  self_match n i = go (matches P (serial_of n) []) (Matches-from P (serial_of n) [] n i (eq-eqb _ _ refl))
    where
      go : (ms : List Node) → In n ms → is_any ms ≡ true
      go [] j = absurd j
      go (m ∷ ms) j = refl

  exists_is : (x : ℕ) (steps : List Step) (env : Env) → In_P env → truth (normal_exists x steps) env P ≡ Known_as (is_any (matches P (serial_of (env x)) steps))
  exists_is x [] env h = ap Known_as (sym (self_match (env x) (h x)))
  exists_is x (s ∷ rest) env h = settle_is _ _ (closed (env x))

  values_are : (q : QOperand) (names : Names) (env : Env) → env 0 ≡ Root → settled_values P env (normal_operand q names) ≡ meaning.values q (λ x. env (names x)) P
  values_are (operand.Path path) names env e =
      ap (map (node_value P)) (filter_all (is_closed P) (matches P (serial_of (env (start_var names path.start))) path.steps) closed)
      ∙ ap (λ (n : Node). map (node_value P) (matches P (serial_of n) path.steps)) (sym (start_is names env path.start e))
  values_are (operand.Str b) names env e = refl
  values_are (operand.Num l) names env e = refl

  over_is : (q : QOperand) (names : Names) (env : Env) → is_over P env (normal_operand q names) ≡ true
  over_is (operand.Path path) names env = closed (env (start_var names path.start))
  over_is (operand.Str b) names env = refl
  over_is (operand.Num l) names env = refl

  negate_is : (b : Bool) → negate (Known_as b) ≡ Known_as (not b)
  negate_is true = refl
  negate_is false = refl

  both_is : (a b : Bool) → both (Known_as a) (Known_as b) ≡ Known_as (a && b)
  both_is true b = refl
  both_is false b = refl

  either_is : (a b : Bool) → either (Known_as a) (Known_as b) ≡ Known_as (a || b)
  either_is true b = refl
  either_is false b = refl

  mutual
    truth_is : (c : query.QueryCondTree) (names : Names) (env : Env) → In_P env → env 0 ≡ Root → truth (normal_cond c names) env P ≡ Known_as (holds c (λ x. env (names x)) P)
    truth_is query.QueryAlways names env h e = refl
    truth_is (query.QueryExists path) names env h e = exists_is (start_var names path.start) path.steps env h ∙ ap (λ (n : Node). Known_as (is_any (matches P (serial_of n) path.steps))) (sym (start_is names env path.start e))
    truth_is (query.QueryCompare l rel r) names env h e =
        settle_is _ _ (ap (λ b. b && is_over P env (normal_operand r names)) (over_is l names env) ∙ over_is r names env)
        ∙ (ap (λ vs. Known_as (some_pair (compare rel) vs (settled_values P env (normal_operand r names)))) (values_are l names env e)
        ∙ ap (λ vs. Known_as (some_pair (compare rel) (meaning.values l (λ x. env (names x)) P) vs)) (values_are r names env e))
    truth_is (query.QueryNot c) names env h e = ap negate (truth_is c names env h e) ∙ negate_is (holds c (λ x. env (names x)) P)
    truth_is (query.QueryAll cs) names env h e = all_is cs names env h e
    truth_is (query.QueryAny cs) names env h e = any_is cs names env h e

    all_is : (cs : query.QueryCondTrees) (names : Names) (env : Env) → In_P env → env 0 ≡ Root → truth_all (normal_conds cs names) env P ≡ Known_as (holds_all cs (λ x. env (names x)) P)
    all_is query.no_query_cond names env h e = refl
    all_is (query.more_query_conds c cs) names env h e =
        ap (λ v. both v (truth_all (normal_conds cs names) env P)) (truth_is c names env h e)
        ∙ (ap (both (Known_as (holds c (λ x. env (names x)) P))) (all_is cs names env h e) ∙ both_is (holds c (λ x. env (names x)) P) (holds_all cs (λ x. env (names x)) P))

    any_is : (cs : query.QueryCondTrees) (names : Names) (env : Env) → In_P env → env 0 ≡ Root → truth_any (normal_conds cs names) env P ≡ Known_as (holds_any cs (λ x. env (names x)) P)
    any_is query.no_query_cond names env h e = refl
    any_is (query.more_query_conds c cs) names env h e =
        ap (λ v. either v (truth_any (normal_conds cs names) env P)) (truth_is c names env h e)
        ∙ (ap (either (Known_as (holds c (λ x. env (names x)) P))) (any_is cs names env h e) ∙ either_is (holds c (λ x. env (names x)) P) (holds_any cs (λ x. env (names x)) P))

  -- An If, and what stands for it

  said_choose : (b : Bool) (a c : Out) → flat_map bytes_of (choose (Known_as b) a c).acts ≡ cond b (flat_map bytes_of a.acts) (flat_map bytes_of c.acts)
  said_choose true a c = refl
  said_choose false a c = refl

  said_if : (c : CondTree) (h : Bool) (a b : BodyTree) (env : Env) → truth c env P ≡ Known_as h → said_item (If c a b) env ≡ cond h (said a env) (said b env)
  said_if c h a b env t = ap (λ v. flat_map bytes_of (choose v (run a env P) (run b env P)).acts) t ∙ said_choose h (run a env P) (run b env P)

  said_half : (c : CondTree) (first h : Bool) (d : BodyTree) (env : Env) → truth c env P ≡ Known_as h → said_item (half c first d) env ≡ cond (agree first h) (said d env) []
  said_half c true h d env t = said_if c h d Nil env t
  said_half c false h d env t = said_if c h Nil d env t ∙ go h
    where
      go : (h : Bool) → cond h [] (said d env) ≡ cond (not h) (said d env) []
      go true = refl
      go false = refl

  no_either : (g : Bool) → cond {A = List ℕ} g [] [] ≡ []
  no_either true = refl
  no_either false = refl

  two : (g : Bool) (A B : List ℕ) → cond g (A ++ B) [] ≡ cond g A [] ++ cond g B []
  two true A B = refl
  two false A B = refl

  -- an item in front of what stands for the rest
  said_begin : (c : CondTree) (first h : Bool) (i : ItemTree) (ps : List BranchPart) (env : Env) → In_P env → truth c env P ≡ Known_as h
      → said (halved c first (begin i ps)) env ≡ cond (agree first h) (said_item i env) [] ++ said (halved c first ps) env
  said_begin c first h i [] env p t = said-one (half c first (one i)) env p ∙ (said_half c first h (one i) env t ∙ (ap (λ z. cond (agree first h) z []) (said-one i env p) ∙ sym (append-nil _)))
  said_begin c first h i (Run r ∷ ps) env p t =
      let rest : List ℕ = said (halved c first ps) env in
      said-then (half c first (Then i r)) (halved c first ps) env p
      ∙ (ap (λ z. z ++ rest) (said_half c first h (Then i r) env t ∙ (ap (λ z. cond (agree first h) z []) (said-then i r env p) ∙ two (agree first h) (said_item i env) (said r env)))
      ∙ (append_assoc (cond (agree first h) (said_item i env) []) (cond (agree first h) (said r env) []) rest
      ∙ ap (λ z. cond (agree first h) (said_item i env) [] ++ z) (ap (λ z. z ++ rest) (sym (said_half c first h r env t)) ∙ sym (said-then (half c first r) (halved c first ps) env p))))
  said_begin c first h i (Loop l ∷ ps) env p t =
      said-then (half c first (one i)) (halved c first (Loop l ∷ ps)) env p
      ∙ ap (λ z. z ++ said (halved c first (Loop l ∷ ps)) env) (said_half c first h (one i) env t ∙ ap (λ z. cond (agree first h) z []) (said-one i env p))

  -- and so for an item more of the branch
  said_more : (c : CondTree) (first h : Bool) (i : ItemTree) (ps : List BranchPart) (d : BodyTree) (env : Env) → In_P env → truth c env P ≡ Known_as h → said (halved c first ps) env ≡ cond (agree first h) (said d env) []
      → said (halved c first (begin i ps)) env ≡ cond (agree first h) (said (Then i d) env) []
  said_more c first h i ps d env p t e =
      said_begin c first h i ps env p t
      ∙ (ap (λ z. cond (agree first h) (said_item i env) [] ++ z) e
      ∙ (sym (two (agree first h) (said_item i env) (said d env)) ∙ ap (λ z. cond (agree first h) z []) (sym (said-then i d env p))))

  all_or_none : (g : Bool) (F : Node → List ℕ) (ns : List Node) → flat_map (λ n. cond g (F n) []) ns ≡ cond g (flat_map F ns) []
  all_or_none true F ns = refl
  all_or_none false F [] = refl
  all_or_none false F (n ∷ ns) = all_or_none false F ns

  said_spread : (c : CondTree) (first h : Bool) (L : List ℕ) → cond_in L c → (d : BodyTree) (env : Env) → In_P env → ((z : ℕ) → In z (vars d) → In z L → ⊥) → truth c env P ≡ Known_as h
      → said (spread c first d) env ≡ cond (agree first h) (said d env) []
  said_spread c first h L u Nil env p f t = sym (no_either (agree first h))
  said_spread c first h L u (Then (Write s) d) env p f t = said_more c first h (Write s) (pieces (turned_in c first d)) d env p t (said_spread c first h L u d env p f t)
  said_spread c first h L u (Then (Copy x) d) env p f t = said_more c first h (Copy x) (pieces (turned_in c first d)) d env p t (said_spread c first h L u d env p f t)
  said_spread c first h L u (Then (If k a b) d) env p f t = said_more c first h (If k a b) (pieces (turned_in c first d)) d env p t (said_spread c first h L u d env p (λ z i. f z (In-right z (vars a ++ vars b) (vars d) i)) t)
  said_spread c first h L u (Then (SignOff o) d) env p f t = said_more c first h (SignOff o) (pieces (turned_in c first d)) d env p t (said_spread c first h L u d env p f t)
  said_spread c first h L u (Then (For x y s e) d) env p f t =
      let g : Bool = agree first h in
      let E : BodyTree = cond (has_loop e) (spread c first e) (one (half c first e)) in
      let D : BodyTree = spread c first d in
      let ms : List Node = matches P (serial_of (env y)) (s ∷ []) in
      let t' : (n : Node) → truth c (bind_var env x n) P ≡ Known_as h = λ n. truth_same P L (bind_var env x n) env (λ z i. bind_other env x z n (λ q. f z (inl (sym q)) i)) c u ∙ t in
      let inner : (n : Node) → In n ms → said E (bind_var env x n) ≡ cond g (said e (bind_var env x n)) [] = λ n i.
      let p' : In_P (bind_var env x n) = in_bind env x n p (Matches-in P (serial_of (env y)) (s ∷ []) n i).0 in
      go (has_loop e) (bind_var env x n) p' (t' n) (said_spread c first h L u e (bind_var env x n) p' (λ z j. f z (inr (In-left z (vars e) (vars d) j))) (t' n)) in
      said-then (For x y s E) D env p
      ∙ (ap (λ z. z ++ said D env) (said_for x y s E env p ∙ (flat_map_same (λ n. said E (bind_var env x n)) (λ n. cond g (said e (bind_var env x n)) []) ms inner ∙ (all_or_none g (λ n. said e (bind_var env x n)) ms ∙ ap (λ z. cond g z []) (sym (said_for x y s e env p)))))
      ∙ (ap (λ z. cond g (said_item (For x y s e) env) [] ++ z) (said_spread c first h L u d env p (λ z i. f z (inr (In-right z (vars e) (vars d) i))) t)
      ∙ (sym (two g (said_item (For x y s e) env) (said d env)) ∙ ap (λ z. cond g z []) (sym (said-then (For x y s e) d env p)))))
    where
      go : (l : Bool) (v : Env) → In_P v → truth c v P ≡ Known_as h → said (spread c first e) v ≡ cond (agree first h) (said e v) [] → said (cond l (spread c first e) (one (half c first e))) v ≡ cond (agree first h) (said e v) []
      go true v p' q k = k
      go false v p' q k = said-one (half c first e) v p' ∙ said_half c first h e v q

  said_branch : (c : CondTree) (h : Bool) (L : List ℕ) → cond_in L c → (a b : BodyTree) (env : Env) → In_P env → ((z : ℕ) → In z (vars a) → In z L → ⊥) → ((z : ℕ) → In z (vars b) → In z L → ⊥) → truth c env P ≡ Known_as h
      → said (branch c a b) env ≡ cond h (said a env) (said b env)
  said_branch c h L u a b env p f g t = go (has_loop a || has_loop b)
    where
      sides : (h : Bool) (A B : List ℕ) → cond (agree true h) A [] ++ cond (agree false h) B [] ≡ cond h A B
      sides true A B = append-nil A
      sides false A B = refl

      go : (l : Bool) → said (cond l (join (spread c true a) (spread c false b)) (one (If c a b))) env ≡ cond h (said a env) (said b env)
      go true =
          said-join (spread c true a) (spread c false b) env p
          ∙ (ap (λ z. z ++ said (spread c false b) env) (said_spread c true h L u a env p f t)
          ∙ (ap (λ z. cond (agree true h) (said a env) [] ++ z) (said_spread c false h L u b env p g t) ∙ sides h (said a env) (said b env)))
      go false = said-one (If c a b) env p ∙ said_if c h a b env t

  -- Expressions

  -- all names and variable 0 are below k
  abbrev Low : Names → ℕ → Type 0
  Low names k = (0 < k) × ((x : List ℕ) → names x < k)

  start_low : (names : Names) (k : ℕ) (st : Option (List ℕ)) → Low names k → start_var names st < k
  start_low names k None l = l.0
  start_low names k (Some x) l = l.1 x

  named_low : (names : Names) (x : List ℕ) (z k j : ℕ) → Low names k → k ≤ j → z < j → Low (named names x z) j
  named_low names x z k j l m q = (let a = l.0 in omega arith, λ y. let b = l.1 y in go (bytes_eq x y) y (omega arith))
    where
      go : (b : Bool) (y : List ℕ) → names y < j → cond b z (names y) < j
      go true y r = q
      go false y r = r

  named_is : (names : Names) (env env' : Env) (x : List ℕ) (z : ℕ) (y : List ℕ) → env' (names y) ≡ env (names y) → env' (named names x z y) ≡ meaning.bind (λ u. env (names u)) x (env' z) y
  named_is names env env' x z y h = go (bytes_eq x y)
    where
      go : (b : Bool) → env' (cond b z (names y)) ≡ cond b (env' z) (env (names y))
      go true = refl
      go false = h

  -- a condition uses only variables below k
  cond_low : (c : query.QueryCondTree) (names : Names) (k : ℕ) → Low names k → cond_in (count 0 k) (normal_cond c names)
  cond_low c names k l = cond_scoped c names (count 0 k) (below_in k 0 l.0, λ x. below_in k (names x) (l.1 x))

  fresh : (e : ExprTree) (names : Names) (k j : ℕ) → j ≤ k → (z : ℕ) → In z (vars (normal_expr e names k)) → In z (count 0 j) → ⊥
  fresh e names k j l z i m =
      let a = In-count k (loops e) z (subst (λ (v : List ℕ). In z v) (vars-expr e names k) i) in
      let b = count_high 0 j z m in
      absurd (omega arith)

  said-clauses : (cs : List Clause) (scope : List (List ℕ)) (names : Names) (k : ℕ) (inner : Names → ℕ → BodyTree) (env : Env) (G : Scope → List ℕ) → are_clauses scope cs ≡ true → Low names k → In_P env → env 0 ≡ Root
      → ((ns : Names) (j : ℕ) (v : Env) → j ≡ k + clause_loops cs → Low ns j → In_P v → v 0 ≡ Root → said (inner ns j) v ≡ G (λ x. v (ns x)))
      → said (normal_clauses cs names k inner) env ≡ flat_map G (turns cs (λ x. env (names x)) P)
  said-clauses [] scope names k inner env G s l h e f = f names k env (sym (add-zero k)) l h e ∙ sym (append-nil _)
  said-clauses (c ∷ cs) scope names k inner env G s l h e f =
      let q = and_parts (is_ordered_path scope c.path && has_step c.path.steps) (are_clauses (c.var ∷ scope) cs) s in
      let path = (and_parts (is_path scope c.path) (only_last c.path.steps) (and_parts (is_ordered_path scope c.path) (has_step c.path.steps) q.0).0).1 in
      let n : ℕ = length c.path.steps in
      let y : ℕ = start_var names c.path.start in
      let F : Node → List ℕ = λ m. flat_map G (turns cs (meaning.bind (λ x. env (names x)) c.var m) P) in
      said-nest c.path.steps y k (λ z. normal_clauses cs (named names c.var z) (k + n) inner) env F (start_low names k c.path.start l) h
      (λ z v m p g.
      let low : Low (named names c.var z) (k + n) = named_low names c.var z k (k + n) l (omega arith) m in
      said-clauses cs (c.var ∷ scope) (named names c.var z) (k + n) inner v G q.1 low p (g 0 l.0 ∙ e) (λ ns j v' i. f ns j v' (i ∙ add_assoc k n (clause_loops cs)))
      ∙ ap (λ r. flat_map G (turns cs r P)) (λ i x. named_is names env v c.var z x (g (names x) (l.1 x)) i))
      ∙ (ap (flat_map F) (chain_is P w o (env y) c.path.steps (h y) path)
      ∙ (ap (λ (m : Node). flat_map F (matches P (serial_of m) c.path.steps)) (sym (start_is names env c.path.start e))
      ∙ sym (flat_map-flat_map G (λ m. turns cs (meaning.bind (λ x. env (names x)) c.var m) P) (found c.path (λ x. env (names x)) P))))

  said_filtered : (f : Option query.QueryCondTree) (e : ExprTree) (ns : Names) (j : ℕ) (v : Env) → Low ns j → In_P v → v 0 ≡ Root → said (normal_expr e ns j) v ≡ answer_expr e (λ x. v (ns x)) P
      → said (guarded f ns (normal_expr e ns j)) v ≡ cond (meaning.filtered f (λ x. v (ns x)) P) (answer_expr e (λ x. v (ns x)) P) []
  said_filtered None e ns j v l h z m = m
  said_filtered (Some c) e ns j v l h z m =
      said_branch (normal_cond c ns) (holds c (λ x. v (ns x)) P) (count 0 j) (cond_low c ns j l) (normal_expr e ns j) Nil v h (fresh e ns j j (omega arith)) (λ y i. absurd i) (truth_is c ns v h z)
      ∙ ap (λ y. cond (holds c (λ x. v (ns x)) P) y []) m

  mutual
    means : (e : ExprTree) (scope : List (List ℕ)) (names : Names) (k : ℕ) (env : Env) → is_expr scope e ≡ true → Low names k → In_P env → env 0 ≡ Root → said (normal_expr e names k) env ≡ answer_expr e (λ x. env (names x)) P
    means query.Empty scope names k env s l h z = refl
    means (query.Seq es) scope names k env s l h z = all_mean es scope names k env (and_parts (two_exprs es) (are_exprs scope es) s).1 l h z
    means (query.Elem name es) scope names k env s l h z =
        ap (λ z. start_tag name ++ z) (said-join (normal_exprs es names k) (one (Write (end_tag name))) env h
        ∙ (ap (λ z. z ++ (end_tag name ++ [])) (all_mean es scope names k env s l h z) ∙ ap (λ z. answer_exprs es (λ x. env (names x)) P ++ z) (append-nil (end_tag name))))
    means (query.QueryPath path) scope names k env s l h z =
        let q = and_parts (is_path scope path) (only_last path.steps) s in
        let y : ℕ = start_var names path.start in
        said-nest path.steps y k (λ v. one (Copy v)) env (copy_of P) (start_low names k path.start l) h
        (λ v env' m j g. said-one (Copy v) env' j ∙ said_copy (length P.nodes) (env' v) (j v) (omega arith))
        ∙ (ap (flat_map (copy_of P)) (chain_is P w o (env y) path.steps (h y) q.1)
        ∙ ap (λ (m : Node). flat_map (copy_of P) (matches P (serial_of m) path.steps)) (sym (start_is names env path.start z)))
    means (query.QueryFor cs f e) scope names k env s l h z =
        let q = and_parts (has_clause cs && are_clauses scope cs) (is_filter (scope_of scope cs) f && is_expr (scope_of scope cs) e) s in
        let a = (and_parts (has_clause cs) (are_clauses scope cs) q.0).1 in
        let b = (and_parts (is_filter (scope_of scope cs) f) (is_expr (scope_of scope cs) e) q.1).1 in
        said-clauses cs scope names k (λ inner j. guarded f inner (normal_expr e inner j)) env (λ r. cond (meaning.filtered f r P) (answer_expr e r P) []) a l h z
        (λ ns j v i low p y. said_filtered f e ns j v low p y (means e (scope_of scope cs) ns j v b low p y))
    means (query.QueryIf c a b) scope names k env s l h z =
        let q = and_parts (is_cond scope c) (is_expr scope a && is_expr scope b) s in
        let p = and_parts (is_expr scope a) (is_expr scope b) q.1 in
        let low : Low names (k + loops a) = (let x = l.0 in omega arith, λ x. let y = l.1 x in omega arith) in
        said_branch (normal_cond c names) (holds c (λ x. env (names x)) P) (count 0 k) (cond_low c names k l) (normal_expr a names k) (normal_expr b names (k + loops a)) env h
        (fresh a names k k (omega arith)) (fresh b names (k + loops a) k (omega arith)) (truth_is c names env h z)
        ∙ (ap (λ y. cond (holds c (λ x. env (names x)) P) y (said (normal_expr b names (k + loops a)) env)) (means a scope names k env p.0 l h z)
        ∙ ap (cond (holds c (λ x. env (names x)) P) (answer_expr a (λ x. env (names x)) P)) (means b scope names (k + loops a) env p.1 low h z))

    all_mean : (es : ExprTrees) (scope : List (List ℕ)) (names : Names) (k : ℕ) (env : Env) → are_exprs scope es ≡ true → Low names k → In_P env → env 0 ≡ Root → said (normal_exprs es names k) env ≡ answer_exprs es (λ x. env (names x)) P
    all_mean query.no_expr scope names k env s l h z = refl
    all_mean (query.more_exprs e es) scope names k env s l h z =
        let q = and_parts (is_expr scope e) (are_exprs scope es) s in
        let low : Low names (k + loops e) = (let x = l.0 in omega arith, λ x. let y = l.1 x in omega arith) in
        said-join (normal_expr e names k) (normal_exprs es names (k + loops e)) env h
        ∙ (ap (λ y. y ++ said (normal_exprs es names (k + loops e)) env) (means e scope names k env q.0 l h z)
        ∙ ap (λ y. answer_expr e (λ x. env (names x)) P ++ y) (all_mean es scope names (k + loops e) env q.1 low h z))

-- The tree of a document is closed.

pub normal_law : NormalLaw
normal_law q s d =
    let ts : List TreeToken = tokens d ++ End ∷ [] in
    let g = ordered_all ts opening Grown-opening ordered_opening in
    let a = and_parts (has_expr (exprs_of q)) (are_exprs [] (exprs_of q)) s in
    all_mean (tree_of d) g.0 g.1 (whole_closed d) (exprs_of q) [] no_names 1 env0 a.1 (omega arith, λ x. omega arith) (λ x. root_in ts) refl
