-- The prefix law over any number of tokens, and the closed law.
use Rattle.std.proofs.Common.{◌≡◌, ℕ, zero, suc, ◌+◌, ◌<◌, ◌≤◌, Bool, true, false, cond, ◌&&◌, List, [], ◌∷◌, length, refl, subst, inl, inr, arith, None, eqb}
use Rattle.std.proofs.lemmas.List.{length-append}
use Rattle.std.proofs.lemmas.Bool.{and_parts, and_from, false≢true, eqb-true}
use Rattle.gcx_base.specs.declared.kind.Kind.{Kind}
use Rattle.gcx_base.specs.declared.kind.Kind.TheVariants.{Document, Element, Text}
use Rattle.gcx_model.specs.Tree.{Node, Root, Under, serial_of, kind_of, above, Tree, TreeToken, opening, grow, grow_all, is_closed}
use Rattle.gcx_base.specs.Tests.{passes}
use Rattle.gcx_model.specs.Paths.{hits, matches, reach, lies}
use Rattle.gcx_model.specs.Core.{CondTree, Always, Exists, Compare, Not, AllOf, AnyOf, CondTrees, no_cond, more_conds, OperandTree, Path, Str, Num, ItemTree, Write, Copy, For, If, SignOff, BodyTree, Nil, Then}
use Rattle.gcx_model.specs.declared.truth.Truth.{Truth}
use Rattle.gcx_model.specs.declared.truth.Truth.TheVariants.{True, False, Unknown}
use Rattle.gcx_model.specs.Truth.{Env, bind_var, is_over, settle, negate, both, either, truth, truth_all, truth_any}
use Rattle.gcx_model.specs.Run.{Out, wrote, seq, loop, copy_with, copy, choose, run_item, run, env0}
use Rattle.gcx_model.specs.Answer.{child_step, children}
use Rattle.gcx_model.specs.Written.{end_tag}
use Rattle.tree_laws.proofs.Lists.{In, any_in}
use Rattle.tree_laws.proofs.Matches.{Grown, Grown-grow, Grown-opening, Grown-all, Numbered-high, Matches-in, grow_nodes}
use Rattle.placed_laws.proofs.Prefix.{Before, Before-trans, Before-refl, Bound, run_grows}

pub Bound-grow : (t : TreeToken) (P : Tree) (w : Grown P) (env : Env) → Bound t P w env → (u : TreeToken) → Bound u (grow t P) (Grown-grow t P w) env
Bound-grow t P w env b u x = let h = b x in rw (grow_nodes t P, length-append) (omega arith)

-- the prefix law
pub run_grows_all : (ts : List TreeToken) (P : Tree) (w : Grown P) (d : BodyTree) (env : Env) → ((x : ℕ) → serial_of (env x) < length P.nodes) → Before (run d env P) (run d env (grow_all ts P))
run_grows_all [] P w d env b = Before-refl _
run_grows_all (t ∷ ts) P w d env b = Before-trans _ _ _ (run_grows t P w d env b) (run_grows_all ts (grow t P) (Grown-grow t P w) d env (Bound-grow t P w env b t))

pub prefix : (ts us : List TreeToken) (d : BodyTree) → Before (run d env0 (grow_all ts opening)) (run d env0 (grow_all us (grow_all ts opening)))
prefix ts us d = run_grows_all us (grow_all ts opening) (Grown-all ts opening Grown-opening) d env0 (λ x. some_node ts opening (omega arith))
  where
    some_node : (ts : List TreeToken) (P : Tree) → 0 < length P.nodes → 0 < length (grow_all ts P).nodes
    some_node [] P h = h
    some_node (t ∷ ts) P h = some_node ts (grow t P) (rw (grow_nodes t P, length-append) (omega arith))

-- the closed law
seq_is_done : (a b : Out) → a.done ≡ true → b.done ≡ true → (seq a b).done ≡ true
seq_is_done a b e f = rw e f

loop_is_done : (f : Node → Out) (ns : List Node) → ((n : Node) → In n ns → (f n).done ≡ true) → (loop f ns true).done ≡ true
loop_is_done f [] h = refl
loop_is_done f (n ∷ ns) h = seq_is_done (f n) (loop f ns true) (h n (inl refl)) (loop_is_done f ns (λ m i. h m (inr i)))

module _ (P : Tree) (w : Grown P) (over : P.at ≡ None) where
  abbrev pub Inside : Env → Type 0
  Inside env = (x : ℕ) → In (env x) P.nodes

  closed : (n : Node) → is_closed P n ≡ true
  closed n = rw over refl

  settle_over : (x o : Bool) → o ≡ true → settle x o ≡ Unknown → ⊥
  settle_over true o e h = cc
  settle_over false true e h = cc
  settle_over false false e h = cc

  over_all : (env : Env) (o : OperandTree) → is_over P env o ≡ true
  over_all env (Path x tail) = closed (env x)
  over_all env (Str s) = refl
  over_all env (Num l) = refl

  negate_known : (k : Truth) → (k ≡ Unknown → ⊥) → negate k ≡ Unknown → ⊥
  negate_known True h e = cc
  negate_known False h e = cc
  negate_known Unknown h e = h refl

  both_known : (k l : Truth) → (k ≡ Unknown → ⊥) → (l ≡ Unknown → ⊥) → both k l ≡ Unknown → ⊥
  both_known True l h j e = j e
  both_known False l h j e = h e
  both_known Unknown l h j e = h refl

  either_known : (k l : Truth) → (k ≡ Unknown → ⊥) → (l ≡ Unknown → ⊥) → either k l ≡ Unknown → ⊥
  either_known False l h j e = j e
  either_known True l h j e = h e
  either_known Unknown l h j e = h refl

  mutual
    known_now : (c : CondTree) (env : Env) → truth c env P ≡ Unknown → ⊥
    known_now Always env e = cc
    known_now (Exists x tail) env e = settle_over _ _ (closed (env x)) e
    known_now (Compare l r s) env e = settle_over _ _ (and_from _ _ (over_all env l) (over_all env s)) e
    known_now (Not c) env e = negate_known _ (known_now c env) e
    known_now (AllOf cs) env e = all_known cs env e
    known_now (AnyOf cs) env e = any_known cs env e

    all_known : (cs : CondTrees) (env : Env) → truth_all cs env P ≡ Unknown → ⊥
    all_known no_cond env e = cc
    all_known (more_conds c cs) env e = both_known _ _ (known_now c env) (all_known cs env) e

    any_known : (cs : CondTrees) (env : Env) → truth_any cs env P ≡ Unknown → ⊥
    any_known no_cond env e = cc
    any_known (more_conds c cs) env e = either_known _ _ (known_now c env) (any_known cs env) e

  choose_is_done : (k : Truth) (a b : Out) → (k ≡ Unknown → ⊥) → a.done ≡ true → b.done ≡ true → (choose k a b).done ≡ true
  choose_is_done True a b h e f = e
  choose_is_done False a b h e f = f
  choose_is_done Unknown a b h e f = absurd (h refl)

  loop_closed : (f : Node → Out) (ns : List Node) (n : Node) → ((m : Node) → In m ns → (f m).done ≡ true) → (loop f ns (is_closed P n)).done ≡ true
  loop_closed f ns n h = rw (closed n) (loop_is_done f ns h)

  copy_with_done : (k : Kind) (a : Out) → a.done ≡ true → (copy_with k a).done ≡ true
  copy_with_done Document a h = h
  copy_with_done (Element name) a h = seq_is_done a (wrote (end_tag name)) h refl
  copy_with_done (Text b) a h = refl

  pub child_above : (n : ℕ) (m : Node) → In m P.nodes → (hits n (child_step ∷ []) m) ≡ true → n < serial_of m
  child_above n m i h = go (above m) (any_in (λ (j : Node). reach n child_step j && hits (serial_of j) [] m) (above m) h)
    where
      at : (j : Node) → passes child_step.test (kind_of j) ≡ true → lies child_step.axis n j ≡ true → serial_of m ≡ serial_of j → In j P.nodes → n < serial_of m
      at Root a b e k = absurd (false≢true a)
      at (Under p s kd) a b e k = let q = w.below p s kd k in let r = eqb-true _ _ b in omega arith

      up : (x j : Node) → In j (above x) → In x P.nodes → In j P.nodes
      up Root j (inl e) k = subst (λ (z : Node). In z P.nodes) e k
      up Root j (inr q) k = absurd q
      up (Under p s kd) j (inl e) k = subst (λ (z : Node). In z P.nodes) e k
      up (Under p s kd) j (inr q) k = up p j q (w.upward p s kd k)

      go : (js : List Node) → (j : Node) × In j (above m) × ((reach n child_step j && hits (serial_of j) [] m) ≡ true) → n < serial_of m
      go js r =
          let a = and_parts (reach n child_step r.0) (hits (serial_of r.0) [] m) r.2 in
          let b = and_parts (passes child_step.test (kind_of r.0)) (lies child_step.axis n r.0) a.0 in
          at r.0 b.0 b.1 (eqb-true _ _ a.1) (up m r.0 r.1 i)

  pub copy_is_done : (most : ℕ) (n : Node) → In n P.nodes → length P.nodes ≤ most + serial_of n → (copy most P n).done ≡ true
  copy_is_done zero n i h = let r = Numbered-high 0 P.nodes w.numbered n i in absurd (omega arith)
  copy_is_done (suc most) n i h = copy_with_done (kind_of n) _ (loop_closed (copy most P) (children P n) n
      (λ m j. let q = Matches-in P (serial_of n) (child_step ∷ []) m j in
      let l = child_above (serial_of n) m q.0 q.1 in
      copy_is_done most m q.0 (omega arith)))

  mutual
    pub item_is_done : (i : ItemTree) (env : Env) → Inside env → (run_item i env P).done ≡ true
    item_is_done (Write s) env b = refl
    item_is_done (Copy x) env b = copy_is_done (length P.nodes) (env x) (b x) (omega arith)
    item_is_done (For x y s d) env b =
        loop_closed (λ n. run d (bind_var env x n) P) (matches P (serial_of (env y)) (s ∷ [])) (env y)
        (λ m i. run_is_done d (bind_var env x m) (inside env x m b (Matches-in P (serial_of (env y)) (s ∷ []) m i).0))
      where
        inside : (env : Env) (x : ℕ) (m : Node) → Inside env → In m P.nodes → Inside (bind_var env x m)
        inside env x m b i z = go (eqb z x)
          where
            go : (t : Bool) → In (cond t m (env z)) P.nodes
            go true = i
            go false = b z
    item_is_done (If c d e) env b = choose_is_done _ _ _ (known_now c env) (run_is_done d env b) (run_is_done e env b)
    item_is_done (SignOff o) env b = refl

    pub run_is_done : (d : BodyTree) (env : Env) → Inside env → (run d env P).done ≡ true
    run_is_done Nil env b = refl
    run_is_done (Then i d) env b = seq_is_done _ _ (item_is_done i env b) (run_is_done d env b)
