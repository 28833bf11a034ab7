-- A guarded body does nothing where its comparison is false.
use Rattle.std.proofs.Common.{◌≡◌, ℕ, Bool, true, false, List, [], ◌∷◌, refl, sym, ◌∙◌, ap, inl, inr}
use Rattle.std.proofs.lemmas.Bool.{and_from, ne_eqb}
use Rattle.gcx_base.specs.declared.rel.Rel.{Rel}
use Rattle.gcx_base.specs.declared.rel.Rel.TheVariants.{Eq, Ne, Lt, Le, Gt, Ge}
use Rattle.gcx_model.specs.Tree.{Node, serial_of, Tree, is_closed}
use Rattle.gcx_model.specs.Paths.{matches}
use Rattle.gcx_model.specs.Members.{In}
use Rattle.gcx_model.specs.Core.{OperandTree, Path, Str, Num, CondTree, CondTrees, Always, Exists, Compare, Not, AllOf, AnyOf, no_cond, more_conds, ItemTree, Write, Copy, For, If, SignOff, BodyTree, Nil, Then}
use Rattle.gcx_model.specs.declared.truth.Truth.{Truth}
use Rattle.gcx_model.specs.declared.truth.Truth.TheVariants.{True, False, Unknown}
use Rattle.gcx_model.specs.Truth.{Env, bind_var, settled_values, is_over, settle, negate, both, either, truth, truth_all, truth_any}
use Rattle.gcx_model.specs.Run.{Out, idle, seq, loop, choose, run_item, run}
use Rattle.pass_laws.specs.Idle.{IsQuiet, IsEqual, AsksEqual, SomeAsksEqual, IsNotFrom, IsGuardedItem, IsGuarded, IsSettled, AreSettled, IsItemSettled, IsBodySettled, GuardedAreQuiet}

-- ---- what is settled is known

settle_known : (found over : Bool) → over ≡ true → settle found over ≡ Unknown → ⊥
settle_known true over e h = cc
settle_known false true e h = cc
settle_known false false e h = cc

negate_known : (k : Truth) → (k ≡ Unknown → ⊥) → negate k ≡ Unknown → ⊥
negate_known True h e = cc
negate_known False h e = cc
negate_known Unknown h e = h refl

both_known : (k l : Truth) → (k ≡ Unknown → ⊥) → (l ≡ Unknown → ⊥) → both k l ≡ Unknown → ⊥
both_known True l h j e = j e
both_known False l h j e = h e
both_known Unknown l h j e = h refl

either_known : (k l : Truth) → (k ≡ Unknown → ⊥) → (l ≡ Unknown → ⊥) → either k l ≡ Unknown → ⊥
either_known False l h j e = j e
either_known True l h j e = h e
either_known Unknown l h j e = h refl

mutual
  known : (P : Tree) (env : Env) (c : CondTree) → IsSettled P env c → truth c env P ≡ Unknown → ⊥
  known P env Always h e = cc
  known P env (Exists x steps) h e = settle_known _ _ h e
  known P env (Compare l rel r) h e = settle_known _ _ (and_from _ _ h.0 h.1) e
  known P env (Not c) h e = negate_known _ (known P env c h) e
  known P env (AllOf cs) h e = all_known P env cs h e
  known P env (AnyOf cs) h e = any_known P env cs h e

  all_known : (P : Tree) (env : Env) (cs : CondTrees) → AreSettled P env cs → truth_all cs env P ≡ Unknown → ⊥
  all_known P env no_cond h e = cc
  all_known P env (more_conds c cs) h e = both_known _ _ (known P env c h.0) (all_known P env cs h.1) e

  any_known : (P : Tree) (env : Env) (cs : CondTrees) → AreSettled P env cs → truth_any cs env P ≡ Unknown → ⊥
  any_known P env no_cond h e = cc
  any_known P env (more_conds c cs) h e = either_known _ _ (known P env c h.0) (any_known P env cs h.1) e

-- ---- where a member is false, so are all

both_false : (k l : Truth) → (k ≡ Unknown → ⊥) → l ≡ False → both k l ≡ False
both_false True l h e = e
both_false False l h e = refl
both_false Unknown l h e = absurd (h refl)

first_false : (k l : Truth) → k ≡ False → both k l ≡ False
first_false k l e = ap (λ z. both z l) e

equal_false : (P : Tree) (env : Env) (l r left right : OperandTree) (rel : Rel) → IsEqual l r left right rel → truth (Compare l Eq r) env P ≡ False → truth (Compare left rel right) env P ≡ False
equal_false P env l r left right Eq h e = ap (λ (z : OperandTree). truth (Compare z Eq right) env P) h.0 ∙ (ap (λ (z : OperandTree). truth (Compare l Eq z) env P) h.1 ∙ e)
equal_false P env l r left right Ne h e = absurd h
equal_false P env l r left right Lt h e = absurd h
equal_false P env l r left right Le h e = absurd h
equal_false P env l r left right Gt h e = absurd h
equal_false P env l r left right Ge h e = absurd h

mutual
  asks_false : (P : Tree) (env : Env) (l r : OperandTree) (c : CondTree) → AsksEqual l r c → IsSettled P env c → truth (Compare l Eq r) env P ≡ False → truth c env P ≡ False
  asks_false P env l r Always a h e = absurd a
  asks_false P env l r (Exists x steps) a h e = absurd a
  asks_false P env l r (Compare left rel right) a h e = equal_false P env l r left right rel a e
  asks_false P env l r (Not c) a h e = absurd a
  asks_false P env l r (AllOf cs) a h e = some_false P env l r cs a h e
  asks_false P env l r (AnyOf cs) a h e = absurd a

  some_false : (P : Tree) (env : Env) (l r : OperandTree) (cs : CondTrees) → SomeAsksEqual l r cs → AreSettled P env cs → truth (Compare l Eq r) env P ≡ False → truth_all cs env P ≡ False
  some_false P env l r no_cond a h e = absurd a
  some_false P env l r (more_conds c cs) (inl a) h e = first_false _ _ (asks_false P env l r c a h.0 e)
  some_false P env l r (more_conds c cs) (inr a) h e = both_false _ _ (known P env c h.0) (some_false P env l r cs a h.1 e)

-- ---- another variable's node doesn't matter

other_node : (env : Env) (z x : ℕ) (m : Node) → (z ≡ x → ⊥) → bind_var env z m x ≡ env x
other_node env z x m h = rw (ne_eqb x z (λ e. h (sym e))) refl

same_values : (P : Tree) (env : Env) (z : ℕ) (m : Node) (o : OperandTree) → IsNotFrom z o → settled_values P (bind_var env z m) o ≡ settled_values P env o
same_values P env z m (Path x steps) h = ap (λ (n : Node). settled_values P (λ q. n) (Path x steps)) (other_node env z x m h)
same_values P env z m (Str b) h = refl
same_values P env z m (Num l) h = refl

same_over : (P : Tree) (env : Env) (z : ℕ) (m : Node) (o : OperandTree) → IsNotFrom z o → is_over P (bind_var env z m) o ≡ is_over P env o
same_over P env z m (Path x steps) h = ap (is_closed P) (other_node env z x m h)
same_over P env z m (Str b) h = refl
same_over P env z m (Num l) h = refl

same_truth : (P : Tree) (env : Env) (z : ℕ) (m : Node) (l r : OperandTree) → IsNotFrom z l → IsNotFrom z r → truth (Compare l Eq r) (bind_var env z m) P ≡ truth (Compare l Eq r) env P
same_truth P env z m l r a b = rw (same_values P env z m l a, same_values P env z m r b, same_over P env z m l a, same_over P env z m r b) refl

-- ---- bodies

quiet_seq : (a b : Out) → a ≡ idle true → b ≡ idle true → seq a b ≡ idle true
quiet_seq a b e f = ap (λ (z : Out). seq z b) e ∙ ap (seq (idle true)) f

quiet_loop : (f : Node → Out) (ns : List Node) → ((n : Node) → In n ns → f n ≡ idle true) → loop f ns true ≡ idle true
quiet_loop f [] h = refl
quiet_loop f (n ∷ ns) h = quiet_seq (f n) (loop f ns true) (h n (inl refl)) (quiet_loop f ns (λ m i. h m (inr i)))

mutual
  quiet_item : (P : Tree) (l r : OperandTree) (i : ItemTree) (env : Env) → IsGuardedItem l r i → IsItemSettled P env i → truth (Compare l Eq r) env P ≡ False → run_item i env P ≡ idle true
  quiet_item P l r (Write b) env g h e = absurd g
  quiet_item P l r (Copy x) env g h e = absurd g
  quiet_item P l r (For z y s d) env g h e =
      ap (loop (λ n. run d (bind_var env z n) P) (matches P (serial_of (env y)) (s ∷ []))) h.0
      ∙ quiet_loop (λ n. run d (bind_var env z n) P) (matches P (serial_of (env y)) (s ∷ [])) (λ m i. quiet P l r d (bind_var env z m) g.2 (h.1 m i) (same_truth P env z m l r g.0 g.1 ∙ e))
  quiet_item P l r (If c a b) env g h e =
      ap (λ k. choose k (run a env P) (run b env P)) (asks_false P env l r c g.0 h e)
      ∙ ap (λ (z : BodyTree). run z env P) g.1
  quiet_item P l r (SignOff o) env g h e = absurd g

  quiet : (P : Tree) (l r : OperandTree) (d : BodyTree) (env : Env) → IsGuarded l r d → IsBodySettled P env d → truth (Compare l Eq r) env P ≡ False → IsQuiet d env P
  quiet P l r Nil env g h e = refl
  quiet P l r (Then i d) env g h e = quiet_seq (run_item i env P) (run d env P) (quiet_item P l r i env g.0 h.0 e) (quiet P l r d env g.1 h.1 e)

pub guarded_are_quiet : GuardedAreQuiet
guarded_are_quiet = quiet
