-- Statements are carried out at nodes of the tree.
use Rattle.std.proofs.Common.{◌≡◌, ℕ, zero, suc, ◌<◌, ◌==◌, Bool, true, false, cond, List, [], ◌∷◌, ◌++◌, length, map, max, refl, ◌∙◌, ap, subst, inl, inr, arith}
use Rattle.gcx_base.specs.declared.kind.Kind.{Kind}
use Rattle.gcx_base.specs.declared.kind.Kind.TheVariants.{Document, Element, Text}
use Rattle.base_laws.proofs.Members.{from_map, in_map}
use Rattle.gcx_model.specs.Answer.{children}
use Rattle.gcx_model.specs.Core.{ItemTree, BodyTree, OffTree, PlanTree, Write, Copy, For, If, SignOff, Nil, Then}
use Rattle.gcx_model.specs.Members.{In}
use Rattle.gcx_model.specs.Paths.{matches}
use Rattle.gcx_model.specs.Run.{Action, Wrote, Offed, env0}
use Rattle.gcx_model.specs.Tree.{Node, Root, serial_of, kind_of, Tree}
use Rattle.gcx_model.specs.Truth.{Env, bind_var}
use Rattle.gcx_model.specs.Written.{start_tag, end_tag}
use Rattle.tree_laws.proofs.Lists.{In-append}
use Rattle.tree_laws.proofs.Matches.{Grown, Matches-in}
use Rattle.time_laws.specs.Times.{Clock, TimedAction, TimedCourse, one_act, then_on, rounds, settled, copy_course_with, copy_course, item_course, course, timed_acts}
use Rattle.trace_check.specs.Acting.{Adds, ShownAct, Signed, action_shown, seen, shown}
use Rattle.trace_check.specs.Scopes.{env_of}
use Rattle.trace_check.specs.Wanting.{OffsAreThere}
use Rattle.trace_check.specs.declared.acts.TimedAct as code
use Rattle.trace_check.specs.declared.scope.Binding.{Binding}
use Rattle.trace_check.proofs.Numbers.{at_in, in_tree, root_first}

-- no variable is bound at first
pub env_none : (C : Tree) → Grown C → env_of C [] ≡ env0
env_none C w = λ i x. root_first C w i

module _ (most : ℕ) where
  -- each of the statements has a node with a number below this one
  abbrev AreBelow : List TimedAction → Type 0
  AreBelow acts = (a : TimedAction) (o : OffTree) (m : ℕ) → In a acts → a.act ≡ Offed o m → m < most

  wrote_below : (t : ℕ) (b : List ℕ) → AreBelow (one_act t (Wrote b)).acts
  wrote_below t b a o m (inl p) e = let q : Wrote b ≡ Offed o m = ap (λ (x : TimedAction). x.act) p ∙ e in absurd (cc)
  wrote_below t b a o m (inr i) e = absurd i

  then_below : (a : TimedCourse) (f : ℕ → TimedCourse) → AreBelow a.acts → ((u : ℕ) → AreBelow (f u).acts) → AreBelow (then_on a f).acts
  then_below a f h g x o m i e = elim (In-append x a.acts (f a.till).acts i) [
    | inl j ↦ h x o m j e
    | inr j ↦ g a.till x o m j e
  ]

  rounds_below : (c : Clock) (f : Node → ℕ → TimedCourse) (ns : List Node) (over : ℕ) → ((n : Node) → In n ns → (u : ℕ) → AreBelow (f n u).acts) → (t : ℕ) → AreBelow (rounds c f ns over t).acts
  rounds_below c f [] over h t = λ a o m i e. absurd i
  rounds_below c f (n ∷ ns) over h t =
      then_below (f n (max t (c.opened (serial_of n)))) (rounds c f ns over) (h n (inl refl) (max t (c.opened (serial_of n)))) (rounds_below c f ns over (λ m i. h m (inr i)))

  copy_with_below : (k : Kind) (f : ℕ → TimedCourse) → ((u : ℕ) → AreBelow (f u).acts) → (t : ℕ) → AreBelow (copy_course_with k f t).acts
  copy_with_below Document f h t = h t
  copy_with_below (Element name) f h t =
      then_below (one_act t (Wrote (start_tag name))) (λ u. then_on (f u) (λ v. one_act v (Wrote (end_tag name)))) (wrote_below t (start_tag name))
      (λ u. then_below (f u) (λ v. one_act v (Wrote (end_tag name))) (h u) (λ v. wrote_below v (end_tag name)))
  copy_with_below (Text b) f h t = wrote_below t _

  copy_below : (k : ℕ) (c : Clock) (C : Tree) (n : Node) (t : ℕ) → AreBelow (copy_course k c C n t).acts
  copy_below zero c C n t = λ a o m i e. absurd i
  copy_below (suc k) c C n t =
      copy_with_below (kind_of n) (rounds c (copy_course k c C) (children C n) (c.closed (serial_of n)))
      (rounds_below c (copy_course k c C) (children C n) (c.closed (serial_of n)) (λ m i u. copy_below k c C m u)) t

module _ (c : Clock) (C : Tree) (w : Grown C) where
  abbrev IsThere : Env → Type 0
  IsThere env = (x : ℕ) → In (env x) C.nodes

  bound_still : (env : Env) (x : ℕ) (n : Node) → IsThere env → In n C.nodes → IsThere (bind_var env x n)
  bound_still env x n h i y = go (y == x)
    where
      go : (t : Bool) → In (cond t n (env y)) C.nodes
      go true = i
      go false = h y

  either_below : (t : Bool) (a b : TimedCourse) → AreBelow (length C.nodes) a.acts → AreBelow (length C.nodes) b.acts → AreBelow (length C.nodes) (cond t a b).acts
  either_below true a b h g = h
  either_below false a b h g = g

  off_below : (o : OffTree) (env : Env) → IsThere env → (t : ℕ) → AreBelow (length C.nodes) (one_act t (Offed o (serial_of (env o.base)))).acts
  off_below o env h t a p m (inl q) e =
      let same : Offed o (serial_of (env o.base)) ≡ Offed p m = ap (λ (x : TimedAction). x.act) q ∙ e in
      let number : serial_of (env o.base) ≡ m = cc in
      let low = in_tree C w (env o.base) (h o.base) in
      omega (arith, low, number)
  off_below o env h t a p m (inr i) e = absurd i

  mutual
    item_below : (i : ItemTree) (env : Env) → IsThere env → (t : ℕ) → AreBelow (length C.nodes) (item_course c C i env t).acts
    item_below (Write b) env h t = wrote_below (length C.nodes) t b
    item_below (Copy x) env h t = copy_below (length C.nodes) (length C.nodes) c C (env x) t
    item_below (For x y s d) env h t =
        rounds_below (length C.nodes) c (λ n u. course c C d (bind_var env x n) u) (matches C (serial_of (env y)) (s ∷ [])) (c.closed (serial_of (env y)))
        (λ n i u. body_below d (bind_var env x n) (bound_still env x n h (Matches-in C (serial_of (env y)) (s ∷ []) n i).0) u) t
    item_below (If k a b) env h t =
        either_below (settled c C k env).truth (course c C a env (max t (settled c C k env).at)) (course c C b env (max t (settled c C k env).at))
        (body_below a env h (max t (settled c C k env).at)) (body_below b env h (max t (settled c C k env).at))
    item_below (SignOff o) env h t = off_below o env h t

    body_below : (d : BodyTree) (env : Env) → IsThere env → (t : ℕ) → AreBelow (length C.nodes) (course c C d env t).acts
    body_below Nil env h t = λ a o m i e. absurd i
    body_below (Then i d) env h t = then_below (length C.nodes) (item_course c C i env t) (course c C d env) (item_below i env h t) (body_below d env h)

  shown_below : (x : TimedAction) (off : OffTree) (node : ℕ) → ((o : OffTree) (m : ℕ) → x.act ≡ Offed o m → m < length C.nodes) → action_shown x.act ≡ Signed off node → node < length C.nodes
  shown_below x off node h e = go x.act refl e
    where
      go : (a : Action) → x.act ≡ a → action_shown a ≡ Signed off node → node < length C.nodes
      go (Wrote b) q f = absurd (cc)
      go (Offed o m) q f = let same : m ≡ node = cc in let low = h o m q in omega (arith, low, same)

  pub offs_there : 0 < length C.nodes → (plan : PlanTree) (acts : List code.TimedAct) → map shown acts ≡ map seen (timed_acts c C plan) → OffsAreThere C acts
  offs_there some plan acts e a off node i is =
      let r = from_map seen (shown a) (timed_acts c C plan) (subst (λ (l : List ShownAct). In (shown a) l) e (in_map shown a acts i)) in
      shown_below r.0 off node (λ o m q. body_below plan.body env0 (λ x. root_there) 0 r.0 o m r.1 q) (ap (λ (s : ShownAct). s.what) r.2 ∙ is)
    where
      root_there : In Root C.nodes
      root_there = subst (λ (n : Node). In n C.nodes) (root_first C w) (at_in C.nodes 0 some)

-- the actions of a whole body, begun with nothing
pub first_acts : (c : Clock) (C : Tree) → Grown C → (d : BodyTree) (bs : List Binding) → bs ≡ [] → (old new : List code.TimedAct) (u : ℕ) → old ≡ []
    → Adds old new (course c C d (env_of C bs) 0) u → map shown new ≡ map seen (course c C d env0 0).acts
first_acts c C w d bs none old new u empty h =
    h.acts ∙ (ap (λ (l : List code.TimedAct). map shown l ++ map seen (course c C d (env_of C bs) 0).acts) empty
    ∙ ap (λ (env : Env). map seen (course c C d env 0).acts) (ap (env_of C) none ∙ env_none C w))
