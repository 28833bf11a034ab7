-- At each time a run is its course, cut at that time.
use Rattle.std.proofs.Common.{◌≡◌, ℕ, zero, suc, ◌+◌, ◌<◌, ◌≤◌, Bool, true, false, cond, List, [], ◌∷◌, length, refl, sym, ◌∙◌, ap, subst, inl, inr, arith, max, eqb}
use Rattle.std.specs.List.{filter}
use Rattle.std.proofs.lemmas.Bool.{leb-true, le-leb, lt-leb, cases_lt}
use Rattle.gcx_base.specs.declared.kind.Kind.{Kind}
use Rattle.gcx_base.specs.declared.kind.Kind.TheVariants.{Document, Element, Text}
use Rattle.gcx_model.specs.Tree.{Node, Root, serial_of, kind_of, Tree, TreeToken, opening, is_closed}
use Rattle.gcx_model.specs.Paths.{matches}
use Rattle.gcx_model.specs.Answer.{child_step, children}
use Rattle.gcx_model.specs.Written.{start_tag, end_tag, escaped}
use Rattle.gcx_model.specs.Core.{ItemTree, Write, Copy, For, If, SignOff, BodyTree, Nil, Then}
use Rattle.gcx_model.specs.declared.truth.Truth.{Truth}
use Rattle.gcx_model.specs.Truth.{Env, bind_var}
use Rattle.gcx_model.specs.Run.{Wrote, Offed, Out, wrote, idle, seq, loop, copy_with, copy, choose, run_item, run, env0}
use Rattle.tree_laws.proofs.Lists.{In, In-filter, In-kept}
use Rattle.tree_laws.proofs.Matches.{Grown, Grown-all, Grown-opening, Numbered-high, Matches-in}
use Rattle.placed_laws.proofs.Whole.{child_above}
use Rattle.std.specs.Prelude.{take}
use Rattle.time_laws.specs.Times.{Clock, IsClock, tree_at, is_there, TimedCourse, one_act, none_till, then_on, rounds, copy_course_with, copy_course, SettledTruth, settled, item_course, course}
use Rattle.time_laws.specs.Laws.{RunByTimes}
use Rattle.time_laws.proofs.Begun.{Late, late_one, late_then, late_rounds, late_copy, late_item, late_course, late_branch}
use Rattle.time_laws.proofs.Cuts.{cut, same_out, cut_late, seq_cut, one_cut, loop_cut}
use Rattle.time_laws.proofs.Truths.{verdict_of, verdict_at, AreThere, matches_cut, matches_rise, truth_cut}

copy_with_cut : (j : ℕ) (k : Kind) (inner : Out) (f : ℕ → TimedCourse) (t : ℕ) → t ≤ j → ((u : ℕ) → Late u (f u)) → inner ≡ cut j (f t) → copy_with k inner ≡ cut j (copy_course_with k f t)
copy_with_cut j Document inner f t l h e = e
copy_with_cut j (Element name) inner f t l h e =
    let a : TimedCourse = one_act t (Wrote (start_tag name)) in
    let close : ℕ → TimedCourse = λ v. one_act v (Wrote (end_tag name)) in
    ap (λ (z : Out). seq z (seq inner (wrote (end_tag name)))) (sym (one_cut j t (Wrote (start_tag name)) l))
    ∙ seq_cut j a (λ u. then_on (f u) close) (seq inner (wrote (end_tag name))) (late_copy_with_rest t)
    (λ m. ap (λ (z : Out). seq z (wrote (end_tag name))) e ∙ seq_cut j (f t) close (wrote (end_tag name)) (late_one (f t).till (Wrote (end_tag name))) (λ q. sym (one_cut j (f t).till (Wrote (end_tag name)) q)))
  where
    late_copy_with_rest : (u : ℕ) → Late u (then_on (f u) (λ v. one_act v (Wrote (end_tag name))))
    late_copy_with_rest u = late_then u (f u) (λ v. one_act v (Wrote (end_tag name))) (h u) (λ v. late_one v (Wrote (end_tag name)))
copy_with_cut j (Text b) inner f t l h e = sym (one_cut j t (Wrote (escaped b)) l)

module _ (c : Clock) (ts : List TreeToken) (C : Tree) (most : ℕ) (k : IsClock c ts C most) (j : ℕ) (l : j ≤ most) where
  grown_at : Grown (tree_at ts j)
  grown_at = Grown-all (take j ts) opening Grown-opening

  there : (n : Node) → In n C.nodes → c.opened (serial_of n) ≤ j → serial_of n < length (tree_at ts j).nodes
  there n i o =
      let q : In n (tree_at ts j).nodes = subst (λ (z : List Node). In n z) (sym (k.nodes j l)) (In-kept (is_there c j) n C.nodes i (le-leb (c.opened (serial_of n)) j o)) in
      let r = Numbered-high 0 (tree_at ts j).nodes grown_at.numbered n q in
      omega arith

  copy_cut : (f g : ℕ) (n : Node) (t : ℕ) → In n C.nodes → c.opened (serial_of n) ≤ t → t ≤ j → length (tree_at ts j).nodes ≤ f + serial_of n → length C.nodes ≤ g + serial_of n
      → copy f (tree_at ts j) n ≡ cut j (copy_course g c C n t)
  copy_cut zero g n t i o m a b = let r = there n i (omega arith) in absurd (omega arith)
  copy_cut (suc f) zero n t i o m a b = let r = Numbered-high 0 C.nodes k.grown.numbered n i in absurd (omega arith)
  copy_cut (suc f) (suc g) n t i o m a b =
      copy_with_cut j (kind_of n) (loop (copy f (tree_at ts j)) (children (tree_at ts j) n) (is_closed (tree_at ts j) n)) (rounds c (copy_course g c C) (children C n) (c.closed (serial_of n))) t m
      (λ u. late_rounds c (copy_course g c C) (late_copy g c C) (children C n) (c.closed (serial_of n)) u)
      (ap (λ (z : List Node). loop (copy f (tree_at ts j)) z (is_closed (tree_at ts j) n)) (matches_cut c ts C most k j l (serial_of n) (child_step ∷ []))
      ∙ (ap (λ (z : Bool). loop (copy f (tree_at ts j)) (filter (is_there c j) (children C n)) z) (k.closed j l n i (omega arith))
      ∙ loop_cut j c (copy f (tree_at ts j)) (copy_course g c C) (late_copy g c C) 0 (children C n) (c.closed (serial_of n)) t (omega arith) m (matches_rise c ts C most k j l n (child_step ∷ []) i)
      (λ x u q ux ox ou.
      let p = Matches-in C (serial_of n) (child_step ∷ []) x q in
      let low = child_above C k.grown k.shut (serial_of n) x p.0 p.1 in
      copy_cut f g x u p.0 ox ou (omega arith) (omega arith))))

  bound_on : (t u : ℕ) (env : Env) → t ≤ u → AreThere c ts C most k j l t env → AreThere c ts C most k j l u env
  bound_on t u env m b x = ((b x).0, let r = (b x).1 in omega arith)

  bound_bind : (t : ℕ) (env : Env) (x : ℕ) (n : Node) → AreThere c ts C most k j l t env → In n C.nodes → c.opened (serial_of n) ≤ t → AreThere c ts C most k j l t (bind_var env x n)
  bound_bind t env x n b i o y = go (eqb y x)
    where
      go : (z : Bool) → In (cond z n (env y)) C.nodes × (c.opened (serial_of (cond z n (env y))) ≤ t)
      go true = (i, o)
      go false = b y

  branch_cut : (s : SettledTruth) (a b : BodyTree) (env : Env) (t : ℕ) → t ≤ j
      → ((u : ℕ) → t ≤ u → u ≤ j → run a env (tree_at ts j) ≡ cut j (course c C a env u))
      → ((u : ℕ) → t ≤ u → u ≤ j → run b env (tree_at ts j) ≡ cut j (course c C b env u))
      → choose (verdict_at j s) (run a env (tree_at ts j)) (run b env (tree_at ts j)) ≡ cut j (cond s.truth (course c C a env (max t s.at)) (course c C b env (max t s.at)))
  branch_cut s a b env t m ha hb = elim (cases_lt j s.at) [
    | inl q ↦ rw (lt-leb s.at j q) (sym (cut_late j (max t s.at) (cond s.truth (course c C a env (max t s.at)) (course c C b env (max t s.at))) (late_branch c C s.truth a b env (max t s.at)) (omega arith)))
    | inr q ↦ rw (le-leb s.at j q) (go s.truth (max t s.at) (omega arith) (omega arith))
  ]
    where
      go : (x : Bool) (u : ℕ) → t ≤ u → u ≤ j → choose (verdict_of x) (run a env (tree_at ts j)) (run b env (tree_at ts j)) ≡ cut j (cond x (course c C a env u) (course c C b env u))
      go true u p q = ha u p q
      go false u p q = hb u p q

  mutual
    item_cut : (i : ItemTree) (env : Env) (t : ℕ) → AreThere c ts C most k j l t env → t ≤ j → run_item i env (tree_at ts j) ≡ cut j (item_course c C i env t)
    item_cut (Write s) env t b m = sym (one_cut j t (Wrote s) m)
    item_cut (Copy x) env t b m = copy_cut (length (tree_at ts j).nodes) (length C.nodes) (env x) t (b x).0 (b x).1 m (omega arith) (omega arith)
    item_cut (For x y s d) env t b m =
        ap (λ (z : List Node). loop (λ n. run d (bind_var env x n) (tree_at ts j)) z (is_closed (tree_at ts j) (env y))) (matches_cut c ts C most k j l (serial_of (env y)) (s ∷ []))
        ∙ (ap (λ (z : Bool). loop (λ n. run d (bind_var env x n) (tree_at ts j)) (filter (is_there c j) (matches C (serial_of (env y)) (s ∷ []))) z) (k.closed j l (env y) (b y).0 (let r = (b y).1 in omega arith))
        ∙ loop_cut j c (λ n. run d (bind_var env x n) (tree_at ts j)) (λ n u. course c C d (bind_var env x n) u) (λ n u. late_course c C d (bind_var env x n) u)
        t (matches C (serial_of (env y)) (s ∷ [])) (c.closed (serial_of (env y))) t (omega arith) m (matches_rise c ts C most k j l (env y) (s ∷ []) (b y).0)
        (λ n u q tu on un. run_cut d (bind_var env x n) u (bound_bind u env x n (bound_on t u env tu b) (Matches-in C (serial_of (env y)) (s ∷ []) n q).0 on) un))
    item_cut (If q a e) env t b m =
        ap (λ (z : Truth). choose z (run a env (tree_at ts j)) (run e env (tree_at ts j))) (truth_cut c ts C most k j l q env (bound_on t j env m b))
        ∙ branch_cut (settled c C q env) a e env t m (λ u p r. run_cut a env u (bound_on t u env p b) r) (λ u p r. run_cut e env u (bound_on t u env p b) r)
    item_cut (SignOff o) env t b m = sym (one_cut j t (Offed o (serial_of (env o.base))) m)

    pub run_cut : (d : BodyTree) (env : Env) (t : ℕ) → AreThere c ts C most k j l t env → t ≤ j → run d env (tree_at ts j) ≡ cut j (course c C d env t)
    run_cut Nil env t b m = same_out (idle true) (cut j (none_till t)) refl (sym (le-leb t j m))
    run_cut (Then i d) env t b m =
        ap (λ (z : Out). seq z (run d env (tree_at ts j))) (item_cut i env t b m)
        ∙ seq_cut j (item_course c C i env t) (course c C d env) (run d env (tree_at ts j)) (late_course c C d env (item_course c C i env t).till)
        (λ p. run_cut d env (item_course c C i env t).till (bound_on t (item_course c C i env t).till env (late_item c C i env t).till b) p)

pub run_by_times : RunByTimes
run_by_times c ts C most k plan j l =
    ap (λ (z : Out). z.acts) (run_cut c ts C most k j l plan.body env0 0 (λ x. (root_there, root_first)) (omega arith))
  where
    P0 : Tree
    P0 = tree_at ts 0

    root_in : In Root (filter (is_there c 0) C.nodes)
    root_in = subst (λ (z : List Node). In Root z) (k.nodes 0 (omega arith)) (inl refl)

    root_there : In Root C.nodes
    root_there = (In-filter (is_there c 0) Root C.nodes root_in).0

    root_first : c.opened 0 ≤ 0
    root_first = leb-true (c.opened 0) 0 (In-filter (is_there c 0) Root C.nodes root_in).1
