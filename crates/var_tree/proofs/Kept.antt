-- What is kept of the variables is what the variable tree tells of them.
use Rattle.std.proofs.Common.{ℕ, zero, suc, ◌≡◌, ◌==◌, Bool, true, false, cond, ◌&&◌, ◌||◌, List, [], ◌∷◌, ◌++◌, map, refl, sym, ap, ◌∙◌}
use Rattle.std.proofs.lemmas.List.{map-append}
use Rattle.gcx_base.specs.declared.steps.Step.{Step}
use Rattle.gcx_model.specs.Core.{BodyTree}
use Rattle.gcx_model.specs.Variables.{Var, var0, is_straight, is_child, all_child, one_desc}
use Rattle.var_tree.specs.Loops.{Loop, loops}
use Rattle.var_tree.specs.Facts.{Facts, root_facts, facts_at, kept_facts, next_facts, with_loops}
use Rattle.var_tree.proofs.Tables.{look, look_map}
use Rattle.var_tree.proofs.Growing.{grown, loop_var, table}

-- the path of a straight variable has at most one descendant step
abbrev pub Fair : Var → Type 0
Fair v = v.straight ≡ true → one_desc v.path ≡ true

abbrev pub AllFair : List Var → Type 0
AllFair [] = Unit {0}
AllFair (v ∷ vs) = Fair v × AllFair vs

fair_more : (T : List Var) (v : Var) → AllFair T → Fair v → AllFair (T ++ v ∷ [])
fair_more [] v a f = (f, tt)
fair_more (w ∷ T) v a f = (a.0, fair_more T v a.1 f)

fair_at : (T : List Var) (y : ℕ) → AllFair T → Fair (look var0 T y)
fair_at T zero a = λ e. refl
fair_at [] (suc k) a = λ e. refl
fair_at (v ∷ T) (suc zero) a = a.0
fair_at (v ∷ T) (suc (suc k)) a = fair_at T (suc k) a.1

and_right : (a b c : Bool) → (a && (b && c)) ≡ true → c ≡ true
and_right true true c e = e
and_right true false c e = absurd (cc)
and_right false b c e = absurd (cc)

fair_next : (l : Loop) (p : Var) → Fair (loop_var l p)
fair_next l p = λ e. and_right p.straight (l.parent == l.outer) (one_desc (p.path ++ l.step ∷ [])) e

child_more : (path : List Step) (s : Step) → all_child (path ++ s ∷ []) ≡ (is_child s.axis && all_child path)
child_more [] s = refl
child_more (r ∷ path) s = go (is_child r.axis) (is_child s.axis) (all_child path) (child_more path s)
  where
    go : (a b c : Bool) {d : Bool} → d ≡ (b && c) → (a && d) ≡ (b && (a && c))
    go true b c e = e
    go false true c e = refl
    go false false c e = refl

first_desc : (s : Step) → cond (is_child s.axis) true true ≡ (is_child s.axis || true)
first_desc s = go (is_child s.axis)
  where
    go : (a : Bool) → cond a true true ≡ (a || true)
    go true = refl
    go false = refl

last_child : (a b : Bool) → b ≡ true → (a && b) ≡ (a || false)
last_child true b h = h
last_child false b h = refl

-- b and d tell whether at most one is a descendant step, c and e whether none is, of a path and of the path with a step more; a is of the first step of both, w of the step
more_steps : (a b c d e w : Bool) → (b ≡ true → d ≡ (w || c)) → e ≡ (w && c) → cond a b c ≡ true → cond a d e ≡ (w || (a && c))
more_steps true b c d e w h g k = h k
more_steps false b c d e w h g k = g ∙ last_child w c k

desc_more : (path : List Step) (s : Step) → one_desc path ≡ true → one_desc (path ++ s ∷ []) ≡ (is_child s.axis || all_child path)
desc_more [] s e = first_desc s
desc_more (r ∷ path) s e = more_steps (is_child r.axis) (one_desc path) (all_child path) (one_desc (path ++ s ∷ [])) (all_child (path ++ s ∷ [])) (is_child s.axis) (desc_more path s) (child_more path s) e

-- what is kept of a variable
abbrev pub kept : Var → Facts
kept v = record { straight = v.straight; fsa = v.base; only_child = all_child v.path }

kept_next : (l : Loop) (p : Var) → Fair p → next_facts l (kept p) ≡ kept (loop_var l p)
kept_next l p f =
    (λ i. kept_facts (same i) l (kept p)) ∙ (λ i. record { straight = is_straight l.outer l.parent l.step p; fsa = cond (is_straight l.outer l.parent l.step p) l.var p.base; only_child = sym (child_more p.path l.step) i })
  where
    by : (a b c : Bool) → (a ≡ true → b ≡ c) → (a && ((l.parent == l.outer) && b)) ≡ (a && ((l.parent == l.outer) && c))
    by true b c h = ap (λ z. (l.parent == l.outer) && z) (h refl)
    by false b c h = refl

    same : (p.straight && ((l.parent == l.outer) && (is_child l.step.axis || all_child p.path))) ≡ is_straight l.outer l.parent l.step p
    same = by p.straight (is_child l.step.axis || all_child p.path) (one_desc (p.path ++ l.step ∷ [])) (λ h. sym (desc_more p.path l.step (f h)))

facts_look : (known : List Facts) (y : ℕ) → facts_at known y ≡ look root_facts known y
facts_look known zero = refl
facts_look known (suc k) = refl

pub kept_grown : (T : List Var) (ls : List Loop) → AllFair T → with_loops (map kept T) ls ≡ map kept (grown T ls)
kept_grown T [] a = refl
kept_grown T (l ∷ ls) a =
    ap (λ fs. with_loops fs ls) one ∙ kept_grown (T ++ loop_var l (look var0 T l.parent) ∷ []) ls (fair_more T (loop_var l (look var0 T l.parent)) a (fair_next l (look var0 T l.parent)))
  where
    one : map kept T ++ next_facts l (facts_at (map kept T) l.parent) ∷ [] ≡ map kept (T ++ loop_var l (look var0 T l.parent) ∷ [])
    one =
        ap (λ p. map kept T ++ next_facts l p ∷ []) (facts_look (map kept T) l.parent ∙ look_map kept var0 T l.parent)
        ∙ (ap (λ v. map kept T ++ v ∷ []) (kept_next l (look var0 T l.parent) (fair_at T l.parent a)) ∙ sym (map-append kept T (loop_var l (look var0 T l.parent) ∷ [])))

pub kept_all : (core : BodyTree) → with_loops [] (loops core 0) ≡ map kept (table core)
kept_all core = kept_grown [] (loops core 0) tt
