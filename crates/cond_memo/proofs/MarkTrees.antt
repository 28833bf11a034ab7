-- The matches of a path as those of its last step, and the truth of a mark's question by the matches that do.
use Rattle.std.proofs.Common.{◌≡◌, ◌<◌, ◌≤◌, ℕ, Bool, true, false, cond, ◌&&◌, ◌||◌, ◌==◌, List, [], ◌∷◌, ◌++◌, length, map, Option, Some, None, refl, sym, ◌∙◌, ap, subst, inl, inr, arith, eqb}
use Rattle.std.specs.List.{filter}
use Rattle.std.proofs.lemmas.Bool.{and_parts, and_from, or_cases, false≢true, true≢false, eqb-true}
use Rattle.std.proofs.Math.Bool.{or-true}
use Rattle.gcx_base.specs.declared.steps.Axis.{Axis}
use Rattle.gcx_base.specs.declared.steps.Axis.TheVariants.{Child, Descendant}
use Rattle.gcx_base.specs.declared.steps.Test.{Test}
use Rattle.gcx_base.specs.declared.steps.Step.{Step}
use Rattle.gcx_model.specs.Tree.{Node, Root, Under, serial_of, kind_of, above, within, Tree, is_closed}
use Rattle.gcx_base.specs.Tests.{passes}
use Rattle.gcx_model.specs.Paths.{lies, reach, hits, matches, value}
use Rattle.gcx_model.specs.Members.{In}
use Rattle.gcx_model.specs.Answer.{is_any, some_pair}
use Rattle.gcx_model.specs.Values.{ComparedValue, Bytes, compare}
use Rattle.gcx_model.specs.declared.truth.Truth.TheVariants.{True}
use Rattle.gcx_model.specs.Truth.{Env, node_value, settled_values, is_over, settle}
use Rattle.gcx_model.specs.CondView.{operand_tree}
use Rattle.gcx_model.specs.declared.cond.Operand.{Operand}
use Rattle.gcx_model.specs.declared.cond.Operand.TheVariants as operand
use Rattle.tree_laws.proofs.Lists.{any_in}
use Rattle.tree_laws.proofs.Matches.{Grown}
use Rattle.tree_laws.proofs.Freeze.{hits_within}
use Rattle.tree_laws.proofs.Chains.{above_in, hits_one}
use Rattle.cond_memo.specs.Marks.{answer, AsksLiteral, IsFound, NotFound, EndsAs, Fits}
use Rattle.cond_eval.specs.Literals.{literal_value, IsLiteral}
use Rattle.cond_memo.specs.declared.mark.Ask.{Ask}

-- ---- serials of matches

module _ (P : Tree) (g : Grown P) where
  pub above_low : (m j : Node) → In m P.nodes → In j (above m) → serial_of j ≤ serial_of m
  above_low Root j i (inl e) = let f = ap serial_of e in omega arith
  above_low Root j i (inr h) = absurd h
  above_low (Under p s k) j i (inl e) = let f = ap serial_of e in omega arith
  above_low (Under p s k) j i (inr h) = let f = above_low p j (g.upward p s k i) h in let b = g.below p s k i in omega arith

  within_high : (n : ℕ) (m : Node) → In m P.nodes → within n m ≡ true → n ≤ serial_of m
  within_high n Root i h = let e = eqb-true 0 n h in omega arith
  within_high n (Under p s w) i h = elim (or_cases (eqb s n) (within n p) h) [
    | inl e ↦ (let f = eqb-true s n e in omega arith)
    | inr e ↦ (
        let f = within_high n p (g.upward p s w i) e in
        let b = g.below p s w i in
        omega arith)
  ]

  lies_high : (a : Axis) (n : ℕ) (m : Node) → In m P.nodes → lies a n m ≡ true → n < serial_of m
  lies_high Child n Root i l = absurd (false≢true l)
  lies_high Descendant n Root i l = absurd (false≢true l)
  lies_high Child n (Under p s w) i l = let e = eqb-true (serial_of p) n l in let b = g.below p s w i in omega arith
  lies_high Descendant n (Under p s w) i l = let e = within_high n p (g.upward p s w i) l in let b = g.below p s w i in omega arith

  -- a match of some steps has a greater serial than the node from which they lead
  pub hit_high : (n : ℕ) (s : Step) (rest : List Step) (m : Node) → In m P.nodes → hits n (s ∷ rest) m ≡ true → n < serial_of m
  hit_high n s rest m i h =
      let r = any_in (λ (j : Node). reach n s j && hits (serial_of j) rest m) (above m) h in
      let a = and_parts (reach n s r.0) (hits (serial_of r.0) rest m) r.2 in
      let l = lies_high s.axis n r.0 (above_in P g m r.0 i r.1) (and_parts (passes s.test (kind_of r.0)) (lies s.axis n r.0) a.0).1 in
      let u = above_low m r.0 i r.1 in
      omega arith

  ends_pass : (s : Step) (rest : List Step) (last : Step) (n : ℕ) (m : Node) → In m P.nodes → EndsAs (s ∷ rest) last → hits n (s ∷ rest) m ≡ true → passes last.test (kind_of m) ≡ true
  ends_pass s [] last n m i e h =
      let r = hits_one P g n s m i h in
      subst (λ (t : Test). passes t (kind_of m) ≡ true) (sym e.1) (and_parts (passes s.test (kind_of m)) (lies s.axis n m) r).0
  ends_pass s (t ∷ rest) last n m i e h =
      let r = any_in (λ (j : Node). reach n s j && hits (serial_of j) (t ∷ rest) m) (above m) h in
      let a = and_parts (reach n s r.0) (hits (serial_of r.0) (t ∷ rest) m) r.2 in
      ends_pass t rest last (serial_of r.0) m i e a.1

  ends_below : (s : Step) (rest : List Step) (last : Step) → EndsAs (s ∷ rest) last → last.axis ≡ Descendant
  ends_below s [] last e = e.0
  ends_below s (t ∷ rest) last e = ends_below t rest last e

  deeper : (n : ℕ) (m : Node) → within n m ≡ true → n < serial_of m → lies Descendant n m ≡ true
  deeper n Root h l = absurd (omega arith)
  deeper n (Under p s k) h l = elim (or_cases (eqb s n) (within n p) h) [
    | inl e ↦ (let f = eqb-true s n e in absurd (omega arith))
    | inr e ↦ e
  ]

  -- each match of the steps is one of their last step
  pub fits_reach : (steps : List Step) (last : Step) (n : ℕ) (m : Node) → In m P.nodes → (steps ≡ [] → ⊥) → Fits steps last → hits n steps m ≡ true → reach n last m ≡ true
  fits_reach [] last n m i some f h = absurd (some refl)
  fits_reach (s ∷ []) last n m i some f h = subst (λ (t : Step). reach n t m ≡ true) (sym f) (hits_one P g n s m i h)
  fits_reach (s ∷ t ∷ rest) last n m i some f h =
      let r = any_in (λ (j : Node). reach n s j && hits (serial_of j) (t ∷ rest) m) (above m) h in
      let a = and_parts (reach n s r.0) (hits (serial_of r.0) (t ∷ rest) m) r.2 in
      let pass = ends_pass t rest last (serial_of r.0) m i f a.1 in
      let low : lies Descendant n m ≡ true = deeper n m (hits_within n (s ∷ t ∷ rest) m h) (hit_high n s (t ∷ rest) m i h) in
      and_from _ _ pass (subst (λ (x : Axis). lies x n m ≡ true) (sym (ends_below t rest last f)) low)

-- ---- the last step

ends_as : (t : Step) (front : List Step) → EndsAs (front ++ t ∷ []) (record { axis = Descendant; test = t.test })
ends_as t [] = (refl, refl)
ends_as t (x ∷ []) = (refl, refl)
ends_as t (x ∷ y ∷ front) = ends_as t (y ∷ front)

pub fits_more : (t : Step) (front : List Step) → (front ≡ [] → ⊥) → Fits (front ++ t ∷ []) (record { axis = Descendant; test = t.test })
fits_more t [] some = absurd (some refl)
fits_more t (x ∷ []) some = (refl, refl)
fits_more t (x ∷ y ∷ front) some = ends_as t (y ∷ front)

pub not_empty : (xs : List Step) (b : Bool) → b ≡ (length xs == 0) → b ≡ false → xs ≡ [] → ⊥
not_empty xs b e f n = true≢false (sym (e ∙ ap (λ (ys : List Step). length ys == 0) n) ∙ f)

-- ---- the truth of the question

any_some : {X : Type 0} (x : X) (xs : List X) → In x xs → is_any xs ≡ true
any_some x [] i = absurd i
any_some x (y ∷ ys) i = refl

any_none : {X : Type 0} (xs : List X) → ((x : X) → In x xs → ⊥) → is_any xs ≡ false
any_none [] h = refl
any_none (x ∷ xs) h = absurd (h x (inl refl))

-- the values of the closed matches, compared with that of the literal
abbrev pairs : Tree → Ask → List Node → List ComparedValue → Bool
pairs P a ms vs = some_pair (compare a.rel) (map (node_value P) (filter (is_closed P) ms)) vs

pairs_found : (P : Tree) (a : Ask) (v : ComparedValue) (ms : List Node) (j : Node) → In j ms → is_closed P j ≡ true → compare a.rel (Bytes (value P j)) v ≡ true → pairs P a ms (v ∷ []) ≡ true
pairs_found P a v [] j i c h = absurd i
pairs_found P a v (m ∷ ms) j i c h = go (is_closed P m) refl i (λ k. pairs_found P a v ms j k c h)
  where
    go : (b : Bool) → is_closed P m ≡ b → In j (m ∷ ms) → (In j ms → pairs P a ms (v ∷ []) ≡ true) → some_pair (compare a.rel) (map (node_value P) (cond b (m ∷ filter (is_closed P) ms) (filter (is_closed P) ms))) (v ∷ []) ≡ true
    go true e (inl f) ih = ap (λ (x : Node). (compare a.rel (Bytes (value P x)) v || false) || pairs P a ms (v ∷ [])) f ∙ ap (λ (x : Bool). (x || false) || pairs P a ms (v ∷ [])) h
    go true e (inr k) ih = ap (λ (x : Bool). (compare a.rel (Bytes (value P m)) v || false) || x) (ih k) ∙ or-true (compare a.rel (Bytes (value P m)) v || false)
    go false e (inl f) ih = absurd (false≢true (sym e ∙ ap (is_closed P) f ∙ c))
    go false e (inr k) ih = ih k

pairs_none : (P : Tree) (a : Ask) (v : ComparedValue) (ms : List Node) → ((j : Node) → In j ms → is_closed P j ≡ true → compare a.rel (Bytes (value P j)) v ≡ true → ⊥) → pairs P a ms (v ∷ []) ≡ false
pairs_none P a v [] h = refl
pairs_none P a v (m ∷ ms) h = go (is_closed P m) refl (pairs_none P a v ms (λ j i. h j (inr i)))
  where
    go : (b : Bool) → is_closed P m ≡ b → pairs P a ms (v ∷ []) ≡ false → some_pair (compare a.rel) (map (node_value P) (cond b (m ∷ filter (is_closed P) ms) (filter (is_closed P) ms))) (v ∷ []) ≡ false
    go true e ih = at (compare a.rel (Bytes (value P m)) v) refl
      where
        at : (b : Bool) → compare a.rel (Bytes (value P m)) v ≡ b → ((b || false) || pairs P a ms (v ∷ [])) ≡ false
        at true f = absurd (h m (inl refl) e f)
        at false f = ih
    go false e ih = ih

literal_values : (P : Tree) (env : Env) (o : Operand) → IsLiteral o → settled_values P env (operand_tree o) ≡ literal_value o ∷ []
literal_values P env (operand.Path x steps) l = absurd l
literal_values P env (operand.Str b) l = refl
literal_values P env (operand.Num u) l = refl

literal_over : (P : Tree) (env : Env) (o : Operand) → IsLiteral o → is_over P env (operand_tree o) ≡ true
literal_over P env (operand.Path x steps) l = absurd l
literal_over P env (operand.Str b) l = refl
literal_over P env (operand.Num u) l = refl

and_true : (b : Bool) → (b && true) ≡ b
and_true false = refl
and_true true = refl

module _ (P : Tree) (steps : List Step) (n : Node) where
  abbrev ms : List Node
  ms = matches P (serial_of n) steps

  as_pairs : (a : Ask) → IsLiteral a.literal → answer P steps (Some a) n ≡ settle (pairs P a ms (literal_value a.literal ∷ [])) (is_closed P n)
  as_pairs a l =
      ap (λ (vs : List ComparedValue). settle (pairs P a ms vs) (is_closed P n && is_over P (λ x. n) (operand_tree a.literal))) (literal_values P (λ x. n) a.literal l)
      ∙ ap (λ (b : Bool). settle (pairs P a ms (literal_value a.literal ∷ [])) (is_closed P n && b)) (literal_over P (λ x. n) a.literal l)
      ∙ ap (λ (b : Bool). settle (pairs P a ms (literal_value a.literal ∷ [])) b) (and_true (is_closed P n))

  -- true once a match does,
  pub answer_found : (ask : Option Ask) → AsksLiteral ask → IsFound P ask ms → answer P steps ask n ≡ True
  answer_found None l f = ap (λ (b : Bool). settle b (is_closed P n)) (any_some f.match_at ms f.among)
  answer_found (Some a) l f = as_pairs a l ∙ ap (λ (b : Bool). settle b (is_closed P n)) (pairs_found P a (literal_value a.literal) ms f.match_at f.among f.settled f.does_so)

  -- and else false where the node is closed
  pub answer_none : (ask : Option Ask) → AsksLiteral ask → NotFound P ask ms → answer P steps ask n ≡ settle false (is_closed P n)
  answer_none None l f = ap (λ (b : Bool). settle b (is_closed P n)) (any_none ms (λ j i. f j i refl refl))
  answer_none (Some a) l f = as_pairs a l ∙ ap (λ (b : Bool). settle b (is_closed P n)) (pairs_none P a (literal_value a.literal) ms f)
