-- What is settled of a condition by a time is its truth over the tree of that time.
use Rattle.std.proofs.Common.{◌≡◌, ℕ, ◌<◌, ◌≤◌, Bool, true, false, cond, not, ◌&&◌, ◌||◌, ◌⊎◌, List, [], ◌∷◌, map, refl, sym, ◌∙◌, ap, inl, inr, arith, max, min, leb, Option, Some, None}
use Rattle.std.specs.List.{filter}
use Rattle.std.proofs.lemmas.Bool.{leb-true, leb-false, le-leb, lt-leb, cases_lt}
use Rattle.gcx_base.specs.declared.steps.Step.{Step}
use Rattle.gcx_model.specs.Tree.{Node, serial_of, Tree, TreeToken, is_closed}
use Rattle.gcx_model.specs.Paths.{any, hits, matches}
use Rattle.gcx_model.specs.Values.{ComparedValue, compare}
use Rattle.gcx_model.specs.Answer.{some_pair, is_any}
use Rattle.gcx_model.specs.Core.{OperandTree, Path, Str, Num, CondTree, CondTrees, Always, Exists, Compare, Not, AllOf, AnyOf, no_cond, more_conds}
use Rattle.gcx_model.specs.declared.truth.Truth.{Truth}
use Rattle.gcx_model.specs.declared.truth.Truth.TheVariants.{True, False, Unknown}
use Rattle.gcx_model.specs.Truth.{Env, node_value, settled_values, is_over, settle, negate, both, either, truth, truth_all, truth_any}
use Rattle.tree_laws.proofs.Lists.{In, filter_none}
use Rattle.tree_laws.proofs.Held.{filter_comm}
use Rattle.tree_laws.proofs.Matches.{Rising, Matches-rising, Matches-in}
use Rattle.tree_laws.proofs.Freeze.{hits_within}
use Rattle.time_laws.specs.Times.{Clock, IsClock, tree_at, is_there, SettledTruth, exists_settled, TimedValue, timed_values, over_at, sooner, pair_at, earliest_with, earliest, compare_settled, both_settled, either_settled, settled, settled_all, settled_any}
use Rattle.time_laws.proofs.Cuts.{Rises}

-- ---- numbers

pub leb_max : (a b j : ℕ) → (leb a j && leb b j) ≡ leb (max a b) j
leb_max a b j = elim (cases_lt j a) [
  | inl m ↦ ap (λ z. z && leb b j) (lt-leb a j m) ∙ sym (lt-leb (max a b) j (omega arith))
  | inr m ↦ ap (λ z. z && leb b j) (le-leb a j m) ∙ (elim (cases_lt j b) [
    | inl k ↦ lt-leb b j k ∙ sym (lt-leb (max a b) j (omega arith))
    | inr k ↦ le-leb b j k ∙ sym (le-leb (max a b) j (omega arith))
  ])
]

leb_min : (a b j : ℕ) → leb (min a b) j ≡ (leb a j || leb b j)
leb_min a b j = elim (cases_lt j a) [
  | inl m ↦ (elim (cases_lt j b) [
    | inl k ↦ lt-leb (min a b) j (omega arith) ∙ sym (ap (λ z. z || leb b j) (lt-leb a j m) ∙ lt-leb b j k)
    | inr k ↦ le-leb (min a b) j (omega arith) ∙ sym (ap (λ z. z || leb b j) (lt-leb a j m) ∙ le-leb b j k)
  ])
  | inr m ↦ le-leb (min a b) j (omega arith) ∙ sym (ap (λ z. z || leb b j) (le-leb a j m))
]

-- ---- verdicts

abbrev pub verdict_of : Bool → Truth
verdict_of true = True
verdict_of false = False

abbrev pub verdict_if : Bool → Bool → Truth
verdict_if true b = verdict_of b
verdict_if false b = Unknown

-- what is known by the time j
abbrev pub verdict_at : ℕ → SettledTruth → Truth
verdict_at j s = verdict_if (leb s.at j) s.truth

negate_at : (j : ℕ) (s : SettledTruth) → negate (verdict_at j s) ≡ verdict_at j (record { at = s.at; truth = not s.truth })
negate_at j s = go (leb s.at j) s.truth
  where
    go : (a b : Bool) → negate (verdict_if a b) ≡ verdict_if a (not b)
    go true true = refl
    go true false = refl
    go false b = refl

both_at : (j : ℕ) (a b : SettledTruth) → both (verdict_at j a) (verdict_at j b) ≡ verdict_at j (both_settled a b)
both_at j a b = go a.truth refl (cases_lt j a.at)
  where
    go : (x : Bool) → a.truth ≡ x → (j < a.at) ⊎ (a.at ≤ j) → both (verdict_if (leb a.at j) x) (verdict_at j b) ≡ verdict_at j (cond x (record { at = max a.at b.at; truth = b.truth }) a)
    go true e (inl l) = rw (lt-leb a.at j l, lt-leb (max a.at b.at) j (omega arith)) refl
    go true e (inr l) = rw (le-leb a.at j l) (ap (λ z. verdict_if z b.truth) (sym (ap (λ z. z && leb b.at j) (le-leb a.at j l)) ∙ leb_max a.at b.at j))
    go false e (inl l) = rw (lt-leb a.at j l) refl
    go false e (inr l) = rw (le-leb a.at j l) (ap verdict_of (sym e))

either_at : (j : ℕ) (a b : SettledTruth) → either (verdict_at j a) (verdict_at j b) ≡ verdict_at j (either_settled a b)
either_at j a b = go a.truth refl (cases_lt j a.at)
  where
    go : (x : Bool) → a.truth ≡ x → (j < a.at) ⊎ (a.at ≤ j) → either (verdict_if (leb a.at j) x) (verdict_at j b) ≡ verdict_at j (cond x a (record { at = max a.at b.at; truth = b.truth }))
    go false e (inl l) = rw (lt-leb a.at j l, lt-leb (max a.at b.at) j (omega arith)) refl
    go false e (inr l) = rw (le-leb a.at j l) (ap (λ z. verdict_if z b.truth) (sym (ap (λ z. z && leb b.at j) (le-leb a.at j l)) ∙ leb_max a.at b.at j))
    go true e (inl l) = rw (lt-leb a.at j l) refl
    go true e (inr l) = rw (le-leb a.at j l) (ap verdict_of (sym e))

settle_at : (j t : ℕ) → settle false (leb t j) ≡ verdict_if (leb t j) false
settle_at j t = go (leb t j)
  where
    go : (b : Bool) → settle false b ≡ verdict_if b false
    go true = refl
    go false = refl

-- ---- pairs of values

abbrev pub is_by : ℕ → Option ℕ → Bool
is_by j None = false
is_by j (Some t) = leb t j

abbrev pub counts : ℕ → TimedValue → Bool
counts j v = leb v.0 j

abbrev pub value_of : TimedValue → ComparedValue
value_of v = v.1

sooner_by : (j : ℕ) (a b : Option ℕ) → is_by j (sooner a b) ≡ (is_by j a || is_by j b)
sooner_by j None b = refl
sooner_by j (Some a) None = go (leb a j)
  where
    go : (b : Bool) → b ≡ (b || false)
    go true = refl
    go false = refl
sooner_by j (Some a) (Some b) = leb_min a b j

pair_late : (j t : ℕ) (b : Bool) → j < t → is_by j (pair_at b t) ≡ false
pair_late j t true l = lt-leb t j l
pair_late j t false l = refl

pair_by : (j t : ℕ) (b : Bool) → t ≤ j → is_by j (pair_at b t) ≡ b
pair_by j t true l = le-leb t j l
pair_by j t false l = refl

with_cut : (j : ℕ) (r : ComparedValue → ComparedValue → Bool) (v : TimedValue) (ws : List TimedValue) → v.0 ≤ j → any (r v.1) (map value_of (filter (counts j) ws)) ≡ is_by j (earliest_with r v ws)
with_cut j r v [] l = refl
with_cut j r v (w ∷ ws) l = go (leb w.0 j) refl (with_cut j r v ws l) ∙ sym (sooner_by j (pair_at (r v.1 w.1) (max v.0 w.0)) (earliest_with r v ws))
  where
    go : (b : Bool) → leb w.0 j ≡ b → any (r v.1) (map value_of (filter (counts j) ws)) ≡ is_by j (earliest_with r v ws)
        → any (r v.1) (map value_of (cond b (w ∷ filter (counts j) ws) (filter (counts j) ws))) ≡ (is_by j (pair_at (r v.1 w.1) (max v.0 w.0)) || is_by j (earliest_with r v ws))
    go true e ih = let k = leb-true w.0 j e in rw (pair_by j (max v.0 w.0) (r v.1 w.1) (omega arith), ih) refl
    go false e ih = let k = leb-false w.0 j e in rw (pair_late j (max v.0 w.0) (r v.1 w.1) (omega arith)) ih

with_late : (j : ℕ) (r : ComparedValue → ComparedValue → Bool) (v : TimedValue) (ws : List TimedValue) → j < v.0 → is_by j (earliest_with r v ws) ≡ false
with_late j r v [] l = refl
with_late j r v (w ∷ ws) l = sooner_by j (pair_at (r v.1 w.1) (max v.0 w.0)) (earliest_with r v ws) ∙ rw (pair_late j (max v.0 w.0) (r v.1 w.1) (omega arith)) (with_late j r v ws l)

pub pairs_cut : (j : ℕ) (r : ComparedValue → ComparedValue → Bool) (vs ws : List TimedValue) → some_pair r (map value_of (filter (counts j) vs)) (map value_of (filter (counts j) ws)) ≡ is_by j (earliest r vs ws)
pairs_cut j r [] ws = refl
pairs_cut j r (v ∷ vs) ws = go (leb v.0 j) refl (pairs_cut j r vs ws) ∙ sym (sooner_by j (earliest_with r v ws) (earliest r vs ws))
  where
    go : (b : Bool) → leb v.0 j ≡ b → some_pair r (map value_of (filter (counts j) vs)) (map value_of (filter (counts j) ws)) ≡ is_by j (earliest r vs ws)
        → some_pair r (map value_of (cond b (v ∷ filter (counts j) vs) (filter (counts j) vs))) (map value_of (filter (counts j) ws)) ≡ (is_by j (earliest_with r v ws) || is_by j (earliest r vs ws))
    go true e ih = rw (with_cut j r v ws (leb-true v.0 j e), ih) refl
    go false e ih = rw (with_late j r v ws (leb-false v.0 j e)) ih

-- a pair counts before both sides are over
abbrev IsWithin : ℕ → Option ℕ → Type 0
IsWithin o None = Unit {0}
IsWithin o (Some t) = t ≤ o

sooner_within : (o : ℕ) (a b : Option ℕ) → IsWithin o a → IsWithin o b → IsWithin o (sooner a b)
sooner_within o None b h k = k
sooner_within o (Some a) None h k = h
sooner_within o (Some a) (Some b) h k = omega (arith, h, k)

pair_within : (o t : ℕ) (b : Bool) → t ≤ o → IsWithin o (pair_at b t)
pair_within o t true l = l
pair_within o t false l = tt

with_within : (o p : ℕ) (r : ComparedValue → ComparedValue → Bool) (v : TimedValue) (ws : List TimedValue) → v.0 ≤ o → ((w : TimedValue) → In w ws → w.0 ≤ p) → IsWithin (max o p) (earliest_with r v ws)
with_within o p r v [] l h = tt
with_within o p r v (w ∷ ws) l h =
    let m = h w (inl refl) in
    sooner_within (max o p) (pair_at (r v.1 w.1) (max v.0 w.0)) (earliest_with r v ws) (pair_within (max o p) (max v.0 w.0) (r v.1 w.1) (omega arith)) (with_within o p r v ws l (λ x i. h x (inr i)))

pairs_within : (o p : ℕ) (r : ComparedValue → ComparedValue → Bool) (vs ws : List TimedValue) → ((v : TimedValue) → In v vs → v.0 ≤ o) → ((w : TimedValue) → In w ws → w.0 ≤ p) → IsWithin (max o p) (earliest r vs ws)
pairs_within o p r [] ws h k = tt
pairs_within o p r (v ∷ vs) ws h k = sooner_within (max o p) (earliest_with r v ws) (earliest r vs ws) (with_within o p r v ws (h v (inl refl)) k) (pairs_within o p r vs ws (λ x i. h x (inr i)) k)

compare_at : (j o : ℕ) (e : Option ℕ) → IsWithin o e → settle (is_by j e) (leb o j) ≡ verdict_at j (compare_settled e o)
compare_at j o None h = settle_at j o
compare_at j o (Some t) h = elim (cases_lt j t) [
  | inl l ↦ rw (lt-leb t j l, lt-leb o j (omega (arith, h))) refl
  | inr l ↦ rw (le-leb t j l) refl
]

-- ---- conditions

module _ (c : Clock) (ts : List TreeToken) (C : Tree) (most : ℕ) (k : IsClock c ts C most) (j : ℕ) (l : j ≤ most) where
  -- bound to nodes that are there
  abbrev pub AreThere : ℕ → Env → Type 0
  AreThere t env = (x : ℕ) → In (env x) C.nodes × (c.opened (serial_of (env x)) ≤ t)

  pub matches_cut : (n : ℕ) (path : List Step) → matches (tree_at ts j) n path ≡ filter (is_there c j) (matches C n path)
  matches_cut n path = ap (filter (hits n path)) (k.nodes j l) ∙ filter_comm (hits n path) (is_there c j) C.nodes

  -- a match is opened and closed before the node is over from which the path leads
  pub match_inside : (n : Node) (path : List Step) (m : Node) → In n C.nodes → In m (matches C (serial_of n) path)
      → In m C.nodes × (c.opened (serial_of m) ≤ c.closed (serial_of m)) × (c.closed (serial_of m) ≤ c.closed (serial_of n))
  match_inside n path m i q =
      let a = Matches-in C (serial_of n) path m q in
      let b = k.inside n m i a.0 (hits_within (serial_of n) path m a.1) in
      (a.0, b.0, b.1)

  rises_from : (over : ℕ) (ms : List Node) → Rising ms → ((m : Node) → In m ms → In m C.nodes × (c.opened (serial_of m) ≤ over)) → Rises c ms over
  rises_from over [] r h = tt
  rises_from over (m ∷ ms) r h = (
    (h m (inl refl)).1,
    (λ n i. k.rises m n (h m (inl refl)).0 (h n (inr i)).0 (let q = r.0 n i in omega arith)),
    rises_from over ms r.1 (λ n i. h n (inr i)),
  )

  pub matches_rise : (n : Node) (path : List Step) → In n C.nodes → Rises c (matches C (serial_of n) path) (c.closed (serial_of n))
  matches_rise n path i = rises_from (c.closed (serial_of n)) (matches C (serial_of n) path) (Matches-rising C k.grown (serial_of n) path)
      (λ m q. let a = match_inside n path m i q in (a.0, let x = a.1 in let y = a.2 in omega arith))

  exists_cut : (n : Node) (path : List Step) → In n C.nodes → c.opened (serial_of n) ≤ j
      → settle (is_any (matches (tree_at ts j) (serial_of n) path)) (is_closed (tree_at ts j) n) ≡ verdict_at j (exists_settled c (matches C (serial_of n) path) (c.closed (serial_of n)))
  exists_cut n path i o =
      ap (λ z. settle (is_any z) (is_closed (tree_at ts j) n)) (matches_cut (serial_of n) path)
      ∙ (ap (λ z. settle (is_any (filter (is_there c j) (matches C (serial_of n) path))) z) (k.closed j l n i o)
      ∙ go (matches C (serial_of n) path) (matches_rise n path i))
    where
      over : ℕ
      over = c.closed (serial_of n)

      go : (ms : List Node) → Rises c ms over → settle (is_any (filter (is_there c j) ms)) (leb over j) ≡ verdict_at j (exists_settled c ms over)
      go [] r = settle_at j over
      go (m ∷ ms) r = elim (cases_lt j (c.opened (serial_of m))) [
        | inl q ↦ (
            let none : filter (is_there c j) ms ≡ [] = filter_none (is_there c j) ms (λ x y. lt-leb (c.opened (serial_of x)) j (let z = r.1 x y in omega arith)) in
            rw (lt-leb (c.opened (serial_of m)) j q, none, lt-leb over j (let z = r.0 in omega arith)) refl)
        | inr q ↦ rw (le-leb (c.opened (serial_of m)) j q) refl
      ]

  values_of : (ms : List Node) → ((m : Node) → In m ms → In m C.nodes × (c.opened (serial_of m) ≤ c.closed (serial_of m)))
      → map (node_value (tree_at ts j)) (filter (is_closed (tree_at ts j)) (filter (is_there c j) ms)) ≡ map value_of (filter (counts j) (map (λ m. (c.closed (serial_of m), node_value C m)) ms))
  values_of [] h = refl
  values_of (m ∷ ms) h = go (values_of ms (λ x i. h x (inr i))) (cases_lt j (c.opened (serial_of m))) (cases_lt j (c.closed (serial_of m)))
    where
      o : ℕ
      o = c.opened (serial_of m)

      d : ℕ
      d = c.closed (serial_of m)

      there : In m C.nodes
      there = (h m (inl refl)).0

      go : map (node_value (tree_at ts j)) (filter (is_closed (tree_at ts j)) (filter (is_there c j) ms)) ≡ map value_of (filter (counts j) (map (λ m. (c.closed (serial_of m), node_value C m)) ms))
          → (j < o) ⊎ (o ≤ j) → (j < d) ⊎ (d ≤ j)
          → map (node_value (tree_at ts j)) (filter (is_closed (tree_at ts j)) (filter (is_there c j) (m ∷ ms))) ≡ map value_of (filter (counts j) (map (λ m. (c.closed (serial_of m), node_value C m)) (m ∷ ms)))
      go ih (inl p) (inl q) = rw (lt-leb o j p, lt-leb d j q) ih
      go ih (inl p) (inr q) = let r = (h m (inl refl)).1 in absurd (omega arith)
      go ih (inr p) (inl q) = rw (le-leb o j p, k.closed j l m there p, lt-leb d j q) ih
      go ih (inr p) (inr q) = rw (le-leb o j p, k.closed j l m there p, le-leb d j q, k.value j l m there q, ih) refl

  values_cut : (env : Env) → AreThere j env → (o : OperandTree) → settled_values (tree_at ts j) env o ≡ map value_of (filter (counts j) (timed_values c C env o))
  values_cut env b (Path x steps) =
      ap (λ z. map (node_value (tree_at ts j)) (filter (is_closed (tree_at ts j)) z)) (matches_cut (serial_of (env x)) steps)
      ∙ values_of (matches C (serial_of (env x)) steps) (λ m q. let a = match_inside (env x) steps m (b x).0 q in (a.0, a.1))
  values_cut env b (Str s) = rw (le-leb 0 j (omega arith)) refl
  values_cut env b (Num u) = rw (le-leb 0 j (omega arith)) refl

  over_cut : (env : Env) → AreThere j env → (o : OperandTree) → is_over (tree_at ts j) env o ≡ leb (over_at c env o) j
  over_cut env b (Path x steps) = k.closed j l (env x) (b x).0 (b x).1
  over_cut env b (Str s) = sym (le-leb 0 j (omega arith))
  over_cut env b (Num u) = sym (le-leb 0 j (omega arith))

  pairs_in : (ms : List Node) (o : ℕ) → ((m : Node) → In m ms → c.closed (serial_of m) ≤ o) → (v : TimedValue) → In v (map (λ m. (c.closed (serial_of m), node_value C m)) ms) → v.0 ≤ o
  pairs_in [] o h v i = absurd i
  pairs_in (m ∷ ms) o h v (inl e) = let a = h m (inl refl) in let f : c.closed (serial_of m) ≡ v.0 = ap (λ (z : TimedValue). z.0) e in omega arith
  pairs_in (m ∷ ms) o h v (inr i) = pairs_in ms o (λ x q. h x (inr q)) v i

  values_within : (env : Env) → AreThere j env → (o : OperandTree) (v : TimedValue) → In v (timed_values c C env o) → v.0 ≤ over_at c env o
  values_within env b (Path x steps) v i = pairs_in (matches C (serial_of (env x)) steps) (c.closed (serial_of (env x))) (λ m q. (match_inside (env x) steps m (b x).0 q).2) v i
  values_within env b (Str s) v (inl e) = let f : 0 ≡ v.0 = ap (λ (z : TimedValue). z.0) e in omega arith
  values_within env b (Str s) v (inr i) = absurd i
  values_within env b (Num u) v (inl e) = let f : 0 ≡ v.0 = ap (λ (z : TimedValue). z.0) e in omega arith
  values_within env b (Num u) v (inr i) = absurd i

  mutual
    pub truth_cut : (q : CondTree) (env : Env) → AreThere j env → truth q env (tree_at ts j) ≡ verdict_at j (settled c C q env)
    truth_cut Always env b = rw (le-leb 0 j (omega arith)) refl
    truth_cut (Exists x steps) env b = exists_cut (env x) steps (b x).0 (b x).1
    truth_cut (Compare f rel s) env b =
        let vs : List TimedValue = timed_values c C env f in
        let ws : List TimedValue = timed_values c C env s in
        let found : some_pair (compare rel) (settled_values (tree_at ts j) env f) (settled_values (tree_at ts j) env s) ≡ is_by j (earliest (compare rel) vs ws)
        = ap (λ z. some_pair (compare rel) z (settled_values (tree_at ts j) env s)) (values_cut env b f)
        ∙ (ap (λ z. some_pair (compare rel) (map value_of (filter (counts j) vs)) z) (values_cut env b s) ∙ pairs_cut j (compare rel) vs ws) in
        let done : (is_over (tree_at ts j) env f && is_over (tree_at ts j) env s) ≡ leb (max (over_at c env f) (over_at c env s)) j
        = ap (λ z. z && is_over (tree_at ts j) env s) (over_cut env b f) ∙ (ap (λ z. leb (over_at c env f) j && z) (over_cut env b s) ∙ leb_max (over_at c env f) (over_at c env s) j) in
        ap (λ z. settle z (is_over (tree_at ts j) env f && is_over (tree_at ts j) env s)) found
        ∙ (ap (λ z. settle (is_by j (earliest (compare rel) vs ws)) z) done
        ∙ compare_at j (max (over_at c env f) (over_at c env s)) (earliest (compare rel) vs ws) (pairs_within (over_at c env f) (over_at c env s) (compare rel) vs ws (values_within env b f) (values_within env b s)))
    truth_cut (Not q) env b = ap negate (truth_cut q env b) ∙ negate_at j (settled c C q env)
    truth_cut (AllOf qs) env b = all_cut qs env b
    truth_cut (AnyOf qs) env b = any_cut qs env b

    all_cut : (qs : CondTrees) (env : Env) → AreThere j env → truth_all qs env (tree_at ts j) ≡ verdict_at j (settled_all c C qs env)
    all_cut no_cond env b = rw (le-leb 0 j (omega arith)) refl
    all_cut (more_conds q qs) env b =
        ap (λ z. both z (truth_all qs env (tree_at ts j))) (truth_cut q env b)
        ∙ (ap (λ z. both (verdict_at j (settled c C q env)) z) (all_cut qs env b) ∙ both_at j (settled c C q env) (settled_all c C qs env))

    any_cut : (qs : CondTrees) (env : Env) → AreThere j env → truth_any qs env (tree_at ts j) ≡ verdict_at j (settled_any c C qs env)
    any_cut no_cond env b = rw (le-leb 0 j (omega arith)) refl
    any_cut (more_conds q qs) env b =
        ap (λ z. either z (truth_any qs env (tree_at ts j))) (truth_cut q env b)
        ∙ (ap (λ z. either (verdict_at j (settled c C q env)) z) (any_cut qs env b) ∙ either_at j (settled c C q env) (settled_any c C qs env))
