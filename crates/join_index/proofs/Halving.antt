-- A search that halves a list that rises: what is left of it, and how many steps it took.
use Rattle.std.proofs.Common.{◌≡◌, ◌<◌, ◌≤◌, ◌+◌, ◌-◌, ◌*◌, ◌^◌, ◌/◌, ℕ, zero, suc, List, [], ◌∷◌, length, refl, sym, ◌∙◌, ap, subst, inl, inr, ◌⊎◌, arith}
use Rattle.std.specs.Prelude.{slice_index_or}
use Rattle.std.specs.Ordering.{nat_cmp, ordering_reverse}
use Rattle.std.specs.Cmp.Lexicographic.{slice_cmp}
use Rattle.std.specs.declared.cmp.Ordering.{Ordering}
use Rattle.std.specs.declared.cmp.Ordering.TheVariants.{Less, Equal, Greater}
use Rattle.std.proofs.lemmas.Cmp.{nat_list_cmp_total, tied_itself}
use Rattle.std.proofs.lemmas.Bool.{cases_lt}
use Rattle.std.proofs.lemmas.Nat.{pow_below}
use Rattle.std.proofs.Math.Nat.{mul_assoc, mul-le-mul_left, le-mul_of_pos_right, mul-div-le}
use Rattle.std.proofs.lemmas.List.{get_or_default}
use Rattle.std.proofs.lemmas.Grind.{pow_more}
use Rattle.std.proofs.lemmas.Map.Lookups.{exact_bytes}
use Rattle.gcx_model.specs.Members.{In}
use Rattle.join_index.specs.Rising.{IsBelowByBytes, RisesByBytes, IsEnough}

-- the value of this number, or else none
abbrev pub at : List (List ℕ) → ℕ → List ℕ
at vs i = slice_index_or vs i []

pub at_in : (vs : List (List ℕ)) (i : ℕ) → i < length vs → In (at vs i) vs
at_in [] i l = absurd (omega arith)
at_in (v ∷ vs) zero l = inl refl
at_in (v ∷ vs) (suc i) l = inr (at_in vs i (omega arith))

pub in_at : (vs : List (List ℕ)) (v : List ℕ) → In v vs → (i : ℕ) × (i < length vs) × (at vs i ≡ v)
in_at [] v i = absurd i
in_at (w ∷ vs) v (inl e) = (0, omega arith, e)
in_at (w ∷ vs) v (inr i) = let r = in_at vs v i in let l = r.1 in (suc r.0, omega arith, r.2)

pub rises_at : (vs : List (List ℕ)) → RisesByBytes vs → (i j : ℕ) → i < j → j < length vs → IsBelowByBytes (at vs i) (at vs j)
rises_at [] r i j l m = absurd (omega arith)
rises_at (v ∷ vs) r i zero l m = absurd (omega arith)
rises_at (v ∷ vs) r zero (suc j) l m = r.0 (at vs j) (at_in vs j (omega arith))
rises_at (v ∷ vs) r (suc i) (suc j) l m = rises_at vs r.1 i j (omega arith) (omega arith)

before_trans : (u v w : List ℕ) → IsBelowByBytes u v → IsBelowByBytes v w → IsBelowByBytes u w
before_trans u v w a b = nat_list_cmp_total.trans u v w a b

-- greater is before, the other way round
behind : (u v : List ℕ) → slice_cmp nat_cmp u v ≡ Greater → IsBelowByBytes v u
behind u v e = nat_list_cmp_total.antisymm v u ∙ ap ordering_reverse e

not_before_itself : (v : List ℕ) → IsBelowByBytes v v → ⊥
not_before_itself v h = let e : ◌≡◌ {A = Ordering} Less Equal = sym h ∙ tied_itself nat_list_cmp_total v in absurd (cc)

-- what is left lies between; the steps so far
pub record Halves (vs : List (List ℕ)) (v : List ℕ) (from to before now : ℕ) : Type 0 where
  pub least : from ≤ to
  pub most : to ≤ length vs
  pub lows : (i : ℕ) → i < from → IsBelowByBytes (at vs i) v
  pub highs : (i : ℕ) → to ≤ i → i < length vs → IsBelowByBytes v (at vs i)
  pub steps : ℕ
  pub taken : now ≡ before + steps
  pub few : (2 ^ steps) * (to - from) ≤ length vs
  pub enough : IsEnough (length vs) steps

module _ (vs : List (List ℕ)) (rises : RisesByBytes vs) (v : List ℕ) (from to before now : ℕ) (h : Halves vs v from to before now) (some : from < to) where
  abbrev q : ℕ
  q = 2 ^ h.steps

  -- one step more is enough too
  q_small : q ≤ length vs
  q_small = let f = h.few in let l : q ≤ q * (to - from) = le-mul_of_pos_right q (omega arith) in omega arith

  next : (n : ℕ) → n + 1 ≡ suc n
  next n = omega arith

  pub one_more : IsEnough (length vs) (suc h.steps)
  one_more = let l = q_small in let e : 2 ^ suc h.steps ≡ q * 2 = subst (λ (n : ℕ). 2 ^ n ≡ q * 2) (next h.steps) (pow_more 2 h.steps) in omega arith

  module _ (middle : ℕ) (low : from ≤ middle) (high : middle < to) where
    fewer : (size : ℕ) → 2 * size ≤ to - from → (2 ^ suc h.steps) * size ≤ length vs
    fewer size l =
        let e : 2 ^ suc h.steps ≡ q * 2 = subst (λ (n : ℕ). 2 ^ n ≡ q * 2) (next h.steps) (pow_more 2 h.steps) in
        let a : (2 ^ suc h.steps) * size ≡ q * (2 * size) = ap (λ (n : ℕ). n * size) e ∙ mul_assoc q 2 size in
        let b : q * (2 * size) ≤ q * (to - from) = mul-le-mul_left q l in
        let f = h.few in
        omega arith

    pub halves_above : slice_cmp nat_cmp (at vs middle) v ≡ Less → 2 * (to - (middle + 1)) ≤ to - from → Halves vs v (middle + 1) to before (suc now)
    halves_above e l = record {
      least = omega arith;
      most = h.most;
      lows = λ i m. below i m (cases_lt i middle);
      highs = h.highs;
      steps = suc h.steps;
      taken = let t = h.taken in omega arith;
      few = fewer (to - (middle + 1)) l;
      enough = one_more;
    }
      where
        below : (i : ℕ) → i < middle + 1 → (i < middle) ⊎ (middle ≤ i) → IsBelowByBytes (at vs i) v
        below i m (inl k) = before_trans (at vs i) (at vs middle) v (rises_at vs rises i middle k (let f = h.most in omega arith)) e
        below i m (inr k) = let is : middle ≡ i = omega arith in subst (λ (j : ℕ). IsBelowByBytes (at vs j) v) is e

    pub halves_below : slice_cmp nat_cmp (at vs middle) v ≡ Greater → 2 * (middle - from) ≤ to - from → Halves vs v from middle before (suc now)
    halves_below e l = record {
      least = low;
      most = let f = h.most in omega arith;
      lows = h.lows;
      highs = λ i m k. above i m k (cases_lt middle i);
      steps = suc h.steps;
      taken = let t = h.taken in omega arith;
      few = fewer (middle - from) l;
      enough = one_more;
    }
      where
        above : (i : ℕ) → middle ≤ i → i < length vs → (middle < i) ⊎ (i ≤ middle) → IsBelowByBytes v (at vs i)
        above i m k (inl g) = before_trans v (at vs middle) (at vs i) (behind (at vs middle) v e) (rises_at vs rises middle i g k)
        above i m k (inr g) = let is : middle ≡ i = omega arith in subst (λ (j : ℕ). IsBelowByBytes v (at vs j)) is (behind (at vs middle) v e)

    pub halves_found : slice_cmp nat_cmp (at vs middle) v ≡ Equal → In v vs
    halves_found e = subst (λ (w : List ℕ). In w vs) (exact_bytes (at vs middle) v e) (at_in vs middle (let f = h.most in omega arith))

-- where nothing is left it isn't there
pub halves_none : (vs : List (List ℕ)) (v : List ℕ) (from to before now : ℕ) → Halves vs v from to before now → to ≤ from → In v vs → ⊥
halves_none vs v from to before now h l i = go (in_at vs v i)
  where
    go : (k : ℕ) × (k < length vs) × (at vs k ≡ v) → ⊥
    go (k, m, e) = elim (cases_lt k from) [
      | inl a ↦ not_before_itself v (subst (λ (w : List ℕ). IsBelowByBytes w v) e (h.lows k a))
      | inr a ↦ not_before_itself v (subst (λ (w : List ℕ). IsBelowByBytes v w) e (h.highs k (omega arith) m))
    ]

-- so few steps stay below the end
pub steps_low : (n p : ℕ) → n < 2 ^ 64 → IsEnough n p → p < 66
steps_low n p l e = elim (cases_lt p 66) [
  | inl a ↦ a
  | inr a ↦ absurd (go (cases_lt 65 p) a)
]
  where
    go : (65 < p) ⊎ (p ≤ 65) → 66 ≤ p → ⊥
    go (inl a) b = let c : 2 ^ 65 < 2 ^ p = pow_below 65 p a in let d : 2 ^ 65 ≡ 36893488147419103232 = refl in let f : 2 ^ 64 ≡ 18446744073709551616 = refl in omega arith
    go (inr a) b = omega arith

-- ---- the middle

pub half_low : (from to : ℕ) → from ≤ from + (to - from) / 2
half_low from to = omega arith

pub half_high : (from to : ℕ) → from < to → from + (to - from) / 2 < to
half_high from to l = let h = mul-div-le (to - from) 2 in omega arith

pub half_left : (from to : ℕ) → 2 * (to - (from + (to - from) / 2 + 1)) ≤ to - from
half_left from to = omega arith

pub half_right : (from to : ℕ) → 2 * (from + (to - from) / 2 - from) ≤ to - from
half_right from to = let h = mul-div-le (to - from) 2 in omega arith

-- the text at the middle is the value there
pub kept_at : (items vs : List (List ℕ)) → items ≡ vs → (i : ℕ) (x : List ℕ) → x ≡ slice_index_or items i x → {to : ℕ} → i < to → to ≤ length vs → x ≡ at vs i
kept_at items vs e i x h l m =
    h ∙ (ap (λ (z : List (List ℕ)). slice_index_or z i x) e ∙ get_or_default vs i x [] (omega arith))
