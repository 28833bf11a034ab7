-- Whether two words, or two lists, have a number in common.
use Rattle.std.proofs.Common.{◌≡◌, ◌<◌, ◌≤◌, ◌+◌, ◌⊎◌, ◌^◌, ◌==◌, ◌&&◌, ℕ, zero, suc, Bool, true, false, not, min, take, List, [], ◌∷◌, length, get_or, sym, ap, refl, ◌∙◌, inl, inr, arith, bit_and, nat_lt, eqb, add-one}
use Rattle.std.specs.Prelude.{◌↔◌}
use Rattle.std.specs.List.{list_any}
use Rattle.std.specs.Int.{bit_at}
use Rattle.std.specs.FinSet.{contains}
use Rattle.std.proofs.lemmas.Bool.{and_parts, or_cases, or_left, or_right, false≢true, eqb-true, eq-eqb, cases_eq, false_from_ne_true}
use Rattle.std.proofs.lemmas.Bool.Decides.{nat_tests}
use Rattle.std.proofs.lemmas.Nat.{and_le_l}
use Rattle.std.proofs.lemmas.Nat.Bits.{bit_at_and, bit_at-lt, bit_at-zero, same_from_bits_below}
use Rattle.role_set.specs.Words.{has_bit, roles_of, HighOnce, WordsMeet, NumbersMeet}
use Rattle.role_set.proofs.Roles.{low_bit, low_member, high_member}

-- ---- words

both_bits : (a b k : ℕ) → has_bit (bit_and a b) k ≡ (has_bit a k && has_bit b k)
both_bits a b k = ap (λ n. n == 1) (bit_at_and a b k) ∙ go (bit_at a k) (bit_at b k) (bit_at-lt a k) (bit_at-lt b k)
  where
    go : (x y : ℕ) → x < 2 → y < 2 → (min x y == 1) ≡ ((x == 1) && (y == 1))
    go zero zero l m = refl
    go zero (suc zero) l m = refl
    go zero (suc (suc y)) l m = absurd (omega arith)
    go (suc zero) zero l m = refl
    go (suc zero) (suc zero) l m = refl
    go (suc zero) (suc (suc y)) l m = absurd (omega arith)
    go (suc (suc x)) y l m = absurd (omega arith)

-- a bit that is set, or none is
find_bit : (word w : ℕ) → ((k : ℕ) × (k < w) × (has_bit word k ≡ true)) ⊎ ((k : ℕ) → k < w → has_bit word k ≡ false)
find_bit word zero = inr (λ k l. absurd (omega arith))
find_bit word (suc w) = go (has_bit word w) refl (find_bit word w)
  where
    go : (b : Bool) → has_bit word w ≡ b → ((k : ℕ) × (k < w) × (has_bit word k ≡ true)) ⊎ ((k : ℕ) → k < w → has_bit word k ≡ false)
        → ((k : ℕ) × (k < suc w) × (has_bit word k ≡ true)) ⊎ ((k : ℕ) → k < suc w → has_bit word k ≡ false)
    go true e ih = inl (w, omega arith, e)
    go false e (inl r) = inl (r.0, (let l = r.1 in omega arith), r.2)
    go false e (inr none) = inr (λ k l. elim (cases_eq k w) [ inl s ↦ ap (has_bit word) s ∙ e | inr d ↦ none k (omega arith) ])

zero_word : (word : ℕ) → word < 2 ^ 64 → ((k : ℕ) → k < 64 → has_bit word k ≡ false) → word ≡ 0
zero_word word fits none = same_from_bits_below 64 word 0 fits (omega arith) (λ q h. zero_bit q (none q h) ∙ sym (bit_at-zero q))
  where
    zero_bit : (q : ℕ) → (bit_at word q == 1) ≡ false → bit_at word q ≡ 0
    zero_bit q clear = grind (arith, nat_tests, bit_at-lt word q)

pub words_meet : (a b : ℕ) → a < 2 ^ 64 → (not (eqb (bit_and a b) 0) ≡ true) ↔ WordsMeet a b
words_meet a b fits = (to, from)
  where
    to : not (eqb (bit_and a b) 0) ≡ true → WordsMeet a b
    to some = elim (find_bit (bit_and a b) 64) [
      | inl r ↦ (let q = and_parts (has_bit a r.0) (has_bit b r.0) (sym (both_bits a b r.0) ∙ r.2) in (r.0, r.1, q.0, q.1))
      | inr none ↦
          let zeros : bit_and a b ≡ 0 = zero_word (bit_and a b) (let less = and_le_l a b in omega (arith, fits, less)) none in
          absurd (false≢true (sym (ap not (eq-eqb (bit_and a b) 0 zeros)) ∙ some))
    ]

    from : WordsMeet a b → not (eqb (bit_and a b) 0) ≡ true
    from m = ap not (false_from_ne_true (eqb (bit_and a b) 0) (λ h.
        let e : bit_and a b ≡ 0 = eqb-true (bit_and a b) 0 h in
        let set : has_bit (bit_and a b) m.0 ≡ true = both_bits a b m.0 ∙ (λ t. m.2 t && m.3 t) in
        let clear : has_bit (bit_and a b) m.0 ≡ false = ap (λ z. has_bit z m.0) e ∙ ap (λ n. n == 1) (bit_at-zero m.0) in
        false≢true (sym clear ∙ set)))

-- ---- lists

pub none_meets : (xs ys : List ℕ) → xs ≡ [] → NumbersMeet xs ys → ⊥
none_meets xs ys is m = false≢true (sym (ap (λ zs. list_any (λ j. j == m.0) zs) is) ∙ m.1)

-- the first i numbers aren't among the others
abbrev pub Apart : ℕ → List ℕ → List ℕ → Type 0
Apart i xs ys = (k : ℕ) → list_any (λ j. j == k) (take i xs) ≡ true → list_any (λ j. j == k) ys ≡ true → ⊥

pub meets_at : (xs ys : List ℕ) (i : ℕ) (d : ℕ) → i < length xs → list_any (λ j. j == get_or xs i d) ys ≡ true → NumbersMeet xs ys
meets_at [] ys i d l e = absurd (omega arith)
meets_at (x ∷ xs) ys zero d l e = (x, or_left _ _ (eq-eqb x x refl), e)
meets_at (x ∷ xs) ys (suc i) d l e = let m = meets_at xs ys i d (omega arith) e in (m.0, or_right _ _ m.1, m.2)

apart_suc : (xs ys : List ℕ) (i : ℕ) (d : ℕ) → i < length xs → Apart i xs ys → list_any (λ j. j == get_or xs i d) ys ≡ false → Apart (suc i) xs ys
apart_suc [] ys i d l h e k a b = absurd (omega arith)
apart_suc (x ∷ xs) ys zero d l h e k a b = elim (or_cases (x == k) false a) [
  | inl f ↦ false≢true (sym e ∙ ap (λ q. list_any (λ j. j == q) ys) (eqb-true x k f) ∙ b)
  | inr z ↦ false≢true z
]
apart_suc (x ∷ xs) ys (suc i) d l h e k a b = elim (or_cases (x == k) (list_any (λ j. j == k) (take (suc i) xs)) a) [
  | inl f ↦ h k (or_left _ _ f) b
  | inr r ↦ apart_suc xs ys i d (omega arith) (λ q c w. h q (or_right _ _ c) w) e k r b
]

pub apart_next : (xs ys : List ℕ) (i : ℕ) (d : ℕ) → i < length xs → Apart i xs ys → list_any (λ j. j == get_or xs i d) ys ≡ false → Apart (i + 1) xs ys
apart_next xs ys i d l h e k a b = apart_suc xs ys i d l h e k (ap (λ n. list_any (λ j. j == k) (take n xs)) (sym (add-one i)) ∙ a) b

take_all : (xs : List ℕ) (i : ℕ) → length xs ≤ i → take i xs ≡ xs
take_all [] zero l = refl
take_all [] (suc i) l = refl
take_all (x ∷ xs) zero l = absurd (omega arith)
take_all (x ∷ xs) (suc i) l = ap (λ z. x ∷ z) (take_all xs i (omega arith))

pub apart_all : (xs ys : List ℕ) (i : ℕ) → length xs ≤ i → Apart i xs ys → NumbersMeet xs ys → ⊥
apart_all xs ys i l h m = h m.0 (ap (λ zs. list_any (λ j. j == m.0) zs) (take_all xs i l) ∙ m.1) m.2

-- ---- sets

abbrev pub SetsMeet : (a b : ℕ) (xs ys : List ℕ) → Type 0
SetsMeet a b xs ys = (k : ℕ) × (contains (roles_of a xs) k ≡ true) × (contains (roles_of b ys) k ≡ true)

pub by_words : (a b : ℕ) (xs ys : List ℕ) → WordsMeet a b → SetsMeet a b xs ys
by_words a b xs ys m = (m.0, low_member a xs m.0 m.1 ∙ or_left _ _ m.2, low_member b ys m.0 m.1 ∙ or_left _ _ m.3)

far : (xs : List ℕ) (k : ℕ) → HighOnce xs → list_any (λ j. j == k) xs ≡ true → 64 ≤ k
far [] k all h = absurd (false≢true h)
far (x ∷ xs) k all h = elim (or_cases (x == k) (list_any (λ j. j == k) xs) h) [ inl e ↦ (let s = eqb-true x k e in omega (arith, all.0)) | inr i ↦ far xs k all.2 i ]

pub by_lists : (a b : ℕ) (xs ys : List ℕ) → HighOnce xs → HighOnce ys → (WordsMeet a b → ⊥) → (r : Bool) → (r ≡ true) ↔ NumbersMeet xs ys → (r ≡ true) ↔ SetsMeet a b xs ys
by_lists a b xs ys p q apart r h = (to, (λ m. from m (nat_lt m.0 64) refl))
  where
    to : r ≡ true → SetsMeet a b xs ys
    to e = let m = h.0 e in (m.0, high_member a xs m.0 (far xs m.0 p m.1) ∙ m.1, high_member b ys m.0 (far ys m.0 q m.2) ∙ m.2)

    from : (m : SetsMeet a b xs ys) (c : Bool) → nat_lt m.0 64 ≡ c → r ≡ true
    from m true e =
        let low : m.0 < 64 = (let k : ℕ = m.0 in grind (arith, nat_tests)) in
        absurd (apart (m.0, low, sym (low_bit a xs m.0 p low) ∙ m.1, sym (low_bit b ys m.0 q low) ∙ m.2))
    from m false e =
        let high : 64 ≤ m.0 = (let k : ℕ = m.0 in grind (arith, nat_tests)) in
        h.1 (m.0, sym (high_member a xs m.0 high) ∙ m.1, sym (high_member b ys m.0 high) ∙ m.2)
