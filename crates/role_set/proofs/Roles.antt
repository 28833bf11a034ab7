-- Which numbers a word of bits and a list make together.
use Rattle.std.proofs.Common.{◌≡◌, ◌<◌, ◌≤◌, ◌^◌, ◌++◌, append_assoc, ℕ, zero, suc, Bool, true, false, not, ◌&&◌, ◌||◌, List, [], ◌∷◌, ◌==◌, nat_lt, sym, ap, refl, ◌∙◌, rules, cond, arith}
use Rattle.std.specs.Prelude.{filter}
use Rattle.std.specs.List.{list_any}
use Rattle.std.specs.Int.{bit_at}
use Rattle.std.specs.Ordering.{nat_cmp}
use Rattle.std.specs.Cmp.{nat_cmp_total, unsigned_tied}
use Rattle.std.specs.FinSet.{FinSet, from_list_push, contains, insert, remove, empty, from_list, contains-insert, contains-remove, contains-from_list_nat, contains-empty, same_set, nat_cmp-IsAntisymmetric}
use Rattle.std.proofs.lemmas.Map.Views.{any-filter_same}
use Rattle.std.proofs.lemmas.Bool.{or_parts, or_from}
use Rattle.std.proofs.lemmas.Bool.Decides.{nat_tests}
use Rattle.std.proofs.lemmas.Nat.Bits.{bit_at-lt, bit_at-zero, same_from_bits_below}
use Rattle.role_set.specs.Words.{has_bit, AddsBit, DropsBit, bits_below, roles_of, HighOnce}

abbrev pub is_in : ℕ → List ℕ → Bool
is_in q xs = list_any (λ k. k == q) xs

-- ---- what a word has

above_step : (q k : ℕ) (rest : List ℕ) (b : Bool) → k < q → is_in q rest ≡ false → is_in q (cond b (k ∷ rest) rest) ≡ false
above_step q k rest true h none = let other : (k == q) ≡ false = grind (arith, nat_tests) in ap (λ e. e || is_in q rest) other ∙ none
above_step q k rest false h none = none

pub bits_above : (word w q : ℕ) → w ≤ q → is_in q (bits_below word w) ≡ false
unfolding bits_below
bits_above word zero q h = refl
bits_above word (suc k) q h = above_step q k (bits_below word k) (has_bit word k) (omega arith) (bits_above word k q (omega arith))

-- the step at the number itself, and at one below
own_step : (word q k : ℕ) (rest : List ℕ) (b : Bool) → has_bit word k ≡ b → k ≡ q → is_in q rest ≡ false → is_in q (cond b (k ∷ rest) rest) ≡ has_bit word q
own_step word q k rest true is same none = let own : (k == q) ≡ true = grind (arith, nat_tests) in ap (λ e. e || is_in q rest) own ∙ sym is ∙ ap (has_bit word) same
own_step word q k rest false is same none = none ∙ sym is ∙ ap (has_bit word) same

below_step : (q k : ℕ) (rest : List ℕ) (b has : Bool) → q < k → is_in q rest ≡ has → is_in q (cond b (k ∷ rest) rest) ≡ has
below_step q k rest true has h found = let other : (k == q) ≡ false = grind (arith, nat_tests) in ap (λ e. e || is_in q rest) other ∙ found
below_step q k rest false has h found = found

bits_in : (word w q : ℕ) → q < w → is_in q (bits_below word w) ≡ has_bit word q
unfolding bits_below
bits_in word zero q h = absurd (omega arith)
bits_in word (suc k) q h = by (k == q) refl (λ below. bits_in word k q below)
  where
    by : (e : Bool) → (k == q) ≡ e → (q < k → is_in q (bits_below word k) ≡ has_bit word q) → is_in q (cond (has_bit word k) (k ∷ bits_below word k) (bits_below word k)) ≡ has_bit word q
    by true same earlier = own_step word q k (bits_below word k) (has_bit word k) refl (grind (arith, nat_tests)) (bits_above word k q (grind (arith, nat_tests)))
    by false other earlier =
        let below : q < k = grind (arith, nat_tests) in
        below_step q k (bits_below word k) (has_bit word k) (has_bit word q) below (earlier below)

pub in_both : (q : ℕ) (xs ys : List ℕ) → is_in q (xs ++ ys) ≡ (is_in q xs || is_in q ys)
in_both q [] ys = refl
in_both q (x ∷ xs) ys = by (x == q) (in_both q xs ys)
  where
    by : (b : Bool) → is_in q (xs ++ ys) ≡ (is_in q xs || is_in q ys) → (b || is_in q (xs ++ ys)) ≡ ((b || is_in q xs) || is_in q ys)
    by true e = refl
    by false e = e

members : (low : ℕ) (high : List ℕ) (q : ℕ) → contains (roles_of low high) q ≡ (is_in q (bits_below low 64) || is_in q high)
unfolding roles_of
members low high q = contains-from_list_nat (bits_below low 64 ++ high) q ∙ in_both q (bits_below low 64) high

-- ---- a number below 64, and one from there on

pub low_member : (low : ℕ) (high : List ℕ) (q : ℕ) → q < 64 → contains (roles_of low high) q ≡ (has_bit low q || is_in q high)
low_member low high q h = members low high q ∙ ap (λ b. b || is_in q high) (bits_in low 64 q h)

pub high_member : (low : ℕ) (high : List ℕ) (q : ℕ) → 64 ≤ q → contains (roles_of low high) q ≡ is_in q high
high_member low high q h = members low high q ∙ ap (λ b. b || is_in q high) (bits_above low 64 q h)

pub none_low : (high : List ℕ) (q : ℕ) → HighOnce high → q < 64 → is_in q high ≡ false
none_low [] q all h = refl
none_low (n ∷ ns) q all h =
    let other : (n == q) ≡ false = grind (arith, nat_tests, all.0) in
    ap (λ b. b || is_in q ns) other ∙ none_low ns q all.2 h

or-false : (a : Bool) → (a || false) ≡ a
or-false true = refl
or-false false = refl

or-assoc : (a b c : Bool) → ((a || b) || c) ≡ (a || (b || c))
or-assoc true b c = refl
or-assoc false b c = refl

pub low_bit : (low : ℕ) (high : List ℕ) (q : ℕ) → HighOnce high → q < 64 → contains (roles_of low high) q ≡ has_bit low q
low_bit low high q all h = low_member low high q h ∙ ap (λ b. has_bit low q || b) (none_low high q all h) ∙ or-false (has_bit low q)

-- two sets with the same numbers below 64 and the same from there on
same_roles : (s t : FinSet nat_cmp) → ((q : ℕ) → q < 64 → contains s q ≡ contains t q) → ((q : ℕ) → 64 ≤ q → contains s q ≡ contains t q) → s ≡ t
same_roles s t low high = same_set nat_cmp_total nat_cmp-IsAntisymmetric s t (λ q. by q (nat_lt q 64) refl)
  where
    by : (q : ℕ) (b : Bool) → nat_lt q 64 ≡ b → contains s q ≡ contains t q
    by q true is = low q (grind (arith, nat_tests))
    by q false is = high q (grind (arith, nat_tests))

inserted : (s : FinSet nat_cmp) (r q : ℕ) → contains (insert s r) q ≡ ((q == r) || contains s q)
inserted s r q = contains-insert nat_cmp_total s r q ∙ ap (λ b. b || contains s q) (unsigned_tied q r)

removed : (s : FinSet nat_cmp) (r q : ℕ) → contains (remove s r) q ≡ (not (q == r) && contains s q)
removed s r q = contains-remove nat_cmp_total s r q ∙ ap (λ b. not b && contains s q) (unsigned_tied q r)

pub insert_low : (low more r : ℕ) (high : List ℕ) → r < 64 → AddsBit low r more → roles_of more high ≡ insert (roles_of low high) r
insert_low low more r high within adds = same_roles _ _
    (λ q h. low_member more high q h ∙ ap (λ b. b || is_in q high) (adds.bits q h) ∙ or-assoc (q == r) (has_bit low q) (is_in q high)
    ∙ ap (λ b. (q == r) || b) (sym (low_member low high q h)) ∙ sym (inserted (roles_of low high) r q))
    (λ q h. let other : (q == r) ≡ false = grind (arith, nat_tests) in
    high_member more high q h ∙ sym (high_member low high q h) ∙ ap (λ b. b || contains (roles_of low high) q) (sym other) ∙ sym (inserted (roles_of low high) r q))

pub remove_low : (low less r : ℕ) (high : List ℕ) → HighOnce high → r < 64 → DropsBit low r less → roles_of less high ≡ remove (roles_of low high) r
remove_low low less r high all within drops = same_roles _ _
    (λ q h. low_bit less high q all h ∙ drops.bits q h ∙ ap (λ b. not (q == r) && b) (sym (low_bit low high q all h)) ∙ sym (removed (roles_of low high) r q))
    (λ q h. let other : (q == r) ≡ false = grind (arith, nat_tests) in
    high_member less high q h ∙ sym (high_member low high q h) ∙ ap (λ b. not b && contains (roles_of low high) q) (sym other) ∙ sym (removed (roles_of low high) r q))

pub insert_high : (low r : ℕ) (high : List ℕ) → roles_of low (high ++ r ∷ []) ≡ insert (roles_of low high) r
unfolding roles_of
insert_high low r high = ap (λ xs. from_list {R = nat_cmp} xs) (sym (append_assoc (bits_below low 64) high (r ∷ []))) ∙ from_list_push nat_cmp_total nat_cmp-IsAntisymmetric _ r

in_filtered : (q r : ℕ) (high : List ℕ) → is_in q (filter (λ k. not (k == r)) high) ≡ (not (q == r) && is_in q high)
in_filtered q r high = any-filter_same (λ k. k == q) (λ k. not (k == r)) (not (q == r)) (λ k e. let same : k ≡ q = grind (arith, nat_tests) in ap (λ k. not (k == r)) same) high

pub remove_high : (low r : ℕ) (high : List ℕ) → 64 ≤ r → roles_of low (filter (λ k. not (k == r)) high) ≡ remove (roles_of low high) r
remove_high low r high above = same_roles _ _
    (λ q h. let other : (q == r) ≡ false = grind (arith, nat_tests) in
    low_member low (filter (λ k. not (k == r)) high) q h
    ∙ ap (λ b. has_bit low q || b) (in_filtered q r high ∙ ap (λ b. not b && is_in q high) other)
    ∙ sym (low_member low high q h)
    ∙ ap (λ b. not b && contains (roles_of low high) q) (sym other) ∙ sym (removed (roles_of low high) r q))
    (λ q h. high_member low (filter (λ k. not (k == r)) high) q h ∙ in_filtered q r high
    ∙ ap (λ b. not (q == r) && b) (sym (high_member low high q h)) ∙ sym (removed (roles_of low high) r q))

-- ---- the list

pub high_once-push : (high : List ℕ) (r : ℕ) → HighOnce high → 64 ≤ r → is_in r high ≡ false → HighOnce (high ++ r ∷ [])
high_once-push [] r all h new = (h, refl, tt)
high_once-push (n ∷ ns) r all h new =
    let parts = or_parts (n == r) (is_in r ns) new in
    let e : (n == r) ≡ false = parts.0 in
    let other : (r == n) ≡ false = grind (arith, nat_tests) in
    (all.0, in_both n ns (r ∷ []) ∙ or_from _ _ all.1 (or_from _ _ other refl), high_once-push ns r all.2 h parts.1)

not_kept : (p : ℕ → Bool) (n : ℕ) (ns : List ℕ) → is_in n ns ≡ false → is_in n (filter p ns) ≡ false
not_kept p n [] e = refl
not_kept p n (k ∷ ks) e = let parts = or_parts (k == n) (is_in n ks) e in by (p k) parts.0 (not_kept p n ks parts.1)
  where
    by : (b : Bool) → (k == n) ≡ false → is_in n (filter p ks) ≡ false → is_in n (cond b (k ∷ filter p ks) (filter p ks)) ≡ false
    by true other rest = or_from _ _ other rest
    by false other rest = rest

pub high_once-filter : (p : ℕ → Bool) (high : List ℕ) → HighOnce high → HighOnce (filter p high)
high_once-filter p [] all = tt
high_once-filter p (n ∷ ns) all = by (p n) (high_once-filter p ns all.2)
  where
    by : (b : Bool) → HighOnce (filter p ns) → HighOnce (cond b (n ∷ filter p ns) (filter p ns))
    by true rest = (all.0, not_kept p n ns all.1, rest)
    by false rest = rest

-- where no number is 64 or more the list is empty
pub no_high : (low : ℕ) (high : List ℕ) → HighOnce high → ((k : ℕ) → contains (roles_of low high) k ≡ true → k < 64) → high ≡ []
no_high low [] all none = refl
no_high low (n ∷ ns) all none =
    let own : (n == n) ≡ true = search rules in
    let has : contains (roles_of low (n ∷ ns)) n ≡ true = high_member low (n ∷ ns) n all.0 ∙ ap (λ b. b || is_in n ns) own in
    let below : n < 64 = none n has in
    absurd (omega (arith, all.0, below))

-- ---- the empty set

pub empty_roles : roles_of 0 [] ≡ empty
empty_roles = same_roles _ _
    (λ q h. low_member 0 [] q h ∙ ap (λ n. (n == 1) || false) (bit_at-zero q) ∙ sym (contains-empty nat_cmp q))
    (λ q h. high_member 0 [] q h ∙ sym (contains-empty nat_cmp q))

pub parts_of_empty : (low : ℕ) (high : List ℕ) → low < 2 ^ 64 → HighOnce high → roles_of low high ≡ empty → (low ≡ 0) × (high ≡ [])
parts_of_empty low high fits all is = (
  same_from_bits_below 64 low 0 fits (omega arith) (λ q h. zero_bit q h ∙ sym (bit_at-zero q)),
  no_high low high all (λ k has. absurd (let no : true ≡ false = sym has ∙ ap (λ s. contains s k) is ∙ contains-empty nat_cmp k in cc)),
)
  where
    zero_bit : (q : ℕ) → q < 64 → bit_at low q ≡ 0
    zero_bit q h =
        let no : (bit_at low q == 1) ≡ false = sym (low_bit low high q all h) ∙ ap (λ s. contains s q) is ∙ contains-empty nat_cmp q in
        grind (arith, nat_tests, bit_at-lt low q)
