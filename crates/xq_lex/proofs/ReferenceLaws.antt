-- A text begins with one reference at most.
use Rattle.std.proofs.Common.{ℕ, ◌≡◌, ◌==◌, Bool, true, false, not, cond, List, [], ◌∷◌, ◌++◌, refl, sym, ap, ◌∙◌, arith, append_assoc, eqb-true}
use Rattle.std.specs.List.{list_all}
use Rattle.std.specs.Char.{is_digit}
use Rattle.std.proofs.lemmas.Bool.{and_parts, and_from, cond-false, not-true, not_from_false, false≢true}
use Rattle.doc_chars.specs.Reference.{radix_value, all_digits, IsNumber, Refers, lt, gt, amp, apos, quot, by_decimal, by_hexadecimal}

-- before the first semicolon and behind it
before : List ℕ → List ℕ
before [] = []
before (c ∷ cs) = cond (c == 59) [] (c ∷ before cs)

after : List ℕ → List ℕ
after [] = []
after (c ∷ cs) = cond (c == 59) cs (after cs)

abbrev no_end : ℕ → Bool
no_end c = not (c == 59)

before_is : (xs r : List ℕ) → list_all no_end xs ≡ true → before (xs ++ 59 ∷ r) ≡ xs
unfolding before
before_is [] r free = refl
before_is (x ∷ xs) r free =
    let both : (not (x == 59) ≡ true) × (list_all no_end xs ≡ true) = and_parts (no_end x) (list_all no_end xs) free in
    cond-false (x == 59) [] (x ∷ before (xs ++ 59 ∷ r)) (not-true (x == 59) both.0) ∙ ap (λ y. x ∷ y) (before_is xs r both.1)

after_is : (xs r : List ℕ) → list_all no_end xs ≡ true → after (xs ++ 59 ∷ r) ≡ r
unfolding after
after_is [] r free = refl
after_is (x ∷ xs) r free =
    let both : (not (x == 59) ≡ true) × (list_all no_end xs ≡ true) = and_parts (no_end x) (list_all no_end xs) free in
    cond-false (x == 59) (xs ++ 59 ∷ r) (after (xs ++ 59 ∷ r)) (not-true (x == 59) both.0) ∙ after_is xs r both.1

-- what stands before the semicolon, and what it stands for
abbrev numeric : List ℕ → ℕ
numeric [] = 0
numeric (c ∷ cs) = cond (c == 120) (radix_value 16 cs) (radix_value 10 (c ∷ cs))

abbrev behind_a : List ℕ → ℕ
behind_a [] = 0
behind_a (c ∷ cs) = cond (c == 109) 38 39

abbrev value_at : List ℕ → ℕ
value_at [] = 0
value_at (c ∷ cs) = cond (c == 35) (numeric cs) (cond (c == 108) 60 (cond (c == 103) 62 (cond (c == 113) 34 (behind_a cs))))

record HasBody (text : List ℕ) (c : ℕ) : Type 0 where
  body : List ℕ
  is : text ≡ body ++ 59 ∷ []
  free : list_all no_end body ≡ true
  value : value_at body ≡ c

other : (c d radix : ℕ) → is_digit c radix ≡ true → is_digit d radix ≡ false → (c == d) ≡ false
other c d radix e n = by (c == d) refl
  where
    by : (b : Bool) → (c == d) ≡ b → b ≡ false
    by true h = absurd (false≢true (sym n ∙ (ap (λ (x : ℕ). is_digit x radix) (sym (eqb-true c d h)) ∙ e)))
    by false h = refl

digits_free : (radix : ℕ) (ds : List ℕ) → is_digit 59 radix ≡ false → all_digits radix ds ≡ true → list_all no_end ds ≡ true
digits_free radix [] n e = refl
digits_free radix (d ∷ ds) n e =
    let both : (is_digit d radix ≡ true) × (all_digits radix ds ≡ true) = and_parts (is_digit d radix) (all_digits radix ds) e in
    and_from (no_end d) (list_all no_end ds) (not_from_false (d == 59) (other d 59 radix both.0 n)) (digits_free radix ds n both.1)

decimal_value : (ds : List ℕ) (c : ℕ) → IsNumber 10 ds c → numeric ds ≡ c
decimal_value [] c n = absurd (omega (arith, n.some))
decimal_value (d ∷ ds) c n =
    let digit : is_digit d 10 ≡ true = (and_parts (is_digit d 10) (all_digits 10 ds) n.are).0 in
    cond-false (d == 120) (radix_value 16 ds) (radix_value 10 (d ∷ ds)) (other d 120 10 digit refl) ∙ n.value

body_of : (text : List ℕ) (c : ℕ) → Refers text c → HasBody text c
body_of text c (lt e v) = record { body = 108 ∷ 116 ∷ []; is = e; free = refl; value = sym v }
body_of text c (gt e v) = record { body = 103 ∷ 116 ∷ []; is = e; free = refl; value = sym v }
body_of text c (amp e v) = record { body = 97 ∷ 109 ∷ 112 ∷ []; is = e; free = refl; value = sym v }
body_of text c (apos e v) = record { body = 97 ∷ 112 ∷ 111 ∷ 115 ∷ []; is = e; free = refl; value = sym v }
body_of text c (quot e v) = record { body = 113 ∷ 117 ∷ 111 ∷ 116 ∷ []; is = e; free = refl; value = sym v }
body_of text c (by_decimal ds n e) = record { body = 35 ∷ ds; is = e; free = digits_free 10 ds refl n.are; value = decimal_value ds c n }
body_of text c (by_hexadecimal ds n e) = record { body = 35 ∷ 120 ∷ ds; is = e; free = digits_free 16 ds refl n.are; value = n.value }

whole : (s body r : List ℕ) → s ≡ body ++ 59 ∷ [] → s ++ r ≡ body ++ 59 ∷ r
whole s body r e = ap (λ (x : List ℕ). x ++ r) e ∙ append_assoc body (59 ∷ []) r

same_bodies : (s t : List ℕ) (c d : ℕ) (r q : List ℕ) → HasBody s c → HasBody t d → s ++ r ≡ t ++ q → (s ≡ t) × (c ≡ d) × (r ≡ q)
same_bodies s t c d r q a b e =
    let all : a.body ++ 59 ∷ r ≡ b.body ++ 59 ∷ q = sym (whole s a.body r a.is) ∙ (e ∙ whole t b.body q b.is) in
    let body : a.body ≡ b.body = sym (before_is a.body r a.free) ∙ (ap before all ∙ before_is b.body q b.free) in
    (a.is ∙ (ap (λ (x : List ℕ). x ++ 59 ∷ []) body ∙ sym b.is), sym a.value ∙ (ap value_at body ∙ b.value), sym (after_is a.body r a.free) ∙ (ap after all ∙ after_is b.body q b.free))

pub reference_same : (s t : List ℕ) (c d : ℕ) (r q : List ℕ) → Refers s c → Refers t d → s ++ r ≡ t ++ q → (s ≡ t) × (c ≡ d) × (r ≡ q)
reference_same s t c d r q g h e = same_bodies s t c d r q (body_of s c g) (body_of t d h) e
