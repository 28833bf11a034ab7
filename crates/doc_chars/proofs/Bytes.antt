-- Where bytes stop being UTF-8: what std's words on it say of fronts of characters.
use Rattle.std.proofs.Common.{◌≡◌, ◌⊎◌, ◌++◌, ◌∷◌, [], ◌<◌, ◌≤◌, ◌+◌, ◌-◌, ◌*◌, ◌/◌, ℕ, List, Bool, length, take, true, false, refl, sym, ap, subst, ◌∙◌, append-nil, arith, length-append, append_assoc, None, Some, Option, take_at, get_or, inl, inr, cond}
use Rattle.std.specs.Char.{IsScalar, encode_utf8}
use Rattle.std.specs.Int.{is_in_range}
use Rattle.std.specs.Str.{IsUtf8, IsValidUpTo, StartsWithNoChar}
use Rattle.std.specs.Str.Lossy.{utf8_error_len, second_byte_min, second_byte_max}
use Rattle.std.proofs.lemmas.Str.{IsUtf8-encode}
use Rattle.std.proofs.lemmas.Bool.{cases_lt}
use Rattle.std.proofs.lemmas.Bool.Decides.{nat_tests}
use Rattle.std.proofs.str.Laws.{Scalar, Follows, Shape, of1, of2, of3, of4, shape, one, two, three, four, not_empty}
use Rattle.std.proofs.str.Valid.{of_two, of_three}
use Rattle.std.proofs.str.Digits.{high_scalar}
use lib.Utf8.{scalar_cases, low_scalar, next}
use Rattle.doc_chars.specs.Stream.{IsCharFront, IsNotUtf8}

pub in_range : (lo hi x : ℕ) → is_in_range lo hi x ≡ true → (lo ≤ x) × (x ≤ hi)
in_range lo hi x e = grind (arith, nat_tests)

-- a front of a front is one
pub front_shorter : (p q : List ℕ) → IsCharFront (p ++ q) → IsCharFront p
front_shorter p q f = record {
  c = f.c;
  rest = q ++ f.rest;
  scalar = f.scalar;
  bytes = f.bytes ∙ append_assoc p q f.rest;
  more = let some = f.more in omega (arith, length-append q f.rest);
}

pub front_nil : IsCharFront []
front_nil = record { c = 65; rest = 65 ∷ []; scalar = refl; bytes = one 65 (omega arith); more = omega arith }

-- ---- the bytes of a character (Unicode, table 3-7)

-- y may follow the first byte x
pub record Second (x y : ℕ) : Type 0 where
  pub low : 128 ≤ y
  pub high : y ≤ 191
  pub not_long3 : x ≡ 224 → 160 ≤ y
  pub not_surrogate : x ≡ 237 → y ≤ 159
  pub not_long4 : x ≡ 240 → 144 ≤ y
  pub not_past : x ≡ 244 → y ≤ 143

second_is : (x y : ℕ) → is_in_range (second_byte_min x) (second_byte_max x) y ≡ true → Second x y
second_is x y e = record {
  low = grind (arith, nat_tests);
  high = grind (arith, nat_tests);
  not_long3 = λ h. grind (arith, nat_tests);
  not_surrogate = λ h. grind (arith, nat_tests);
  not_long4 = λ h. grind (arith, nat_tests);
  not_past = λ h. grind (arith, nat_tests);
}

second_test : (x y : ℕ) → Second x y → is_in_range (second_byte_min x) (second_byte_max x) y ≡ true
second_test x y s = by s.low s.high s.not_long3 s.not_surrogate s.not_long4 s.not_past
  where
    by : 128 ≤ y → y ≤ 191 → (x ≡ 224 → 160 ≤ y) → (x ≡ 237 → y ≤ 159) → (x ≡ 240 → 144 ≤ y) → (x ≡ 244 → y ≤ 143)
        → is_in_range (second_byte_min x) (second_byte_max x) y ≡ true
    by a b p q r t = grind (arith, nat_tests)

-- a number in one of the two ranges is a character
scalar_in : (c : ℕ) → (c < 55296) ⊎ (57344 ≤ c) → c < 1114112 → IsScalar c
scalar_in c (inl l) h = low_scalar c l
scalar_in c (inr l) h = high_scalar c (omega arith) l h

front_two : (x : ℕ) → 194 ≤ x → x ≤ 223 → IsCharFront (x ∷ [])
front_two x l h =
    let c = (x - 192) * 64 in
    let p : 192 + c / 64 ≡ x = omega arith in
    record {
      c = c;
      rest = next c ∷ [];
      scalar = low_scalar c (omega arith);
      bytes = two c (omega arith) (omega arith) ∙ ap (λ b. b ∷ next c ∷ []) p;
      more = omega arith;
    }

-- no surrogate, and nothing past the last character
three_parts : (x y : ℕ) → 224 ≤ x → x ≤ 239 → Second x y → let c = (x - 224) * 4096 + (y - 128) * 64 in (c < 55233) ⊎ (57344 ≤ c)
three_parts x y l h s =
    let low = s.low in
    let high = s.high in
    elim (cases_lt x 237) [
      | inl a ↦ inl (omega arith)
      | inr a ↦ elim (cases_lt x 238) [
        | inl b ↦ (let is : x ≡ 237 = omega arith in let small = s.not_surrogate is in inl (omega arith))
        | inr b ↦ inr (omega arith)
      ]
    ]

three_low : (x y : ℕ) → 224 ≤ x → Second x y → 2048 ≤ (x - 224) * 4096 + (y - 128) * 64
three_low x y l s =
    elim (cases_lt x 225) [
      | inl a ↦ (let is : x ≡ 224 = omega arith in let long = s.not_long3 is in omega arith)
      | inr a ↦ omega arith
    ]

-- with a last byte they are no surrogate either
with_last : (c d : ℕ) → (c < 55233) ⊎ (57344 ≤ c) → d ≤ 63 → (c + d < 55296) ⊎ (57344 ≤ c + d)
with_last c d (inl h) l = inl (omega arith)
with_last c d (inr h) l = inr (omega arith)

four_low : (x y : ℕ) → 240 ≤ x → Second x y → 65536 ≤ (x - 240) * 262144 + (y - 128) * 4096
four_low x y l s =
    let low = s.low in
    elim (cases_lt x 241) [
      | inl a ↦ (let is : x ≡ 240 = omega arith in let long = s.not_long4 is in omega arith)
      | inr a ↦ omega arith
    ]

four_high : (x y : ℕ) → 240 ≤ x → x ≤ 244 → Second x y → (x - 240) * 262144 + (y - 128) * 4096 < 1110017
four_high x y l h s =
    let high = s.high in
    elim (cases_lt x 244) [
      | inl a ↦ omega arith
      | inr a ↦ (let is : x ≡ 244 = omega arith in let past = s.not_past is in omega arith)
    ]

wider : (c : ℕ) → (c < 55233) ⊎ (57344 ≤ c) → (c < 55296) ⊎ (57344 ≤ c)
wider c (inl h) = inl (omega arith)
wider c (inr h) = inr h

front_three : (x y : ℕ) → 224 ≤ x → x ≤ 239 → Second x y → IsCharFront (x ∷ y ∷ [])
front_three x y l h s =
    let low = s.low in
    let high = s.high in
    let c = (x - 224) * 4096 + (y - 128) * 64 in
    let p : 224 + c / 4096 ≡ x = omega arith in
    let q : next (c / 64) ≡ y = omega arith in
    record {
      c = c;
      rest = next c ∷ [];
      scalar = scalar_in c (wider c (three_parts x y l h s)) (omega arith);
      bytes = three c (three_low x y l s) (omega arith) ∙ (λ i. p i ∷ q i ∷ next c ∷ []);
      more = omega arith;
    }

front_four : (x y z : ℕ) → 240 ≤ x → x ≤ 244 → Second x y → 128 ≤ z → z ≤ 191 → IsCharFront (x ∷ y ∷ z ∷ [])
front_four x y z l h s u v =
    let low = s.low in
    let high = s.high in
    let least = four_low x y l s in
    let most = four_high x y l h s in
    let c = (x - 240) * 262144 + (y - 128) * 4096 + (z - 128) * 64 in
    let p : 240 + c / 262144 ≡ x = omega arith in
    let q : next (c / 4096) ≡ y = omega arith in
    let r : next (c / 64) ≡ z = omega arith in
    record {
      c = c;
      rest = next c ∷ [];
      scalar = scalar_in c (inr (omega arith)) (omega arith);
      bytes = four c (omega arith) ∙ (λ i. p i ∷ q i ∷ r i ∷ next c ∷ []);
      more = omega arith;
    }

-- some byte may follow
second_some : (x : ℕ) → (y : ℕ) × Second x y
second_some x = elim (cases_lt x 225) [
  | inl a ↦ (160, record { low = omega arith; high = omega arith; not_long3 = λ _. omega arith; not_surrogate = λ e. absurd (omega arith); not_long4 = λ e. absurd (omega arith); not_past = λ e. absurd (omega arith) })
  | inr a ↦ elim (cases_lt x 240) [
    | inl b ↦ (128, record { low = omega arith; high = omega arith; not_long3 = λ e. absurd (omega arith); not_surrogate = λ e. omega arith; not_long4 = λ e. absurd (omega arith); not_past = λ e. absurd (omega arith) })
    | inr b ↦ elim (cases_lt x 241) [
      | inl d ↦ (144, record { low = omega arith; high = omega arith; not_long3 = λ e. absurd (omega arith); not_surrogate = λ e. absurd (omega arith); not_long4 = λ e. omega arith; not_past = λ e. absurd (omega arith) })
      | inr d ↦ (128, record { low = omega arith; high = omega arith; not_long3 = λ e. absurd (omega arith); not_surrogate = λ e. absurd (omega arith); not_long4 = λ e. absurd (omega arith); not_past = λ e. omega arith })
    ]
  ]
]

front_one_byte : (x : ℕ) → 194 ≤ x → x ≤ 244 → IsCharFront (x ∷ [])
front_one_byte x l h =
    let next_byte = second_some x in
    elim (cases_lt x 224) [
      | inl a ↦ front_two x l (omega arith)
      | inr a ↦ elim (cases_lt x 240) [
        | inl b ↦ front_shorter (x ∷ []) (next_byte.0 ∷ []) (front_three x next_byte.0 a (omega arith) next_byte.1)
        | inr b ↦ front_shorter (x ∷ []) (next_byte.0 ∷ 128 ∷ []) (front_four x next_byte.0 128 b h next_byte.1 (omega arith) (omega arith))
      ]
    ]

-- ---- a cut character, told by std's words

cond_none : (b : Bool) (o : Option ℕ) (n : ℕ) → cond b o (Some n) ≡ None → (b ≡ true) × (o ≡ None)
cond_none true o n e = (refl, e)
cond_none false o n e = absurd (cc)

front_two_bytes : (x y : ℕ) → 194 ≤ x → x ≤ 244 → Second x y → IsValidUpTo (x ∷ y ∷ []) 0 → IsCharFront (x ∷ y ∷ [])
front_two_bytes x y l h s v =
    let low = s.low in
    let high = s.high in
    elim (cases_lt x 224) [
      | inl a ↦ absurd (v.longest 2 (omega arith) (of_two (x ∷ y ∷ []) 0 (omega arith) (l, a) (low, omega arith)))
      | inr a ↦ elim (cases_lt x 240) [
        | inl b ↦ front_three x y a (omega arith) s
        | inr b ↦ front_shorter (x ∷ y ∷ []) (128 ∷ []) (front_four x y 128 b h s (omega arith) (omega arith))
      ]
    ]

front_three_bytes : (x y z : ℕ) → 194 ≤ x → x ≤ 244 → Second x y → 128 ≤ z → z ≤ 191 → IsValidUpTo (x ∷ y ∷ z ∷ []) 0 → IsCharFront (x ∷ y ∷ z ∷ [])
front_three_bytes x y z l h s u w v =
    let low = s.low in
    let high = s.high in
    elim (cases_lt x 224) [
      | inl a ↦ absurd (v.longest 2 (omega arith) (of_two (x ∷ y ∷ z ∷ []) 0 (omega arith) (l, a) (low, omega arith)))
      | inr a ↦ elim (cases_lt x 240) [
        | inl b ↦ absurd (v.longest 3 (omega arith) (of_three (x ∷ y ∷ z ∷ []) 0 (omega arith) (a, b) (low, omega arith) (u, omega arith) (let least = three_low x y a s in omega arith) (with_last _ (z - 128) (three_parts x y a (omega arith) s) (omega arith))))
        | inr b ↦ front_four x y z b h s u w
      ]
    ]

-- where no character begins the bytes and they ended too soon, they are a proper front of one
pub cut_front : (bs : List ℕ) → length bs < 4 → utf8_error_len bs ≡ None → IsValidUpTo bs 0 → IsCharFront bs
unfolding utf8_error_len
cut_front [] short e v = front_nil
cut_front (x ∷ []) short e v =
    let a = cond_none _ _ _ e in
    let r = in_range 194 244 x a.0 in
    front_one_byte x r.0 r.1
cut_front (x ∷ y ∷ []) short e v =
    let a = cond_none _ _ _ e in
    let r = in_range 194 244 x a.0 in
    let b = cond_none _ _ _ a.1 in
    front_two_bytes x y r.0 r.1 (second_is x y b.0) v
cut_front (x ∷ y ∷ z ∷ []) short e v =
    let a = cond_none _ _ _ e in
    let r = in_range 194 244 x a.0 in
    let b = cond_none _ _ _ a.1 in
    let d = cond_none _ _ _ b.1 in
    let t = in_range 128 191 z d.0 in
    front_three_bytes x y z r.0 r.1 (second_is x y b.0) t.0 t.1 v
cut_front (x ∷ y ∷ z ∷ w ∷ bs) short e v = absurd (omega arith)

-- ---- a character's first bytes

two_least : (c : ℕ) → 1 < length (encode_utf8 c) → 128 ≤ c
two_least c h = elim (cases_lt c 128) [ inl l ↦ absurd (omega (arith, ap length (one c l))) | inr l ↦ l ]

three_least : (c : ℕ) → 2 < length (encode_utf8 c) → 2048 ≤ c
three_least c h = elim (cases_lt c 2048) [ inl l ↦ absurd (omega (arith, ap length (two c (two_least c (omega arith)) l))) | inr l ↦ l ]

four_least : (c : ℕ) → 3 < length (encode_utf8 c) → 65536 ≤ c
four_least c h = elim (cases_lt c 65536) [ inl l ↦ absurd (omega (arith, ap length (three c (three_least c (omega arith)) l))) | inr l ↦ l ]

-- the bytes that begin a character of several
record IsLed (bs : List ℕ) : Type 0 where
  pub short : length bs ≤ 4
  pub lead : 1 < length bs → (194 ≤ get_or bs 0 0) × (get_or bs 0 0 ≤ 244)
  pub second : 2 < length bs → Second (get_or bs 0 0) (get_or bs 1 0)
  pub third : 3 < length bs → (128 ≤ get_or bs 2 0) × (get_or bs 2 0 ≤ 191)

second_of_three : (c a b d : ℕ) → Scalar c → 2048 ≤ c → 224 ≤ a → a < 240 → Follows b → Follows d → c + 925824 ≡ a * 4096 + b * 64 + d → Second a b
second_of_three c a b d k least l u f g s = record {
  low = omega arith;
  high = omega arith;
  not_long3 = λ e. omega arith;
  not_surrogate = λ e. elim k [ inl m ↦ omega arith | inr m ↦ omega arith ];
  not_long4 = λ e. absurd (omega arith);
  not_past = λ e. absurd (omega arith);
}

second_of_four : (c a b d x : ℕ) → c < 1114112 → 65536 ≤ c → 240 ≤ a → Follows b → Follows d → Follows x → c + 63447168 ≡ a * 262144 + b * 4096 + d * 64 + x → Second a b
second_of_four c a b d x top least l f g h s = record {
  low = omega arith;
  high = omega arith;
  not_long3 = λ e. absurd (omega arith);
  not_surrogate = λ e. absurd (omega arith);
  not_long4 = λ e. omega arith;
  not_past = λ e. omega arith;
}

top_of : (c : ℕ) → Scalar c → c < 1114112
top_of c (inl h) = omega arith
top_of c (inr h) = h.1

led : (c : ℕ) → Scalar c → Shape c → IsLed (encode_utf8 c)
led c k (of1 l e) = subst IsLed (sym e) (record {
  short = omega arith;
  lead = λ t. absurd (omega arith);
  second = λ t. absurd (omega arith);
  third = λ t. absurd (omega arith);
})
led c k (of2 a b l u f s e) = let least : 128 ≤ c = two_least c (omega (arith, ap length e)) in subst IsLed (sym e) (record {
  short = omega arith;
  lead = λ t. (omega arith, omega arith);
  second = λ t. absurd (omega arith);
  third = λ t. absurd (omega arith);
})
led c k (of3 a b d l u f g s e) = let least : 2048 ≤ c = three_least c (omega (arith, ap length e)) in subst IsLed (sym e) (record {
  short = omega arith;
  lead = λ t. (omega arith, omega arith);
  second = λ t. second_of_three c a b d k least l u f g s;
  third = λ t. absurd (omega arith);
})
led c k (of4 a b d x l u f g h s e) =
    let least : 65536 ≤ c = four_least c (omega (arith, ap length e)) in
    let top : c < 1114112 = top_of c k in
    subst IsLed (sym e) (record {
      short = omega arith;
      lead = λ t. (omega arith, omega arith);
      second = λ t. second_of_four c a b d x top least l f g h s;
      third = λ t. (omega arith, omega arith);
    })

front_led : (bs : List ℕ) (f : IsCharFront bs) → IsLed (bs ++ f.rest)
front_led bs f = subst IsLed f.bytes (led f.c (scalar_cases f.c f.scalar) (shape f.c (scalar_cases f.c f.scalar)))

-- a proper front of a character has at most three bytes
pub front_short : (bs : List ℕ) → IsCharFront bs → length bs < 4
front_short bs f =
    let some = f.more in
    let led_by = front_led bs f in
    let fits = led_by.short in
    omega (arith, length-append bs f.rest)

range_test : (lo hi x : ℕ) → lo ≤ x → x ≤ hi → is_in_range lo hi x ≡ true
range_test lo hi x l h = grind (arith, nat_tests)

cond_both : (b : Bool) (o : Option ℕ) (n : ℕ) → b ≡ true → o ≡ None → cond b o (Some n) ≡ None
cond_both b o n e f = ap (λ t. cond t o (Some n)) e ∙ f

-- std's word on a proper front of a character
pub front_cut : (bs : List ℕ) → IsCharFront bs → utf8_error_len bs ≡ None
unfolding utf8_error_len
front_cut [] f = refl
front_cut (x ∷ []) f =
    let some = f.more in
    let l = front_led (x ∷ []) f in
    let r = l.lead (omega arith) in
    cond_both _ _ _ (range_test 194 244 x r.0 r.1) refl
front_cut (x ∷ y ∷ []) f =
    let some = f.more in
    let l = front_led (x ∷ y ∷ []) f in
    let r = l.lead (omega arith) in
    cond_both _ _ _ (range_test 194 244 x r.0 r.1) (cond_both _ _ _ (second_test x y (l.second (omega arith))) refl)
front_cut (x ∷ y ∷ z ∷ []) f =
    let some = f.more in
    let l = front_led (x ∷ y ∷ z ∷ []) f in
    let r = l.lead (omega arith) in
    let t = l.third (omega arith) in
    cond_both _ _ _ (range_test 194 244 x r.0 r.1)
    (cond_both _ _ _ (second_test x y (l.second (omega arith))) (cond_both _ _ _ (range_test 128 191 z t.0 t.1) refl))
front_cut (x ∷ y ∷ z ∷ w ∷ bs) f = let short = front_short (x ∷ y ∷ z ∷ w ∷ bs) f in absurd (omega arith)

pub encode_some : (c : ℕ) → IsScalar c → 0 < length (encode_utf8 c)
encode_some c s = subst (λ (l : List ℕ). 0 < length l) (append-nil (encode_utf8 c)) (not_empty c (shape c (scalar_cases c s)) [])

-- no character begins the bytes where no front of them is UTF-8
pub no_char : (bs : List ℕ) → IsValidUpTo bs 0 → StartsWithNoChar bs
no_char bs v c rest s e =
    v.longest (length (encode_utf8 c)) (encode_some c s) (subst IsUtf8 (sym (ap (take (length (encode_utf8 c))) e ∙ take_at (encode_utf8 c) rest _ refl)) (IsUtf8-encode c s))

pub is_not_utf8 : (bs : List ℕ) (n : ℕ) → IsValidUpTo bs 0 → utf8_error_len bs ≡ Some n → IsNotUtf8 bs
is_not_utf8 bs n v e = record { no_char = no_char bs v; no_front = λ f. let cut = front_cut bs f in cc }

pub encode_short : (c : ℕ) → IsScalar c → length (encode_utf8 c) ≤ 4
encode_short c s = let l = led c (scalar_cases c s) (shape c (scalar_cases c s)) in l.short
