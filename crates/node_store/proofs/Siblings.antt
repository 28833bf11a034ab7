-- Lists of children: who stands beside whom where two parts of a list meet.
use Rattle.std.proofs.Common.{◌≡◌, ◌≢◌, ◌==◌, ◌||◌, ◌&&◌, ℕ, ◌<◌, ◌≤◌, Bool, true, false, not, List, [], ◌∷◌, ◌++◌, length, Option, Some, None, cond, refl, sym, ap, ◌∙◌, inl, inr, eqb}
use Rattle.std.specs.Prelude.{unwrap_or, filter}
use Rattle.std.specs.List.{list_any, IsDistinct, AllByRecursion}
use Rattle.std.proofs.lemmas.Bool.{cases_eq, eq-eqb, eqb-true, ne_eqb}
use Rattle.std.proofs.lemmas.List.Folds.{list_any-append}
use Rattle.std.proofs.lemmas.List.Elements.{filter-append}
use Rattle.std.proofs.lemmas.Map.Views.{any-filter_same}
use Rattle.std.proofs.lemmas.Map.Steps.{length-le_from_distinct_below}
use Rattle.node_store.specs.Rows.{head_of, last_of, starts, after, before, is_listed, Distinct}

pub or_false : (b : Bool) → (b || false) ≡ true → b ≡ true
or_false true e = refl
or_false false e = e

pub or_right : (a b : Bool) → b ≡ true → (a || b) ≡ true
or_right true b e = refl
or_right false b e = e

pub both_false : (a b : Bool) → (a || b) ≡ false → (a ≡ false) × (b ≡ false)
both_false true b e = cc
both_false false b e = (refl, e)

pub none_or : (a b : Bool) → a ≡ false → b ≡ false → (a || b) ≡ false
none_or a b p q = ap (λ x. x || b) p ∙ q

pub both_true : (a b : Bool) → (a && b) ≡ true → (a ≡ true) × (b ≡ true)
both_true true b e = (refl, e)
both_true false b e = cc

pub not_both : (b : Bool) → b ≡ true → b ≡ false → {X : Type 0} → X
not_both b p q = absurd (cc)

pub false_of : (b : Bool) → (b ≡ true → ⊥) → b ≡ false
false_of true h = absurd (h refl)
false_of false h = refl

pub listed_apart : (c k : ℕ) (cs : List ℕ) → is_listed c cs ≡ false → is_listed k cs ≡ true → c ≢ k
listed_apart c k cs none some same = not_both (is_listed k cs) some (ap (λ x. is_listed x cs) (sym same) ∙ none)

pub head_listed : (cs : List ℕ) (k : ℕ) → head_of cs ≡ Some k → is_listed k cs ≡ true
head_listed [] k e = absurd (cc)
head_listed (c ∷ cs) k e = let same : c ≡ k = search e in ap (λ b. b || is_listed k cs) (eq-eqb c k same)

last_step : (c l : ℕ) (o : Option ℕ) (cs : List ℕ) → Some (unwrap_or o c) ≡ Some l → (o ≡ Some l → is_listed l cs ≡ true) → ((c == l) || is_listed l cs) ≡ true
last_step c l None cs e rest = let same : c ≡ l = search e in ap (λ b. b || is_listed l cs) (eq-eqb c l same)
last_step c l (Some y) cs e rest = or_right (c == l) _ (rest e)

pub last_listed : (cs : List ℕ) (l : ℕ) → last_of cs ≡ Some l → is_listed l cs ≡ true
last_listed [] l e = absurd (cc)
last_listed (c ∷ cs) l e = last_step c l (last_of cs) cs e (last_listed cs l)

pub after_listed : (p : ℕ) (cs : List ℕ) (k : ℕ) → after p cs ≡ Some k → is_listed k cs ≡ true
after_listed p [] k e = absurd (cc)
after_listed p (c ∷ cs) k e = go (c == p) e (after_listed p cs k)
  where
    go : (b : Bool) → cond b (head_of cs) (after p cs) ≡ Some k → (after p cs ≡ Some k → is_listed k cs ≡ true) → ((c == k) || is_listed k cs) ≡ true
    go true h rest = or_right (c == k) _ (head_listed cs k h)
    go false h rest = or_right (c == k) _ (rest h)

before_step : (k c j : ℕ) (b : Bool) (cs : List ℕ) → cond b (Some c) (before k cs) ≡ Some j → (before k cs ≡ Some j → is_listed j cs ≡ true) → is_listed j (c ∷ cs) ≡ true
before_step k c j true cs e rest = let same : c ≡ j = search e in ap (λ b. b || is_listed j cs) (eq-eqb c j same)
before_step k c j false cs e rest = or_right (c == j) _ (rest e)

pub before_listed : (k : ℕ) (cs : List ℕ) (j : ℕ) → before k cs ≡ Some j → is_listed j cs ≡ true
before_listed k [] j e = absurd (cc)
before_listed k (c ∷ cs) j e = before_step k c j (starts k cs) cs e (before_listed k cs j)

pub no_last : (cs : List ℕ) → last_of cs ≡ None → cs ≡ []
no_last [] e = refl
no_last (c ∷ cs) e = absurd (cc)

pub no_head : (cs : List ℕ) → head_of cs ≡ None → cs ≡ []
no_head [] e = refl
no_head (c ∷ cs) e = absurd (cc)

pub not_listed : (k c : ℕ) (cs : List ℕ) → is_listed k (c ∷ cs) ≡ false → (c ≢ k) × (is_listed k cs ≡ false)
not_listed k c cs e =
    let parts = both_false (c == k) (is_listed k cs) e in
    (λ same. not_both (c == k) (eq-eqb c k same) parts.0, parts.1)

pub listed_cases : (k c : ℕ) (cs : List ℕ) → is_listed k (c ∷ cs) ≡ true → c ≢ k → is_listed k cs ≡ true
listed_cases k c cs e d = ap (λ b. b || is_listed k cs) (sym (ne_eqb c k d)) ∙ e

-- a test at a known number
cond_eq : {X : Type 0} (c k : ℕ) (x y : X) → c ≡ k → cond (c == k) x y ≡ x
cond_eq c k x y e = ap (λ b. cond b x y) (eq-eqb c k e)

cond_ne : {X : Type 0} (c k : ℕ) (x y : X) → c ≢ k → cond (c == k) x y ≡ y
cond_ne c k x y e = ap (λ b. cond b x y) (ne_eqb c k e)

-- ---- the seam between `pre` and what follows

-- after the last of `pre` comes the head of what follows
end_step : (l c : ℕ) (cs zs : List ℕ) → is_listed c cs ≡ false → last_of (c ∷ cs) ≡ Some l → (last_of cs ≡ Some l → after l (cs ++ zs) ≡ head_of zs) → after l (c ∷ (cs ++ zs)) ≡ head_of zs
end_step l c [] zs fresh e rest = cond_eq c l _ _ (search e)
end_step l c (d ∷ ds) zs fresh e rest = cond_ne c l _ _ (listed_apart c l (d ∷ ds) fresh (last_listed (d ∷ ds) l e)) ∙ rest e

pub after_end : (l : ℕ) (pre zs : List ℕ) → Distinct pre → last_of pre ≡ Some l → after l (pre ++ zs) ≡ head_of zs
after_end l [] zs d e = absurd (cc)
after_end l (c ∷ cs) zs d e = end_step l c cs zs d.0 e (after_end l cs zs d.1)

-- what follows `pre` matters to its last alone
heads_step : (p c : ℕ) (cs zs ws : List ℕ) → last_of (c ∷ cs) ≢ Some p → c ≡ p → head_of (cs ++ zs) ≡ head_of (cs ++ ws)
heads_step p c [] zs ws n e = absurd (n (ap Some e))
heads_step p c (d ∷ ds) zs ws n e = refl

last_later : (c p : ℕ) (cs : List ℕ) → last_of (c ∷ cs) ≢ Some p → last_of cs ≢ Some p
last_later c p cs n e = n (ap (λ o. Some (unwrap_or o c)) e)

pub after_same : (p : ℕ) (pre zs ws : List ℕ) → last_of pre ≢ Some p → after p zs ≡ after p ws → after p (pre ++ zs) ≡ after p (pre ++ ws)
after_same p [] zs ws n e = e
after_same p (c ∷ cs) zs ws n e = elim (cases_eq c p) [
  | inl same ↦ cond_eq c p _ _ same ∙ heads_step p c cs zs ws n same ∙ sym (cond_eq c p _ _ same)
  | inr differ ↦ cond_ne c p _ _ differ ∙ after_same p cs zs ws (last_later c p cs n) e ∙ sym (cond_ne c p _ _ differ)
]

-- after k, which follows `pre`, comes the head of what follows k
pub after_self : (k : ℕ) (pre zs : List ℕ) → is_listed k pre ≡ false → after k (pre ++ k ∷ zs) ≡ head_of zs
after_self k [] zs none = cond_eq k k _ _ refl
after_self k (c ∷ cs) zs none = let parts = not_listed k c cs none in cond_ne c k _ _ parts.0 ∙ after_self k cs zs parts.1

-- k between two parts matters to the last of the first alone
pub after_around : (p k : ℕ) (pre post : List ℕ) → p ≢ k → last_of pre ≢ Some p → after p (pre ++ k ∷ post) ≡ after p (pre ++ post)
after_around p k pre post d n = after_same p pre (k ∷ post) post n (cond_ne k p _ _ (λ e. d (sym e)))

starts_none : (k : ℕ) (cs : List ℕ) → is_listed k cs ≡ false → starts k cs ≡ false
starts_none k [] e = refl
starts_none k (c ∷ cs) e = ne_eqb c k (not_listed k c cs e).0

pub before_none : (k : ℕ) (cs : List ℕ) → is_listed k cs ≡ false → before k cs ≡ None
before_none k [] e = refl
before_none k (c ∷ cs) e = let parts = not_listed k c cs e in ap (λ b. cond b (Some c) (before k cs)) (starts_none k cs parts.1) ∙ before_none k cs parts.1

-- before r, which follows `pre`, comes the last of `pre`
at_step : (r c : ℕ) (cs zs : List ℕ) → is_listed r (c ∷ cs) ≡ false → before r (cs ++ r ∷ zs) ≡ last_of cs → before r (c ∷ (cs ++ r ∷ zs)) ≡ last_of (c ∷ cs)
at_step r c [] zs none rest = cond_eq r r _ _ refl
at_step r c (d ∷ ds) zs none rest = cond_ne d r _ _ (not_listed r d ds (not_listed r c (d ∷ ds) none).1).0 ∙ rest

pub before_at : (r : ℕ) (pre zs : List ℕ) → is_listed r pre ≡ false → is_listed r zs ≡ false → before r (pre ++ r ∷ zs) ≡ last_of pre
before_at r [] zs none later = ap (λ b. cond b (Some r) (before r zs)) (starts_none r zs later) ∙ before_none r zs later
before_at r (c ∷ cs) zs none later = at_step r c cs zs none (before_at r cs zs (not_listed r c cs none).1 later)

starts_same : (p : ℕ) (cs zs ws : List ℕ) → starts p zs ≡ starts p ws → starts p (cs ++ zs) ≡ starts p (cs ++ ws)
starts_same p [] zs ws e = e
starts_same p (c ∷ cs) zs ws e = refl

before_parts : (p : ℕ) (pre zs ws : List ℕ) → starts p zs ≡ starts p ws → before p zs ≡ before p ws → before p (pre ++ zs) ≡ before p (pre ++ ws)
before_parts p [] zs ws s e = e
before_parts p (c ∷ cs) zs ws s e =
    ap (λ b. cond b (Some c) (before p (cs ++ zs))) (starts_same p cs zs ws s) ∙ ap (λ o. cond (starts p (cs ++ ws)) (Some c) o) (before_parts p cs zs ws s e)

not_head : (p : ℕ) (cs : List ℕ) → head_of cs ≢ Some p → starts p cs ≡ false
not_head p [] n = refl
not_head p (c ∷ cs) n = ne_eqb c p (λ e. n (ap Some e))

-- k between two parts matters to the head of the second alone
pub before_same : (p k : ℕ) (pre post : List ℕ) → p ≢ k → head_of post ≢ Some p → before p (pre ++ k ∷ post) ≡ before p (pre ++ post)
before_same p k pre post d n =
    let none = not_head p post n in
    before_parts p pre (k ∷ post) post (ne_eqb k p (λ e. d (sym e)) ∙ sym none) (ap (λ b. cond b (Some k) (before p post)) none)

pub head_same : (pre zs ws : List ℕ) → (last_of pre ≡ None → ⊥) → head_of (pre ++ zs) ≡ head_of (pre ++ ws)
head_same [] zs ws n = absurd (n refl)
head_same (c ∷ cs) zs ws n = refl

pub last_right : (pre post : List ℕ) → (head_of post ≡ None → ⊥) → last_of (pre ++ post) ≡ last_of post
last_right [] post n = refl
last_right (c ∷ cs) [] n = absurd (n refl)
last_right (c ∷ cs) (r ∷ rs) n = ap (λ o. Some (unwrap_or o c)) (last_right cs (r ∷ rs) n)

pub last_same : (k : ℕ) (pre post : List ℕ) → (head_of post ≡ None → ⊥) → last_of (pre ++ k ∷ post) ≡ last_of (pre ++ post)
last_same k pre [] n = absurd (n refl)
last_same k pre (r ∷ rs) n = last_right pre (k ∷ r ∷ rs) (λ e. absurd (cc)) ∙ sym (last_right pre (r ∷ rs) (λ e. absurd (cc)))

-- ---- parts of lists without repetition

pub listed_parts : (k : ℕ) (xs ys : List ℕ) → is_listed k (xs ++ ys) ≡ false → (is_listed k xs ≡ false) × (is_listed k ys ≡ false)
listed_parts k xs ys e = both_false _ _ (sym (list_any-append (λ c. c == k) xs ys) ∙ e)

pub distinct_left : (xs ys : List ℕ) → Distinct (xs ++ ys) → Distinct xs
distinct_left [] ys d = tt
distinct_left (c ∷ cs) ys d = ((listed_parts c cs ys d.0).0, distinct_left cs ys d.1)

pub distinct_right : (xs ys : List ℕ) → Distinct (xs ++ ys) → Distinct ys
distinct_right [] ys d = d
distinct_right (c ∷ cs) ys d = distinct_right cs ys d.1

-- what stands at the right isn't among what stands at its left
pub left_fresh : (k : ℕ) (xs ys : List ℕ) → Distinct (xs ++ k ∷ ys) → is_listed k xs ≡ false
left_fresh k [] ys d = refl
left_fresh k (c ∷ cs) ys d =
    let apart = (not_listed c k ys (listed_parts c cs (k ∷ ys) d.0).1).0 in
    none_or _ _ (ne_eqb c k (λ e. apart (sym e))) (left_fresh k cs ys d.1)

pub right_fresh : (k : ℕ) (xs ys : List ℕ) → Distinct (xs ++ k ∷ ys) → is_listed k ys ≡ false
right_fresh k xs ys d = (distinct_right xs (k ∷ ys) d).0

pub distinct_push : (xs : List ℕ) (k : ℕ) → Distinct xs → is_listed k xs ≡ false → Distinct (xs ++ k ∷ [])
distinct_push [] k d e = (refl, tt)
distinct_push (c ∷ cs) k d e =
    let parts = not_listed k c cs e in (
      list_any-append (λ x. x == c) cs (k ∷ []) ∙ none_or _ _ d.0 (none_or _ _ (ne_eqb k c (λ same. parts.0 (sym same))) refl),
      distinct_push cs k d.1 parts.1,
    )

-- ---- a list without one of its numbers

pub split_at : (k : ℕ) (xs : List ℕ) → is_listed k xs ≡ true → (pre : List ℕ) × (post : List ℕ) × (xs ≡ pre ++ k ∷ post)
split_at k [] e = absurd (cc)
split_at k (c ∷ cs) e = elim (cases_eq c k) [
  | inl same ↦ ([], cs, ap (λ x. x ∷ cs) same)
  | inr differ ↦ let later = split_at k cs (listed_cases k c cs e differ) in (c ∷ later.0, later.1, ap (λ l. c ∷ l) later.2)
]

abbrev pub without : ℕ → List ℕ → List ℕ
without k xs = filter (λ c. not (c == k)) xs

pub without_none : (k : ℕ) (xs : List ℕ) → is_listed k xs ≡ false → without k xs ≡ xs
without_none k [] e = refl
without_none k (c ∷ cs) e =
    let parts = not_listed k c cs e in
    ap (λ b. cond (not b) (c ∷ without k cs) (without k cs)) (ne_eqb c k parts.0) ∙ ap (λ l. c ∷ l) (without_none k cs parts.1)

pub without_parts : (k : ℕ) (pre post : List ℕ) → Distinct (pre ++ k ∷ post) → without k (pre ++ k ∷ post) ≡ pre ++ post
without_parts k pre post d =
    filter-append (λ c. not (c == k)) pre (k ∷ post)
    ∙ ap (λ l. l ++ without k (k ∷ post)) (without_none k pre (left_fresh k pre post d))
    ∙ ap (λ l. pre ++ l) (ap (λ b. cond (not b) (k ∷ without k post) (without k post)) (eq-eqb k k refl) ∙ without_none k post (right_fresh k pre post d))

-- what is left of the list
pub listed_without : (r k : ℕ) (xs : List ℕ) → is_listed r (without k xs) ≡ (not (r == k) && is_listed r xs)
listed_without r k xs = any-filter_same (λ c. c == r) (λ c. not (c == k)) (not (r == k)) (λ c is. ap (λ b. not (b == k)) (eqb-true c r is)) xs

and_false : (a b : Bool) → b ≡ false → (a && b) ≡ false
and_false true b e = e
and_false false b e = refl

without_step : (c k : ℕ) (cs : List ℕ) (b : Bool) → is_listed c cs ≡ false → Distinct (without k cs) → Distinct (cond (not b) (c ∷ without k cs) (without k cs))
without_step c k cs true fresh d = d
without_step c k cs false fresh d = (listed_without c k cs ∙ and_false _ _ fresh, d)

pub distinct_without : (k : ℕ) (xs : List ℕ) → Distinct xs → Distinct (without k xs)
distinct_without k [] d = tt
distinct_without k (c ∷ cs) d = without_step c k cs (c == k) d.0 (distinct_without k cs d.1)

-- ---- a list without repetition of numbers below n is no longer than n

eqb_flip : (a b : ℕ) → (a == b) ≡ (b == a)
eqb_flip a b = elim (cases_eq a b) [
  | inl same ↦ eq-eqb a b same ∙ sym (eq-eqb b a (sym same))
  | inr differ ↦ ne_eqb a b differ ∙ sym (ne_eqb b a (λ e. differ (sym e)))
]

listed_flip : (q : ℕ) (xs : List ℕ) → list_any (eqb q) xs ≡ is_listed q xs
listed_flip q [] = refl
listed_flip q (c ∷ cs) = ap (λ b. b || list_any (eqb q) cs) (eqb_flip q c) ∙ ap (λ b. (c == q) || b) (listed_flip q cs)

apart_all : (c : ℕ) (cs : List ℕ) → is_listed c cs ≡ false → AllByRecursion (λ y. eqb c y ≡ false) cs
apart_all c [] e = tt
apart_all c (d ∷ ds) e = let parts = not_listed c d ds e in (ne_eqb c d (λ same. parts.0 (sym same)), apart_all c ds parts.1)

distinct_std : (xs : List ℕ) → Distinct xs → IsDistinct eqb xs
unfolding IsDistinct
distinct_std [] d = tt
distinct_std (c ∷ cs) d = (apart_all c cs d.0, distinct_std cs d.1)

pub short : (xs : List ℕ) (n : ℕ) → Distinct xs → ((q : ℕ) → is_listed q xs ≡ true → q < n) → length xs ≤ n
short xs n d low = length-le_from_distinct_below xs n (distinct_std xs d) (λ q e. low q (sym (listed_flip q xs) ∙ e))
