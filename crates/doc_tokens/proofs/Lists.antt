-- Lists of names in one list of bytes.
use Rattle.std.proofs.Common.{ℕ, zero, suc, ◌≡◌, ◌+◌, ◌-◌, ◌<◌, ◌≤◌, min, Bool, true, false, not, ◌&&◌, List, [], ◌∷◌, ◌++◌, length, take, drop, get_or, reverse, refl, sym, ap, subst, ◌∙◌, inl, inr, arith, length-take}
use Rattle.std.specs.Prelude.{nat_lt, slice_range, bytes_eq}
use Rattle.std.specs.Bool.{Decides}
use Rattle.std.proofs.lemmas.List.{length-reverse, reverse-append, take-take, drop-take, drop_all, take_all, take_more}
use Rattle.std.proofs.lemmas.Bool.{cases_lt}
use Rattle.std.proofs.lemmas.Slice.Eq.{bytes_eq-Decides}
use Rattle.gcx_model.specs.Attributes.{is_fresh}
use Rattle.gcx_model.specs.Fronts.{is_inside}
use Rattle.doc_tokens.specs.OpenNames.{names_of, AreNamesOnly}

as_many : (starts bytes : List ℕ) → length (names_of starts bytes) ≡ length starts
as_many [] bytes = refl
as_many (s ∷ starts) bytes = omega (arith, as_many starts (take s bytes))

-- as many names as places where one begins
pub names_count : (starts bytes : List ℕ) → length (names_of (reverse starts) bytes) ≡ length starts
names_count starts bytes = as_many (reverse starts) bytes ∙ length-reverse starts

inside_count : (ns : List (List ℕ)) → is_inside ns ≡ nat_lt 0 (length ns)
inside_count [] = refl
inside_count (n ∷ ns) = search (arith)

pub names_inside : (starts bytes : List ℕ) → is_inside (names_of (reverse starts) bytes) ≡ nat_lt 0 (length starts)
names_inside starts bytes = inside_count (names_of (reverse starts) bytes) ∙ ap (λ k. nat_lt 0 k) (names_count starts bytes)

-- the name that begins at s and ends at e
name_at : (bytes : List ℕ) (s e : ℕ) → e ≤ length bytes → drop s (take e bytes) ≡ slice_range bytes (min s e) e
name_at bytes s e h =
    elim (cases_lt e s) [
      | inl l ↦
          let least : min s e ≡ e = omega arith in
          let none : e - e ≡ 0 = omega arith in
          drop_all s (take e bytes) (omega (arith, length-take e bytes)) ∙ sym (ap (λ m. take (e - m) (drop m bytes)) least ∙ ap (λ m. take m (drop e bytes)) none)
      | inr l ↦
          let least : min s e ≡ s = omega arith in
          let parts : e ≡ s + (e - s) = omega arith in
          ap (λ m. drop s (take m bytes)) parts ∙ drop-take s (e - s) bytes ∙ sym (ap (λ m. take (e - m) (drop m bytes)) least)
    ]

before_name : (bytes : List ℕ) (s e : ℕ) → e ≤ length bytes → take s (take e bytes) ≡ take (min s e) bytes
before_name bytes s e h =
    elim (cases_lt e s) [
      | inl l ↦
          let least : min s e ≡ e = omega arith in
          take_all s (take e bytes) (omega (arith, length-take e bytes)) ∙ sym (ap (λ m. take m bytes) least)
      | inr l ↦
          let least : min s e ≡ s = omega arith in
          take-take s e bytes l ∙ sym (ap (λ m. take m bytes) least)
    ]

-- the last of the first k + 1 names
pub last_name : (starts bytes : List ℕ) (k e d : ℕ) → k < length starts → e ≤ length bytes → names_of (reverse (take (k + 1) starts)) (take e bytes) ≡ slice_range bytes (min (get_or starts k d) e) e ∷ names_of (reverse (take k starts)) (take (min (get_or starts k d) e) bytes)
last_name starts bytes k e d l h =
    let s = get_or starts k d in
    ap (λ t. names_of (reverse t) (take e bytes)) (take_more starts k d l)
    ∙ ap (λ t. names_of t (take e bytes)) (reverse-append (take k starts) (s ∷ []))
    ∙ ap (λ n. n ∷ names_of (reverse (take k starts)) (take s (take e bytes))) (name_at bytes s e h)
    ∙ ap (λ b. slice_range bytes (min s e) e ∷ names_of (reverse (take k starts)) b) (before_name bytes s e h)

-- ---- no bytes but those of names

pub only_none : (starts bytes : List ℕ) → starts ≡ [] → bytes ≡ [] → AreNamesOnly starts bytes
only_none starts bytes s b = subst (λ ss. AreNamesOnly ss bytes) (sym s) b

pub only_more : (starts bytes new : List ℕ) (n : ℕ) → AreNamesOnly starts bytes → n ≡ length bytes → AreNamesOnly (starts ++ (n ∷ [])) new
only_more [] bytes new n h e = e ∙ ap length h
only_more (s ∷ starts) bytes new n h e = h

pub only_fewer : (starts : List ℕ) (s : ℕ) (bytes : List ℕ) → AreNamesOnly (starts ++ (s ∷ [])) bytes → AreNamesOnly starts (take s bytes)
only_fewer [] s bytes h = ap (λ k. take k bytes) h
only_fewer (x ∷ starts) s bytes h = h

-- whether two names are the same
pub same_decides : (m n : List ℕ) → Decides (bytes_eq m n) (m ≡ n)
same_decides m n = bytes_eq-Decides m n

pub fresh_not : (m n : List ℕ) (ns : List (List ℕ)) → n ≡ m → is_fresh m (n ∷ ns) ≡ false
fresh_not m n ns e = ap (λ b. not b && is_fresh m ns) ((same_decides m n).1 (sym e))

pub fresh_on : (m n : List ℕ) (ns : List (List ℕ)) → (n ≡ m → ⊥) → is_fresh m (n ∷ ns) ≡ is_fresh m ns
fresh_on m n ns e = ap (λ b. not b && is_fresh m ns) (by (bytes_eq m n) refl)
  where
    by : (b : Bool) → bytes_eq m n ≡ b → b ≡ false
    by true f = absurd (e (sym ((same_decides m n).0 f)))
    by false f = refl

-- one name of the search, from the last on
pub looked : (name starts bytes : List ℕ) (k e d s : ℕ) → 0 < k → k ≤ length starts → e ≤ length bytes → s ≡ min (get_or starts (k - 1) d) e → is_fresh name (names_of (reverse (take k starts)) (take e bytes)) ≡ is_fresh name (slice_range bytes s e ∷ names_of (reverse (take (k - 1) starts)) (take s bytes))
looked name starts bytes k e d s p l h is =
    let next : k ≡ (k - 1) + 1 = omega arith in
    ap (λ j. is_fresh name (names_of (reverse (take j starts)) (take e bytes))) next
    ∙ ap (is_fresh name) (last_name starts bytes (k - 1) e d (omega arith) h)
    ∙ ap (λ m. is_fresh name (slice_range bytes m e ∷ names_of (reverse (take (k - 1) starts)) (take m bytes))) (sym is)

-- behind the first list so many of the second
pub take_behind : (xs ys : List ℕ) (n m : ℕ) → m ≡ length xs + n → take m (xs ++ ys) ≡ xs ++ take n ys
take_behind [] ys n m e = let k : m ≡ n = omega arith in ap (λ (z : ℕ). take z ys) k
take_behind (x ∷ xs) ys n zero e = absurd (omega arith)
take_behind (x ∷ xs) ys n (suc m) e = let k : m ≡ length xs + n = omega arith in ap (λ (z : List ℕ). x ∷ z) (take_behind xs ys n m k)
