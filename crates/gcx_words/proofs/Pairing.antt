-- Words in pairs, one pair after the other.
use Rattle.std.proofs.Common.{◌≡◌, ℕ, zero, suc, ◌+◌, ◌<◌, ◌≤◌, List, [], ◌∷◌, ◌++◌, drop, get_or, length, map, refl, sym, ◌∙◌, ap, append_assoc, arith}
use Rattle.std.proofs.lemmas.List.{append-nil, drop_more}
use Rattle.gcx_words.specs.Pairs.{paired}
use Rattle.gcx_words.specs.declared.pairs.Pair.{Pair}

module _ {X : Type 0} (f : X → List ℕ) where
  -- the pair at a place, and those behind it
  pair_next : (xs : List X) (k : ℕ) (d : X) → k + 1 < length xs → paired (map f (drop k xs)) ≡ record { query = f (get_or xs k d); out = f (get_or xs (k + 1) d) } ∷ paired (map f (drop (k + 2) xs))
  pair_next xs k d l =
      let x = get_or xs k d in
      let y = get_or xs (k + 1) d in
      let p : Pair = record { query = f x; out = f y } in
      let first : drop k xs ≡ x ∷ drop (k + 1) xs = drop_more xs k d (omega (arith, l)) in
      let second : drop (k + 1) xs ≡ y ∷ drop (k + 1 + 1) xs = drop_more xs (k + 1) d l in
      let two : k + 1 + 1 ≡ k + 2 = omega arith in
      ap (λ (zs : List X). paired (map f zs)) (first ∙ ap (λ (zs : List X). x ∷ zs) second) ∙ ap (λ (n : ℕ). p ∷ paired (map f (drop n xs))) two

  -- one more was put behind those so far
  pub pair_more : (xs : List X) (k : ℕ) (d : X) (ps qs : List Pair) (p : Pair) → k + 1 < length xs → qs ≡ ps ++ p ∷ [] → p ≡ record { query = f (get_or xs k d); out = f (get_or xs (k + 1) d) }
      → ps ++ paired (map f (drop k xs)) ≡ paired (map f xs) → qs ++ paired (map f (drop (k + 2) xs)) ≡ paired (map f xs)
  pair_more xs k d ps qs p l pushed pair built =
      let rest = paired (map f (drop (k + 2) xs)) in
      ap (λ (z : List Pair). z ++ rest) pushed ∙ (append_assoc ps (p ∷ []) rest ∙ (ap (λ (z : Pair). ps ++ z ∷ rest) pair ∙ (ap (λ (z : List Pair). ps ++ z) (sym (pair_next xs k d l)) ∙ built)))

  -- behind the last word but one there is no pair
  pair_end : (k : ℕ) (xs : List X) → length xs ≤ k + 1 → paired (map f (drop k xs)) ≡ []
  pair_end zero [] l = refl
  pair_end zero (x ∷ []) l = refl
  pair_end zero (x ∷ (y ∷ xs)) l = absurd (omega (arith, l))
  pair_end (suc k) [] l = refl
  pair_end (suc k) (x ∷ xs) l = pair_end k xs (omega (arith, l))

  pub pairs_all : (xs : List X) (k : ℕ) (ps : List Pair) → length xs ≤ k + 1 → ps ++ paired (map f (drop k xs)) ≡ paired (map f xs) → ps ≡ paired (map f xs)
  pairs_all xs k ps l built = sym (append-nil ps) ∙ (ap (λ (z : List Pair). ps ++ z) (sym (pair_end k xs l)) ∙ built)
