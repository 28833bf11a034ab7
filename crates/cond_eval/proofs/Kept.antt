-- Lists of what is kept of questions: a look-up, a new entry, an entry that changes.
use Rattle.std.proofs.Common.{◌≡◌, ◌<◌, ◌≤◌, ◌+◌, ◌⊎◌, ℕ, zero, suc, List, [], ◌∷◌, ◌++◌, length, map, refl, sym, ◌∙◌, ap, subst, inl, inr, arith}
use Rattle.std.specs.Prelude.{slice_index_or, slice_set}
use Rattle.std.proofs.lemmas.Bool.{cases_lt}
use Rattle.std.proofs.lemmas.List.{map-append}
use Rattle.gcx_model.specs.Members.{In, Once}
use Rattle.tree_laws.proofs.Chains.{Once-append}

module _ {X : Type 0} where
  -- the entry of this number
  abbrev pub Stands : List X → ℕ → X → Type 0
  Stands xs i x = (i < length xs) × (x ≡ slice_index_or xs i x)

  pub same_entry : (xs : List X) (i : ℕ) (x y : X) → Stands xs i x → Stands xs i y → x ≡ y
  same_entry [] i x y a b = let low = a.0 in absurd (omega arith)
  same_entry (z ∷ xs) zero x y a b = a.1 ∙ sym b.1
  same_entry (z ∷ xs) (suc i) x y a b = let low = a.0 in same_entry xs i x y (omega arith, a.1) (omega arith, b.1)

-- ---- one is looked for

module _ {X K : Type 0} (key : X → K) where
  pub key_in : (xs : List X) (i : ℕ) (x : X) (k : K) → Stands xs i x → key x ≡ k → In k (map key xs)
  key_in [] i x k a e = let low = a.0 in absurd (omega arith)
  key_in (y ∷ xs) zero x k a e = inl (ap key (sym a.1) ∙ e)
  key_in (y ∷ xs) (suc i) x k a e = let low = a.0 in inr (key_in xs i x k (omega arith, a.1) e)

  -- none of the first n has this key
  abbrev pub NoneBelow : List X → (n : ℕ) → K → Type 0
  NoneBelow xs n k = (i : ℕ) (x : X) → i < n → Stands xs i x → key x ≡ k → ⊥

  pub none_more : (xs : List X) (n : ℕ) (x : X) (k : K) → Stands xs n x → (key x ≡ k → ⊥) → NoneBelow xs n k → NoneBelow xs (n + 1) k
  none_more xs n x k at other none i y l a e = go (cases_lt i n)
    where
      go : (i < n) ⊎ (n ≤ i) → ⊥
      go (inl m) = none i y m a e
      go (inr m) =
          let same : i ≡ n = omega arith in
          other (ap key (same_entry xs n x y at (at.0, subst (λ (j : ℕ). y ≡ slice_index_or xs j y) same a.1)) ∙ e)

  pub none_in : (xs : List X) (n : ℕ) (k : K) → length xs ≤ n → NoneBelow xs n k → In k (map key xs) → ⊥
  none_in [] n k l none i = i
  none_in (y ∷ xs) n k l none (inl e) = none zero y (omega arith) (omega arith, refl) e
  none_in (y ∷ xs) n k l none (inr j) = none_in xs (length xs) k (omega arith) (λ i x m a e. let low = a.0 in none (suc i) x (omega arith) (omega arith, a.1) e) j

  -- ---- one comes, or changes

  pub keys_push : (xs : List X) (x : X) → map key (xs ++ x ∷ []) ≡ map key xs ++ key x ∷ []
  keys_push xs x = map-append key xs (x ∷ [])

  pub once_push : (xs : List X) (x : X) → (In (key x) (map key xs) → ⊥) → Once (map key xs) → Once (map key (xs ++ x ∷ []))
  once_push xs x none once =
      subst Once (sym (keys_push xs x))
      (Once-append (map key xs) (key x ∷ []) once ((λ i. i), tt) (λ k i j. elim j [ inl e ↦ none (subst (λ (z : K). In z (map key xs)) (sym e) i) | inr n ↦ n ]))

  pub keys_set : (xs : List X) (i : ℕ) (x w : X) → Stands xs i x → key w ≡ key x → map key (slice_set xs i w) ≡ map key xs
  keys_set [] i x w a e = refl
  keys_set (y ∷ xs) zero x w a e = ap (λ (k : K). k ∷ map key xs) (e ∙ ap key a.1)
  keys_set (y ∷ xs) (suc i) x w a e = let low = a.0 in ap (λ (ks : List K). key y ∷ ks) (keys_set xs i x w (omega arith, a.1) e)
