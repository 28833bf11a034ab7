-- Where names stand first, as they come and go.
use Rattle.std.proofs.Common.{ℕ, suc, ◌≡◌, ◌<◌, ◌+◌, Bool, true, false, ◌||◌, if◌then◌else◌, List, [], ◌∷◌, ◌++◌, length, reverse, Option, Some, None, bytes_eq, refl, sym, ap, ◌∙◌, arith}
use Rattle.std.specs.Option.{is_some}
use Rattle.std.proofs.lemmas.Bool.{ne_eqb, eq-eqb}
use Rattle.gcx_model.specs.Paths.{any}
use Rattle.xq_parse.specs.Bindings.{first_from, first_of, place_or_else, unless_at}

-- the place of the name n, if it is q
abbrev last : (at : ℕ) (q n : List ℕ) → Option ℕ
last at q n = if bytes_eq q n then Some at else None

more_from : (at : ℕ) (q : List ℕ) (ns : List (List ℕ)) (n : List ℕ) → first_from at q (ns ++ n ∷ []) ≡ place_or_else (first_from at q ns) (last (at + length ns) q n)
more_from at q [] n = ap (λ (k : ℕ). last k q n) (omega arith)
more_from at q (m ∷ ns) n = go (bytes_eq q m) (more_from (suc at) q ns n ∙ ap (λ (k : ℕ). place_or_else (first_from (suc at) q ns) (last k q n)) (omega arith))
  where
    go : (b : Bool) → first_from (suc at) q (ns ++ n ∷ []) ≡ place_or_else (first_from (suc at) q ns) (last (at + length (m ∷ ns)) q n) →
        (if b then Some at else first_from (suc at) q (ns ++ n ∷ [])) ≡ place_or_else (if b then Some at else first_from (suc at) q ns) (last (at + length (m ∷ ns)) q n)
    go true e = refl
    go false e = e

one_more : (q : List ℕ) (ns : List (List ℕ)) (n : List ℕ) → first_of q (ns ++ n ∷ []) ≡ place_or_else (first_of q ns) (last (length ns) q n)
one_more q ns n = more_from 0 q ns n ∙ ap (λ (k : ℕ). place_or_else (first_of q ns) (last k q n)) (omega arith)

below : (at : ℕ) (q : List ℕ) (ns : List (List ℕ)) (k : ℕ) → first_from at q ns ≡ Some k → k < at + length ns
below at q [] k e = absurd cc
below at q (m ∷ ns) k e = go (bytes_eq q m) e (below (suc at) q ns k)
  where
    go : (b : Bool) → (if b then Some at else first_from (suc at) q ns) ≡ Some k → (first_from (suc at) q ns ≡ Some k → k < suc at + length ns) → k < at + length (m ∷ ns)
    go true h f = let s : at ≡ k = cc in omega arith
    go false h f = let s = f h in omega arith

found : (at : ℕ) (q : List ℕ) (ns : List (List ℕ)) → is_some (first_from at q ns) ≡ any (bytes_eq q) ns
found at q [] = refl
found at q (m ∷ ns) = go (bytes_eq q m) (found (suc at) q ns)
  where
    go : (b : Bool) → is_some (first_from (suc at) q ns) ≡ any (bytes_eq q) ns → is_some (if b then Some at else first_from (suc at) q ns) ≡ b || any (bytes_eq q) ns
    go true e = refl
    go false e = e

-- a name has a place where it is among them, however they are ordered
pub is_bound : (q : List ℕ) (ns : List (List ℕ)) → any (bytes_eq q) ns ≡ any (bytes_eq q) (reverse ns) → is_some (first_of q ns) ≡ any (bytes_eq q) (reverse ns)
is_bound q ns e = found 0 q ns ∙ e

-- behind one name more
pub comes : (f g : List ℕ → Option ℕ) (ns all : List (List ℕ)) (n : List ℕ) (place : ℕ) → all ≡ ns ++ n ∷ [] → place ≡ length ns → ((q : List ℕ) → f q ≡ first_of q ns) →
    ((q : List ℕ) → g q ≡ place_or_else (f q) (last place q n)) → (q : List ℕ) → g q ≡ first_of q all
comes f g ns all n place a p h put q = put q ∙ (λ i. place_or_else (h q i) (last (p i) q n)) ∙ sym (one_more q ns n) ∙ ap (first_of q) (sym a)

-- and without it again
pub goes : (f g : List ℕ → Option ℕ) (all ns : List (List ℕ)) (n : List ℕ) (place : ℕ) → all ≡ ns ++ n ∷ [] → place ≡ length ns → ((q : List ℕ) → f q ≡ first_of q all) →
    ((q : List ℕ) → g q ≡ (if bytes_eq q n then unless_at place (f q) else f q)) → (q : List ℕ) → g q ≡ first_of q ns
goes f g all ns n place a p h taken q =
    taken q ∙ (λ i. if bytes_eq q n then unless_at (p i) (before i) else before i) ∙ go (first_of q ns) (below 0 q ns) (bytes_eq q n)
  where
    before : f q ≡ place_or_else (first_of q ns) (last (length ns) q n)
    before = h q ∙ ap (first_of q) a ∙ one_more q ns n

    go : (o : Option ℕ) → ((k : ℕ) → o ≡ Some k → k < 0 + length ns) → (b : Bool) →
        (if b then unless_at (length ns) (place_or_else o (if b then Some (length ns) else None)) else place_or_else o (if b then Some (length ns) else None)) ≡ o
    go None less true = ap (λ (b : Bool). if b then None else Some (length ns)) (eq-eqb (length ns) (length ns) refl)
    go None less false = refl
    go (Some k) less true = ap (λ (b : Bool). if b then None else Some k) (ne_eqb k (length ns) (λ e. let s = less k refl in omega arith))
    go (Some k) less false = refl
