-- Numbered variables, and tables with an entry for each of them.
use Rattle.std.proofs.Common.{ℕ, zero, suc, ◌≡◌, ◌+◌, ◌==◌, Bool, true, false, cond, List, [], ◌∷◌, ◌++◌, map, length, get_or, refl, ap, ◌∙◌, subst, arith}
use Rattle.std.proofs.lemmas.Bool.{eqb-true, eq-eqb, ne_eqb}
use Rattle.gcx_model.specs.Members.{count}

-- they are numbered from k on
abbrev pub Counts : ℕ → List ℕ → Type 0
Counts k [] = Unit {0}
Counts k (x ∷ xs) = (x ≡ k) × Counts (suc k) xs

pub counts : (k : ℕ) (xs : List ℕ) → xs ≡ count k (length xs) → Counts k xs
counts k [] e = tt
counts k (x ∷ xs) e = (cc, counts (suc k) xs (cc))

pub counts_left : (k : ℕ) (xs ys : List ℕ) → Counts k (xs ++ ys) → Counts k xs
counts_left k [] ys c = tt
counts_left k (x ∷ xs) ys c = (c.0, counts_left (suc k) xs ys c.1)

pub counts_right : (k j : ℕ) (xs ys : List ℕ) → j ≡ k + length xs → Counts k (xs ++ ys) → Counts j ys
counts_right k j [] ys e c = let g : k ≡ j = omega arith in subst (λ (n : ℕ). Counts n ys) g c
counts_right k j (x ∷ xs) ys e c = counts_right (suc k) j xs ys (omega arith) c.1

-- an entry for each number from 1, and one for 0
abbrev pub look : {X : Type 0} → X → List X → ℕ → X
look d xs zero = d
look d xs (suc k) = get_or xs k d

suc_eq : (a b : ℕ) → (suc a == suc b) ≡ (a == b)
suc_eq a b = go (a == b) refl
  where
    go : (c : Bool) → (a == b) ≡ c → (suc a == suc b) ≡ c
    go true e = eq-eqb (suc a) (suc b) (ap suc (eqb-true a b e))
    go false e = ne_eqb (suc a) (suc b) (λ h. let g : a ≡ b = omega arith in let w : (a == b) ≡ true = eq-eqb a b g in absurd (cc))

at_end : {X : Type 0} (xs : List X) (v d : X) (k : ℕ) → cond (k == length xs) v (get_or xs k d) ≡ get_or (xs ++ v ∷ []) k d
at_end [] v d zero = refl
at_end [] v d (suc k) = ap (λ b. cond b v d) (ne_eqb (suc k) 0 (λ h. omega arith))
at_end (x ∷ xs) v d zero = ap (λ b. cond b v x) (ne_eqb 0 (suc (length xs)) (λ h. omega arith))
at_end (x ∷ xs) v d (suc k) = ap (λ b. cond b v (get_or xs k d)) (suc_eq k (length xs)) ∙ at_end xs v d k

-- one entry more
pub look_more : {X : Type 0} (d : X) (xs : List X) (v : X) (y : ℕ) → cond (y == suc (length xs)) v (look d xs y) ≡ look d (xs ++ v ∷ []) y
look_more d xs v zero = ap (λ b. cond b v d) (ne_eqb 0 (suc (length xs)) (λ h. omega arith))
look_more d xs v (suc k) = ap (λ b. cond b v (get_or xs k d)) (suc_eq k (length xs)) ∙ at_end xs v d k

pub look_map : {X Y : Type 0} (f : X → Y) (d : X) (xs : List X) (y : ℕ) → look (f d) (map f xs) y ≡ f (look d xs y)
look_map f d xs zero = refl
look_map f d [] (suc k) = refl
look_map f d (x ∷ xs) (suc zero) = refl
look_map f d (x ∷ xs) (suc (suc k)) = look_map f d xs (suc k)

at_front : {X : Type 0} (fs xs : List X) (x d : X) → get_or (fs ++ x ∷ xs) (length fs) d ≡ x
at_front [] xs x d = refl
at_front (y ∷ fs) xs x d = at_front fs xs x d

seam : {X : Type 0} (fs xs : List X) (x : X) → fs ++ x ∷ xs ≡ (fs ++ x ∷ []) ++ xs
seam [] xs x = refl
seam (y ∷ fs) xs x = ap (λ zs. y ∷ zs) (seam fs xs x)

longer : {X : Type 0} (fs : List X) (x : X) → length (fs ++ x ∷ []) ≡ suc (length fs)
longer [] x = refl
longer (y ∷ fs) x = ap suc (longer fs x)

-- the entries of the numbers behind a front
at_counts : {X Y : Type 0} (f : X → Y) (d : X) (front xs : List X) (n k : ℕ) → n ≡ length xs → k ≡ suc (length front) → map (λ y. f (look d (front ++ xs) y)) (count k n) ≡ map f xs
at_counts f d front [] zero k e g = refl
at_counts f d front [] (suc n) k e g = absurd (omega arith)
at_counts f d front (x ∷ xs) zero k e g = absurd (omega arith)
at_counts f d front (x ∷ xs) (suc n) k e g =
    let here : look d (front ++ x ∷ xs) k ≡ x = ap (look d (front ++ x ∷ xs)) g ∙ at_front front xs x d in
    let there : map (λ y. f (look d (front ++ x ∷ xs) y)) (count (suc k) n) ≡ map f xs =
    (λ i. map (λ y. f (look d (seam front xs x i) y)) (count (suc k) n)) ∙ at_counts f d (front ++ x ∷ []) xs n (suc k) (omega arith) (omega (arith, longer front x)) in
    (λ i. f (here i) ∷ there i)

pub all_entries : {X Y : Type 0} (f : X → Y) (d : X) (xs : List X) → map (λ y. f (look d xs y)) (count 1 (length xs)) ≡ map f xs
all_entries f d xs = at_counts f d [] xs (length xs) 1 refl refl
