-- The numbers from one on.
use Rattle.std.proofs.Common.{◌≡◌, ℕ, zero, suc, ◌+◌, ◌<◌, ◌≤◌, subst, inl, inr, arith}
use Rattle.gcx_model.specs.Members.{In, Once, count}

pub in_count : (k n j : ℕ) → j < n → In (k + j) (count k n)
in_count k zero j l = absurd (omega arith)
in_count k (suc n) zero l = inl (omega arith)
in_count k (suc n) (suc j) l = let e : suc k + j ≡ k + suc j = omega arith in inr (subst (λ (z : ℕ). In z (count (suc k) n)) e (in_count (suc k) n j (omega arith)))

pub count_low : (k n z : ℕ) → In z (count k n) → k ≤ z
count_low k zero z i = absurd i
count_low k (suc n) z (inl e) = omega arith
count_low k (suc n) z (inr i) = let h = count_low (suc k) n z i in omega arith

pub count_high : (k n z : ℕ) → In z (count k n) → z < k + n
count_high k zero z i = absurd i
count_high k (suc n) z (inl e) = omega arith
count_high k (suc n) z (inr i) = let h = count_high (suc k) n z i in omega arith

pub once_count : (k n : ℕ) → Once (count k n)
once_count k zero = tt
once_count k (suc n) = (λ i. let h = count_low (suc k) n k i in absurd (omega arith), once_count (suc k) n)
