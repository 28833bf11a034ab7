-- When two lists of bytes are the same.
use Rattle.std.proofs.Common.{◌≡◌, ◌↔◌, ◌<◌, ◌≤◌, ◌⊎◌, ℕ, Bool, true, false, List, length, get_or, bytes_eq, IsTrue, ap, inl, inr, nat_le, refl}
use Rattle.std.proofs.lemmas.List.{ext_get_or}
use Rattle.std.proofs.lemmas.Bool.{leb-true, leb-false}
use Rattle.std.proofs.lemmas.Bool.Decides.{same_from_decides}
use Rattle.std.proofs.lemmas.Slice.Eq.{bytes_eq-Decides}

-- the same before n, and tested from there on
pub same_behind : (xs ys : List ℕ) (n : ℕ) (b : Bool) → length xs ≡ length ys → ((k : ℕ) → k < n → get_or xs k 0 ≡ get_or ys k 0)
    → (IsTrue b ↔ ((k : ℕ) → n ≤ k → k < length xs → get_or xs k 0 ≡ get_or ys k 0)) → b ≡ bytes_eq xs ys
same_behind xs ys n b long front rest = same_from_decides b (bytes_eq xs ys) (whole, λ e. rest.1 (λ k h i. ap (λ zs. get_or zs k 0) e)) (bytes_eq-Decides xs ys)
  where
    each : b ≡ true → (k : ℕ) → k < length xs → (k < n) ⊎ (n ≤ k) → get_or xs k 0 ≡ get_or ys k 0
    each t k h (inl i) = front k i
    each t k h (inr i) = rest.0 t k i h

    side : (k : ℕ) (c : Bool) → nat_le n k ≡ c → (k < n) ⊎ (n ≤ k)
    side k true e = inr (leb-true n k e)
    side k false e = inl (leb-false n k e)

    whole : b ≡ true → xs ≡ ys
    whole t = ext_get_or 0 xs ys long (λ k h. each t k h (side k (nat_le n k) refl))
