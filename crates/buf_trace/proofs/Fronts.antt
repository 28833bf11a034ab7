-- What stood in front stays in front.
use Rattle.std.proofs.Common.{◌≡◌, ℕ, List, [], ◌∷◌, ◌++◌, length, take, ap, ◌∙◌, refl}

pub front_kept : (a x c : List ℕ) → take (length (a ++ x)) c ≡ a ++ x → take (length a) c ≡ a
front_kept [] x c h = refl
front_kept (y ∷ a) x [] h = absurd (cc)
front_kept (y ∷ a) x (z ∷ c) h =
    let same : z ≡ y = cc in
    let rest : take (length (a ++ x)) c ≡ a ++ x = cc in
    ap (λ w. w ∷ take (length a) c) same ∙ ap (λ w. y ∷ w) (front_kept a x c rest)
