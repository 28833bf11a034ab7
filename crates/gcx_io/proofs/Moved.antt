-- What a read moves.
use Rattle.std.proofs.Common.{◌≡◌, ℕ, ◌+◌, ◌-◌, ◌<◌, ◌≤◌, min, List, [], ◌++◌, take, drop, length, sym, ◌∙◌, ap, arith}
use Rattle.std.proofs.lemmas.List.{take-append-drop, take_at, take_all, length-take-le, length-drop, drop-drop, drop_all}

-- the front of the rest, and what is left then
pub front_of : (rest buf now : List ℕ) (n most : ℕ) → 0 < most → 0 < length buf → n ≡ min (min (length rest) (length buf)) most → now ≡ take n rest ++ drop n buf
    → (rest ≡ take n now ++ drop n rest) × (n ≡ 0 → drop n rest ≡ [])
front_of rest buf now n most some room count moved =
    let fits : n ≤ length rest = omega arith in
    let front : take n now ≡ take n rest = ap (λ (l : List ℕ). take n l) moved ∙ take_at (take n rest) (drop n buf) n (length-take-le n rest fits) in
    (sym (rw front (take-append-drop n rest)), λ none. drop_all n rest (omega arith))

pub front_moved : (bytes buf now : List ℕ) (at n most : ℕ) → 0 < most → 0 < length buf
    → n ≡ min (min (length (take (length bytes - at) (drop at bytes))) (length buf)) most
    → now ≡ take n (take (length bytes - at) (drop at bytes)) ++ drop n buf
    → (drop at bytes ≡ take n now ++ drop (at + n) bytes) × (n ≡ 0 → 0 < length now → drop (at + n) bytes ≡ [])
front_moved bytes buf now at n most some room count moved =
    let whole : take (length bytes - at) (drop at bytes) ≡ drop at bytes = take_all _ _ (omega (arith, length-drop at bytes)) in
    let count' : n ≡ min (min (length (drop at bytes)) (length buf)) most = count ∙ ap (λ (l : List ℕ). min (min (length l) (length buf)) most) whole in
    let moved' : now ≡ take n (drop at bytes) ++ drop n buf = moved ∙ ap (λ (l : List ℕ). take n l ++ drop n buf) whole in
    let front = front_of (drop at bytes) buf now n most some room count' moved' in
    (front.0 ∙ ap (λ (l : List ℕ). take n now ++ l) (drop-drop n at bytes), λ none some_room. sym (drop-drop n at bytes) ∙ front.1 none)
