-- What stands behind the bytes of a character.
use Rattle.std.proofs.Common.{ℕ, ◌≡◌, ◌<◌, Bool, true, false, cond, ◌&&◌, eqb, List, [], ◌∷◌, length, take, None, refl, arith}
use Rattle.std.specs.Cmp.Lexicographic.{pointwise}
use Rattle.std.proofs.lemmas.Bool.{true≢false}
use lib.Utf8.{encode}
use Rattle.doc_laws.specs.Machine.{State, behind, on_end, to_end_name}

-- bytes that don't begin a list
pub not_behind : (xs ys : List ℕ) → pointwise eqb xs (take (length xs) ys) ≡ false → behind xs ys ≡ None
not_behind [] [] h = absurd (true≢false h)
not_behind [] (y ∷ ys) h = absurd (true≢false h)
not_behind (x ∷ xs) [] h = refl
not_behind (x ∷ xs) (y ∷ ys) h =
    elim (eqb x y) as (λ (b : Bool). b && pointwise eqb xs (take (length xs) ys) ≡ false → cond b (behind xs ys) None ≡ None) [
      | true ↦ λ h. not_behind xs ys h
      | false ↦ λ h. refl
    ] h

-- inside the innermost element's name
pub inside_name : (s : State) (left : List ℕ) (c : ℕ) → 0 < length left → on_end s left c ≡ to_end_name s (behind (encode c) left)
inside_name s [] c h = absurd (omega arith)
inside_name s (x ∷ left) c h = refl
