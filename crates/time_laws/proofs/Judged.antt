-- Answers exclude each other; line ends and lines.
use Rattle.std.proofs.Common.{◌≡◌, ℕ, suc, ◌+◌, Bool, false, List, [], ◌∷◌, ◌++◌, length, refl, sym, ◌∙◌, ap, subst, inl, inr, arith}
use Rattle.std.specs.List.{filter}
use Rattle.std.proofs.lemmas.Bool.{true≢false, ne_eqb}
use Rattle.std.proofs.lemmas.List.{append-nil, length-append}
use Rattle.std.proofs.lemmas.List.Elements.{filter-append}
use Rattle.gcx_model.specs.Demand.{line_text, text_of_lines}
use Rattle.tree_laws.proofs.Lists.{In, filter_none}
use Rattle.tree_laws.proofs.Spelling.{text_free}
use Rattle.time_laws.specs.Checking.{is_line_end, line_ends, IsFront, fitted, IsCommon, Yes, No, ReadFault, Memory, IsAnother, LineEnds, OneAnswer}

ends-append : (xs ys : List ℕ) → line_ends (xs ++ ys) ≡ line_ends xs + line_ends ys
ends-append xs ys = ap length (filter-append is_line_end xs ys) ∙ length-append (filter is_line_end xs) (filter is_line_end ys)

pub line_ends_law : LineEnds
line_ends_law [] h = refl
line_ends_law (l ∷ ls) h =
    let none : filter is_line_end (line_text l) ≡ [] = filter_none is_line_end (line_text l) (λ b i. ne_eqb b 10 (λ e. text_free l (h l (inl refl)) (subst (λ (z : ℕ). In z (line_text l)) e i))) in
    let a : line_ends (line_text l ++ 10 ∷ []) ≡ 1 = ends-append (line_text l) (10 ∷ []) ∙ (ap (λ z. length z + 1) none) in
    let b = ends-append (line_text l ++ 10 ∷ []) (text_of_lines ls) in
    let ih = line_ends_law ls (λ m i. h m (inr i)) in
    omega (arith, a, b, ih)

-- two fronts of one text of the same length are the same
same_front : (xs ys u v : List ℕ) → length xs ≡ length ys → xs ++ u ≡ ys ++ v → xs ≡ ys
same_front [] [] u v l e = refl
same_front [] (y ∷ ys) u v l e = absurd (omega (arith, l))
same_front (x ∷ xs) [] u v l e = absurd (omega (arith, l))
same_front (x ∷ xs) (y ∷ ys) u v l e = let f : xs ++ u ≡ ys ++ v = cc in let g : x ≡ y = cc in rw (g, same_front xs ys u v (omega (arith, l)) f) refl

common_same : (text given c d : List ℕ) → IsCommon text given c → IsCommon text given d → c ≡ d
common_same text given c d h k =
    let a = h.longest d k.of_text k.of_given in
    let b = k.longest c h.of_text h.of_given in
    same_front c d h.of_text.0 k.of_text.0 (omega (arith, a, b)) (sym h.of_text.1 ∙ k.of_text.1)

not_another : (text given : List ℕ) (ended : Bool) → given ≡ text → IsAnother text given ended → ⊥
not_another text given ended e (inl h) = h ([], sym (append-nil given ∙ e))
not_another text given ended e (inr h) = h.2 e

no_fault : (text given : List ℕ) (ended : Bool) → ended ≡ false → IsFront given text → IsAnother text given ended → ⊥
no_fault text given ended e f (inl h) = h f
no_fault text given ended e f (inr h) = true≢false (sym h.0 ∙ e)

pub one_answer : OneAnswer
one_answer text given ended (Yes l) (Yes m) p q h k = ap Yes (h.2 ∙ sym k.2)
one_answer text given ended (Yes l) (No n) p q h k = absurd (not_another text given ended h.1 k.0)
one_answer text given ended (Yes l) ReadFault p q h k = absurd (true≢false (sym h.0 ∙ k.0))
one_answer text given ended (Yes l) Memory p q h k = absurd (q refl)
one_answer text given ended (No n) (Yes l) p q h k = absurd (not_another text given ended k.1 h.0)
one_answer text given ended (No n) (No m) p q h k = ap No (h.1.2 ∙ (ap (λ z. fitted (suc (line_ends z))) (common_same text given h.1.0 k.1.0 h.1.1 k.1.1) ∙ sym k.1.2))
one_answer text given ended (No n) ReadFault p q h k = absurd (no_fault text given ended k.0 k.1 h.0)
one_answer text given ended (No n) Memory p q h k = absurd (q refl)
one_answer text given ended ReadFault (Yes l) p q h k = absurd (true≢false (sym k.0 ∙ h.0))
one_answer text given ended ReadFault (No n) p q h k = absurd (no_fault text given ended h.0 h.1 k.0)
one_answer text given ended ReadFault ReadFault p q h k = refl
one_answer text given ended ReadFault Memory p q h k = absurd (q refl)
one_answer text given ended Memory b p q h k = absurd (p refl)
