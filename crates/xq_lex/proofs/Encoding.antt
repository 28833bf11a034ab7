-- Characters and their bytes.
use Rattle.std.proofs.Common.{ℕ, zero, suc, ◌≡◌, ◌+◌, ◌<◌, List, [], ◌∷◌, ◌++◌, length, take, drop, get_or, sym, ap, ◌∙◌, arith, length-append, add-one, append-nil}
use Rattle.std.specs.Char.{encode_utf8}
use Rattle.std.specs.Str.{encode_utf8_all}
use Rattle.std.proofs.lemmas.List.{take-append-drop}
use Rattle.std.proofs.lemmas.Str.{encodes-append}

one_more : (cs : List ℕ) (i c : ℕ) → i < length cs → c ≡ get_or cs i c → take (suc i) cs ≡ take i cs ++ c ∷ []
one_more [] i c h e = absurd (omega arith)
one_more (d ∷ ds) zero c h e = ap (λ (x : ℕ). x ∷ []) (sym e)
one_more (d ∷ ds) (suc i) c h e = ap (λ (x : List ℕ). d ∷ x) (one_more ds i c (omega arith) e)

-- one character more
pub take_more : (cs : List ℕ) (i c : ℕ) → i < length cs → c ≡ get_or cs i c → take (i + 1) cs ≡ take i cs ++ c ∷ []
take_more cs i c h e = ap (λ n. take n cs) (add-one i) ∙ one_more cs i c h e

pub encode_more : (xs : List ℕ) (c : ℕ) → encode_utf8_all (xs ++ c ∷ []) ≡ encode_utf8_all xs ++ encode_utf8 c
encode_more xs c = encodes-append xs (c ∷ []) ∙ ap (λ (x : List ℕ). encode_utf8_all xs ++ x) (append-nil (encode_utf8 c))

pub encode_step : (cs : List ℕ) (i c : ℕ) → i < length cs → c ≡ get_or cs i c → encode_utf8_all (take (i + 1) cs) ≡ encode_utf8_all (take i cs) ++ encode_utf8 c
encode_step cs i c h e = ap encode_utf8_all (take_more cs i c h e) ∙ encode_more (take i cs) c

-- the bytes of both parts
pub split_size : (n : ℕ) (cs : List ℕ) → length (encode_utf8_all (take n cs)) + length (encode_utf8_all (drop n cs)) ≡ length (encode_utf8_all cs)
split_size n cs =
    sym (length-append (encode_utf8_all (take n cs)) (encode_utf8_all (drop n cs)))
    ∙ ap length (sym (encodes-append (take n cs) (drop n cs)) ∙ ap encode_utf8_all (take-append-drop n cs))

pub parts_size : (text part rest : List ℕ) (n : ℕ) → part ≡ take n text → rest ≡ drop n text → length (encode_utf8_all part) + length (encode_utf8_all rest) ≡ length (encode_utf8_all text)
parts_size text part rest n e h = (λ i. length (encode_utf8_all (e i)) + length (encode_utf8_all (h i))) ∙ split_size n text

pub size_step : (cs : List ℕ) (i c : ℕ) → i < length cs → c ≡ get_or cs i c → length (encode_utf8_all (take (i + 1) cs)) ≡ length (encode_utf8_all (take i cs)) + length (encode_utf8 c)
size_step cs i c h e = ap length (encode_step cs i c h e) ∙ length-append (encode_utf8_all (take i cs)) (encode_utf8 c)
