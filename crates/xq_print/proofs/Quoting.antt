-- A string, character by character.
use Rattle.std.proofs.Common.{ℕ, ◌≡◌, List, [], ◌∷◌, ◌++◌, flat_map, map, refl, ap, ◌∙◌, append-nil}
use Rattle.std.specs.Str.{encode_utf8_all}
use Rattle.std.proofs.lemmas.Str.{encodes-append}
use Rattle.std.proofs.lemmas.Grind.{flat_map-append}
use Rattle.xq_print.specs.Literals.{quoted}

-- the bytes of the characters so far
abbrev pub quotes : List ℕ → List ℕ
quotes cs = encode_utf8_all (flat_map quoted cs)

pub quotes_more : (cs : List ℕ) (c : ℕ) → quotes (cs ++ c ∷ []) ≡ quotes cs ++ encode_utf8_all (quoted c)
quotes_more cs c =
    ap encode_utf8_all (flat_map-append quoted cs (c ∷ []) ∙ ap (λ (x : List ℕ). flat_map quoted cs ++ x) (append-nil (quoted c)))
    ∙ encodes-append (flat_map quoted cs) (quoted c)

pub same_items : (cs : List ℕ) → map (λ c. c) cs ≡ cs
same_items [] = refl
same_items (c ∷ cs) = ap (λ (x : List ℕ). c ∷ x) (same_items cs)
