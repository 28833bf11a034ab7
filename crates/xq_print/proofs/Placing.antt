-- The pieces of a query as the tokens of its grammar, which stand at these places.
use Rattle.std.proofs.Common.{ℕ, ◌≡◌, List, [], ◌∷◌, ◌++◌, map, refl, sym, ap, ◌∙◌}
use Rattle.xq_lex.specs.declared.token.Tok.{Tok}
use Rattle.xq_lex.specs.declared.token.TokKind.{TokKind}
use Rattle.xq_parse.specs.Tokens.{Token, token_at, tokens_of}
use Rattle.xq_print.proofs.Pieces.{Piece, put, blank, kinds_of}

-- the first place, and those behind it
abbrev pub place : List ℕ → ℕ
place [] = 0
place (p ∷ ps) = p

abbrev pub later : List ℕ → List ℕ
later [] = []
later (p ∷ ps) = ps

-- the places that these pieces leave
abbrev pub behind : List Piece → List ℕ → List ℕ
behind [] ps = ps
behind (put k ∷ xs) ps = behind xs (later ps)
behind (blank ∷ xs) ps = behind xs ps

abbrev pub placed : List ℕ → List Piece → List Token
placed ps [] = []
placed ps (put k ∷ xs) = token_at (place ps) k ∷ placed (later ps) xs
placed ps (blank ∷ xs) = placed ps xs

placed_join : (ps : List ℕ) (xs ys : List Piece) → placed ps (xs ++ ys) ≡ placed ps xs ++ placed (behind xs ps) ys
placed_join ps [] ys = refl
placed_join ps (put k ∷ xs) ys = ap (λ (ts : List Token). token_at (place ps) k ∷ ts) (placed_join (later ps) xs ys)
placed_join ps (blank ∷ xs) ys = placed_join ps xs ys

-- one part behind the other
pub in_place : (ps : List ℕ) (xs ys : List Piece) {s t : List Token} → s ≡ placed ps xs → t ≡ placed (behind xs ps) ys → s ++ t ≡ placed ps (xs ++ ys)
in_place ps xs ys e f = (λ i. e i ++ f i) ∙ sym (placed_join ps xs ys)

abbrev pub places_of : List Tok → List ℕ
places_of ts = map (λ (t : Tok). t.from) ts

abbrev pub token_kinds : List Tok → List TokKind
token_kinds ts = map (λ (t : Tok). t.kind) ts

-- Tokens of these kinds are the pieces at the tokens' places.
pub tokens_placed : (ts : List Tok) (xs : List Piece) → token_kinds ts ≡ kinds_of xs → placed (places_of ts) xs ≡ tokens_of ts
tokens_placed [] [] e = refl
tokens_placed (t ∷ ts) [] e = absurd cc
tokens_placed [] (put k ∷ xs) e = absurd cc
tokens_placed (t ∷ ts) (put k ∷ xs) e =
    let same : k ≡ t.kind = cc in
    let more : token_kinds ts ≡ kinds_of xs = cc in
    (λ i. token_at t.from (same i) ∷ tokens_placed ts xs more i)
tokens_placed [] (blank ∷ xs) e = tokens_placed [] xs e
tokens_placed (t ∷ ts) (blank ∷ xs) e = tokens_placed (t ∷ ts) xs e
