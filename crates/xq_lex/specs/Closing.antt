-- This follows the code, for its proofs: no public clause speaks of it.
-- Where a comment ends, found character by character.
use Rattle.std.specs.Prelude.{◌≡◌, ◌<◌, ◌⊎◌, ℕ, zero, suc, ◌==◌, Bool, true, false, ◌&&◌, if◌then◌else◌, List, [], ◌∷◌, length, Option, Some, None}
use Rattle.gcx_base.specs.Characters.{is_char, is_white}
use Rattle.xq_lex.specs.Gap.{Inside, IsInside, closed_chars}

-- the character before is c
abbrev pub before_is : ℕ → Option ℕ → Bool
before_is c None = false
before_is c (Some b) = b == c

-- this character ends a mark that the one before began
abbrev pub opens : Option ℕ → ℕ → Bool
opens before c = before_is 40 before && (c == 58)

abbrev pub closes : Option ℕ → ℕ → Bool
closes before c = before_is 58 before && (c == 41)

-- a comment is closed, round which this many are open
abbrev pub closing : ℕ → List ℕ → (ℕ → Option (List ℕ)) → Option (List ℕ)
closing zero rest outer = Some rest
closing (suc depth) rest outer = outer depth

-- What stands behind the outermost comment, inside which this many are open. `before` is the character before, where
-- that isn't part of a mark.
abbrev pub behind_comment : (depth : ℕ) (before : Option ℕ) → List ℕ → Option (List ℕ)
behind_comment depth before [] = None
behind_comment depth before (c ∷ cs) =
    if is_char c then
    if opens before c then behind_comment (suc depth) None cs
    else if closes before c then closing depth cs (λ d. behind_comment d None cs)
    else behind_comment depth (Some c) cs
    else None

-- a character of white space or a comment, and then `rest`
pub record IsWhite (text rest : List ℕ) : Type 0 where
  pub c : ℕ
  pub good : is_white c ≡ true
  pub chars : text ≡ c ∷ rest

pub record IsComment (text rest : List ℕ) : Type 0 where
  pub inner : Inside
  pub good : IsInside inner
  pub chars : text ≡ 40 ∷ 58 ∷ closed_chars inner rest

pub record HasGapPart (text rest : List ℕ) : Type 0 where
  pub shorter : length rest < length text
  pub part : IsWhite text rest ⊎ IsComment text rest
