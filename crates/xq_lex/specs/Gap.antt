-- What may stand between two tokens: white space (XML 1.0, section 2.3) and comments, which nest (XQuery 1.0, section A.2.4.1).
use Rattle.std.specs.Prelude.{◌≡◌, ◌≢◌, ℕ, ◌==◌, Bool, true, false, ◌&&◌, ◌||◌, List, [], ◌∷◌}
use Rattle.gcx_base.specs.Characters.{is_char, is_white}
use Rattle.xq_lex.specs.Sign.{begins}

-- What stands between the marks `(:` and `:)` of a comment.
pub data Inside : Type 0 where
  nothing : Inside
  char : (c : ℕ) (more : Inside) → Inside
  nested : (inner more : Inside) → Inside

-- with the closing mark, before `rest`
abbrev pub closed_chars : Inside → (rest : List ℕ) → List ℕ
closed_chars nothing rest = 58 ∷ 41 ∷ rest
closed_chars (char c more) rest = c ∷ closed_chars more rest
closed_chars (nested inner more) rest = 40 ∷ 58 ∷ closed_chars inner (closed_chars more rest)

-- the text begins with a mark
abbrev pub is_mark : List ℕ → Bool
is_mark [] = false
is_mark (c ∷ cs) = ((c == 40) && begins 58 cs) || ((c == 58) && begins 41 cs)

-- Marks are read from the left, two characters at a time: none begins at a single character. Each character is a Char.
abbrev pub IsInside : Inside → Type 0
IsInside nothing = Unit {0}
IsInside (char c more) = (is_char c ≡ true) × (is_mark (c ∷ closed_chars more []) ≡ false) × IsInside more
IsInside (nested inner more) = IsInside inner × IsInside more

pub data Gap : Type 0 where
  empty : Gap
  white : (c : ℕ) (more : Gap) → Gap
  comment : (inner : Inside) (more : Gap) → Gap

abbrev pub gap_chars : Gap → (rest : List ℕ) → List ℕ
gap_chars empty rest = rest
gap_chars (white c more) rest = c ∷ gap_chars more rest
gap_chars (comment inner more) rest = 40 ∷ 58 ∷ closed_chars inner (gap_chars more rest)

abbrev pub IsGap : Gap → Type 0
IsGap empty = Unit {0}
IsGap (white c more) = (is_white c ≡ true) × IsGap more
IsGap (comment inner more) = IsInside inner × IsGap more

abbrev pub begins_white : List ℕ → Bool
begins_white [] = false
begins_white (c ∷ cs) = is_white c

-- Neither white space nor a comment begins the text.
pub record EndsGap (text : List ℕ) : Type 0 where
  pub no_white : begins_white text ≡ false
  pub no_comment : (inner : Inside) (rest : List ℕ) → IsInside inner → text ≢ 40 ∷ 58 ∷ closed_chars inner rest

-- The text is a gap, as long as it can be, and then `rest`.
pub record HasGap (text rest : List ℕ) : Type 0 where
  pub gap : Gap
  pub good : IsGap gap
  pub chars : text ≡ gap_chars gap rest
  pub whole : EndsGap rest
