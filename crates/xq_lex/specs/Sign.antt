-- Signs, and the longest one at the front of a text.
use Rattle.std.specs.Prelude.{ℕ, ◌==◌, Bool, false, not, ◌&&◌, if◌then◌else◌, List, [], ◌∷◌, Option, Some, None}
use Rattle.xq_lex.specs.declared.sign.Sign.{Sign}
use Rattle.xq_lex.specs.declared.sign.Sign.TheVariants.{ParenOpen, ParenClose, BraceOpen, BraceClose, Comma, Slash, SlashSlash, Axis, Star, Eq, Ne, Lt, Le, Gt, Ge, EndTag, EmptyEnd}

-- how it is written
abbrev pub sign_chars : Sign → List ℕ
sign_chars ParenOpen = 40 ∷ []
sign_chars ParenClose = 41 ∷ []
sign_chars BraceOpen = 123 ∷ []
sign_chars BraceClose = 125 ∷ []
sign_chars Comma = 44 ∷ []
sign_chars Slash = 47 ∷ []
sign_chars SlashSlash = 47 ∷ 47 ∷ []
sign_chars Axis = 58 ∷ 58 ∷ []
sign_chars Star = 42 ∷ []
sign_chars Eq = 61 ∷ []
sign_chars Ne = 33 ∷ 61 ∷ []
sign_chars Lt = 60 ∷ []
sign_chars Le = 60 ∷ 61 ∷ []
sign_chars Gt = 62 ∷ []
sign_chars Ge = 62 ∷ 61 ∷ []
sign_chars EndTag = 60 ∷ 47 ∷ []
sign_chars EmptyEnd = 47 ∷ 62 ∷ []

-- the text begins with this character
abbrev pub begins : ℕ → List ℕ → Bool
begins c [] = false
begins c (d ∷ ds) = d == c

-- the text begins with `(:`, which begins a comment and is no sign
abbrev pub opens_comment : List ℕ → Bool
opens_comment [] = false
opens_comment (c ∷ cs) = (c == 40) && begins 58 cs

-- the sign behind whose first character, `/` or `<`, these stand
abbrev pub slash_at : List ℕ → Sign
slash_at cs = if begins 47 cs then SlashSlash else if begins 62 cs then EmptyEnd else Slash

abbrev pub less_at : List ℕ → Sign
less_at cs = if begins 61 cs then Le else if begins 47 cs then EndTag else Lt

-- the longest sign at the front
abbrev pub sign_at : List ℕ → Option Sign
sign_at [] = None
sign_at (c ∷ cs) =
    if (c == 40) && not (begins 58 cs) then Some ParenOpen
    else if c == 41 then Some ParenClose
    else if c == 123 then Some BraceOpen
    else if c == 125 then Some BraceClose
    else if c == 44 then Some Comma
    else if c == 47 then Some (slash_at cs)
    else if (c == 58) && begins 58 cs then Some Axis
    else if c == 42 then Some Star
    else if c == 61 then Some Eq
    else if (c == 33) && begins 61 cs then Some Ne
    else if c == 60 then Some (less_at cs)
    else if (c == 62) && begins 61 cs then Some Ge
    else if c == 62 then Some Gt
    else None
