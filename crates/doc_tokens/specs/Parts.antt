-- Tokens that are lent, as parts of a list of bytes (this project's).
use Rattle.std.specs.Prelude.{ℕ, ◌≡◌, ◌≤◌, ◌-◌, List, [], ◌∷◌, length, map, slice_range, IsUtf8, ⊤}
use Rattle.gcx_base.specs.Name.{IsNameBytes}
use Rattle.gcx_model.specs.Tree.{TreeToken, Start, Chars, End}
use Rattle.doc_tokens.specs.declared.lent.Lent.{Lent}
use Rattle.doc_tokens.specs.declared.lent.Lent.TheVariants as lents

-- the token, as the model's
abbrev pub lent_token : (bytes : List ℕ) → Lent → TreeToken
lent_token bytes (lents.Start from to) = Start (slice_range bytes from to)
lent_token bytes (lents.Text from to) = Chars (slice_range bytes from to)
lent_token bytes lents.End = End

-- its part lies between these places, and is a name or UTF-8
abbrev pub LiesWithin : (low high : ℕ) → (bytes : List ℕ) → Lent → Type 0
LiesWithin low high bytes (lents.Start from to) = (low ≤ from) × (from ≤ to) × (to ≤ high) × IsNameBytes (slice_range bytes from to)
LiesWithin low high bytes (lents.Text from to) = (low ≤ from) × (from ≤ to) × (to ≤ high) × IsUtf8 (slice_range bytes from to)
LiesWithin low high bytes lents.End = ⊤

abbrev pub AllLieWithin : (low high : ℕ) → (bytes : List ℕ) → List Lent → Type 0
AllLieWithin low high bytes [] = ⊤
AllLieWithin low high bytes (x ∷ xs) = LiesWithin low high bytes x × AllLieWithin low high bytes xs

-- These are the tokens, with their bytes.
pub record AreLent (lent : List Lent) (bytes : List ℕ) (tokens : List TreeToken) : Type 0 where
  pub tokens_are : map (lent_token bytes) lent ≡ tokens
  pub parts : AllLieWithin 0 (length bytes) bytes lent

-- the same token, where so many bytes at the front are gone
abbrev pub moved_by : ℕ → Lent → Lent
moved_by n (lents.Start from to) = lents.Start (from - n) (to - n)
moved_by n (lents.Text from to) = lents.Text (from - n) (to - n)
moved_by n lents.End = lents.End
