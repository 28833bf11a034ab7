-- What is answered of a trace that a source gives, against a text (this project's).
use Rattle.std.specs.Prelude.{◌≡◌, ◌⊎◌, ℕ, suc, ◌-◌, ◌^◌, ◌≤◌, min, Bool, true, false, List, ◌++◌, length, filter, ◌==◌, ⊤}
use Rattle.gcx_model.specs.Members.{In}
use Rattle.gcx_model.specs.Demand.{Line, text_of_lines}
use Rattle.tree_laws.specs.LineTexts.{IsPlain}

-- the byte ends a line
abbrev pub is_line_end : ℕ → Bool
is_line_end b = b == 10

-- how many line ends are among the bytes
abbrev pub line_ends : List ℕ → ℕ
line_ends t = length (filter is_line_end t)

-- the text begins with these bytes
abbrev pub IsFront : (front text : List ℕ) → Type 0
IsFront front text = (rest : List ℕ) × (text ≡ front ++ rest)

-- a number that doesn't fit 64 bits has the greatest one in its place
abbrev pub fitted : ℕ → ℕ
fitted n = min n (2 ^ 64 - 1)

-- the longest front that both texts have
pub record IsCommon (text given common : List ℕ) : Type 0 where
  pub of_text : IsFront common text
  pub of_given : IsFront common given
  pub longest : (c : List ℕ) → IsFront c text → IsFront c given → length c ≤ length common

-- the number of the first line that differs: one more than there are line ends in the longest common front
abbrev pub FirstDiffers : (text given : List ℕ) → ℕ → Type 0
FirstDiffers text given n = (common : List ℕ) × IsCommon text given common × (n ≡ fitted (suc (line_ends common)))

-- the text, with its number of lines; not the text, with the first line that differs; a read failed; want of memory
pub data Answer : Type 0 where
  Yes : (lines : ℕ) → Answer
  No : (line : ℕ) → Answer
  ReadFault : Answer
  Memory : Answer

-- the bytes given aren't a front of the text; or they are, but not all of it, and no more come
abbrev pub IsAnother : (text given : List ℕ) → (ended : Bool) → Type 0
IsAnother text given ended = (IsFront given text → ⊥) ⊎ ((ended ≡ true) × IsFront given text × (given ≡ text → ⊥))

-- What each answer says of the bytes that the source gave, and of whether it ended.
abbrev pub Judges : (text : List ℕ) → Answer → (given : List ℕ) → (ended : Bool) → Type 0
Judges text (Yes l) given ended = (ended ≡ true) × (given ≡ text) × (l ≡ fitted (line_ends text))
Judges text (No n) given ended = IsAnother text given ended × FirstDiffers text given n
Judges text ReadFault given ended = (ended ≡ false) × IsFront given text
Judges text Memory given ended = ⊤

-- A text of lines has as many line ends as lines.
abbrev pub LineEnds : Type 0
LineEnds = (ls : List Line) → ((l : Line) → In l ls → IsPlain l) → line_ends (text_of_lines ls) ≡ length ls

-- Of the same bytes no two answers are given, but for want of memory.
abbrev pub OneAnswer : Type 0
OneAnswer = (text given : List ℕ) (ended : Bool) (a b : Answer) → (a ≡ Memory → ⊥) → (b ≡ Memory → ⊥)
    → Judges text a given ended → Judges text b given ended → a ≡ b
