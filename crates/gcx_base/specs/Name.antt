-- Names (XML 1.0, fifth edition, section 2.3).
use Rattle.std.specs.Prelude.{ℕ, ◌≡◌, Bool, true, false, ◌&&◌, List, [], ◌∷◌}
use Rattle.std.specs.List.{list_all}
use lib.Utf8.{encodes}
use Rattle.gcx_base.specs.Characters.{is_start_char, is_part_char}

abbrev pub first_starts : List ℕ → Bool
first_starts [] = false
first_starts (c ∷ cs) = is_start_char c

-- a Name, as characters: a NameStartChar, and then NameChars
abbrev pub is_name : List ℕ → Bool
is_name [] = false
is_name (c ∷ cs) = is_start_char c && list_all is_part_char cs

-- the bytes of a name
pub record IsNameBytes (bytes : List ℕ) : Type 0 where
  pub chars : List ℕ
  pub name : is_name chars ≡ true
  pub parts : encodes chars ≡ bytes
