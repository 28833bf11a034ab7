-- Classes of characters (XML 1.0, fifth edition, sections 2.2 and 2.3).
use Rattle.std.specs.Prelude.{ℕ, ◌==◌, Bool, ◌&&◌, ◌||◌, nat_le}

abbrev pub between : ℕ → ℕ → ℕ → Bool
between low high c = nat_le low c && nat_le c high

-- Char
abbrev pub is_char : ℕ → Bool
is_char c = (c == 9) || ((c == 10) || ((c == 13) || (between 32 55295 c || (between 57344 65533 c || between 65536 1114111 c))))

-- white space: S, a character of it
abbrev pub is_white : ℕ → Bool
is_white c = (c == 32) || ((c == 9) || ((c == 13) || (c == 10)))

-- the members of NameStartChar below #x80
abbrev pub is_ascii_start : ℕ → Bool
is_ascii_start c = (c == 58) || (between 65 90 c || ((c == 95) || between 97 122 c))

-- the others
abbrev pub is_wide_start : ℕ → Bool
is_wide_start c =
    between 192 214 c || (between 216 246 c || (between 248 767 c || (between 880 893 c || (between 895 8191 c || (between 8204 8205 c || (between 8304 8591 c || (between 11264 12271 c || (between 12289 55295 c || (between 63744 64975 c || (between 65008 65533 c || between 65536 983039 c))))))))))

-- NameStartChar
abbrev pub is_start_char : ℕ → Bool
is_start_char c = is_ascii_start c || is_wide_start c

-- NameChar
abbrev pub is_part_char : ℕ → Bool
is_part_char c = is_start_char c || ((c == 45) || ((c == 46) || (between 48 57 c || ((c == 183) || (between 768 879 c || between 8255 8256 c)))))
