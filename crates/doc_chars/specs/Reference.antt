-- References behind their `&`, and the characters that they stand for (XML 1.0, fifth edition, sections 4.1 and 4.6).
use Rattle.std.specs.Prelude.{◌≡◌, ◌<◌, ◌+◌, ◌*◌, ℕ, Bool, true, List, ◌∷◌, ◌++◌, length, fold, codes}
use Rattle.std.specs.List.{list_all}
use Rattle.std.specs.Char.{is_digit, digit_value}
use Rattle.gcx_base.specs.Characters.{is_char}

-- the value of digits, 0 where there are none
abbrev pub radix_value : ℕ → List ℕ → ℕ
radix_value radix digits = fold (λ value digit. value * radix + digit_value digit) 0 digits

abbrev pub all_digits : ℕ → List ℕ → Bool
all_digits radix digits = list_all (λ c. is_digit c radix) digits

-- one digit or more, whose value is the Char c
pub record IsNumber (radix : ℕ) (digits : List ℕ) (c : ℕ) : Type 0 where
  pub some : 0 < length digits
  pub are : all_digits radix digits ≡ true
  pub value : radix_value radix digits ≡ c
  pub char : is_char c ≡ true

-- the characters are a whole reference, which stands for c
pub data Refers (text : List ℕ) (c : ℕ) : Type 0 where
  lt : text ≡ codes "lt;" → c ≡ 60 → Refers text c
  gt : text ≡ codes "gt;" → c ≡ 62 → Refers text c
  amp : text ≡ codes "amp;" → c ≡ 38 → Refers text c
  apos : text ≡ codes "apos;" → c ≡ 39 → Refers text c
  quot : text ≡ codes "quot;" → c ≡ 34 → Refers text c
  by_decimal : (digits : List ℕ) → IsNumber 10 digits c → text ≡ codes "#" ++ (digits ++ codes ";") → Refers text c
  by_hexadecimal : (digits : List ℕ) → IsNumber 16 digits c → text ≡ codes "#x" ++ (digits ++ codes ";") → Refers text c

-- a reference begins with these characters, and is longer
pub record BeginsReference (text : List ℕ) : Type 0 where
  pub next : ℕ
  pub more : List ℕ
  pub c : ℕ
  pub refers : Refers (text ++ next ∷ more) c

-- no reference begins with these characters
abbrev pub NeverRefers : List ℕ → Type 0
NeverRefers text = (more : List ℕ) (c : ℕ) → ¬ (Refers (text ++ more) c)
