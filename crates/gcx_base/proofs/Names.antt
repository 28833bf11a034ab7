-- Names as characters and as bytes.
use Rattle.std.proofs.Common.{ℕ, ◌≡◌, ◌==◌, ◌||◌, ◌&&◌, ◌++◌, Bool, true, false, List, [], ◌∷◌, refl, sym, ap, ◌∙◌, arith}
use Rattle.std.specs.Prelude.{IsUtf8}
use Rattle.std.specs.List.{list_all}
use Rattle.std.specs.Char.{IsScalar, encode_utf8}
use Rattle.std.specs.Str.{all_scalars, chars}
use Rattle.std.proofs.lemmas.Bool.{and_parts, true≢false}
use Rattle.std.proofs.lemmas.Bool.Decides.{nat_tests}
use Rattle.std.proofs.lemmas.Str.{chars_from_encodes, encodes-chars, chars_past_char}
use Rattle.gcx_base.specs.Characters.{between, is_start_char, is_part_char}
use Rattle.gcx_base.specs.Name.{first_starts, is_name, IsNameBytes}

part_scalar : (c : ℕ) → is_part_char c ≡ true → IsScalar c
part_scalar c h = grind (arith, nat_tests)

parts_scalars : (cs : List ℕ) → list_all is_part_char cs ≡ true → all_scalars cs ≡ true
parts_scalars [] h = refl
parts_scalars (c ∷ cs) h =
    let parts = and_parts (is_part_char c) (list_all is_part_char cs) h in
    (λ i. part_scalar c parts.0 i && parts_scalars cs parts.1 i)

start_scalar : (c : ℕ) → is_start_char c ≡ true → IsScalar c
start_scalar c h = grind (arith, nat_tests)

name_scalars : (cs : List ℕ) → is_name cs ≡ true → all_scalars cs ≡ true
name_scalars [] h = refl
name_scalars (c ∷ cs) h =
    let parts = and_parts (is_start_char c) (list_all is_part_char cs) h in
    (λ i. start_scalar c parts.0 i && parts_scalars cs parts.1 i)

-- the bytes of a name are UTF-8
pub name_text : (bytes : List ℕ) → IsNameBytes bytes → IsUtf8 bytes
name_text bytes h = (h.chars, (name_scalars h.chars h.name, h.parts))

-- and its characters are those of the text
pub name_chars : (bytes : List ℕ) → IsNameBytes bytes → is_name (chars bytes) ≡ true
name_chars bytes h = ap is_name (sym (chars_from_encodes h.chars bytes (name_text bytes h) h.parts)) ∙ h.name

-- a text whose characters are a name
pub chars_name : (bytes : List ℕ) → IsUtf8 bytes → is_name (chars bytes) ≡ true → IsNameBytes bytes
chars_name bytes u h = record { chars = chars bytes; name = h; parts = encodes-chars bytes u }

start_part : (c : ℕ) → is_start_char c ≡ true → is_part_char c ≡ true
start_part c h = ap (λ (b : Bool). b || ((c == 45) || ((c == 46) || (between 48 57 c || ((c == 183) || (between 768 879 c || between 8255 8256 c)))))) h

-- a name is NameChars of which the first is a NameStartChar
pub name_in_two : (cs : List ℕ) → is_name cs ≡ (first_starts cs && list_all is_part_char cs)
name_in_two [] = refl
name_in_two (c ∷ cs) =
    elim (is_start_char c) as (λ (b : Bool). is_start_char c ≡ b → (b && list_all is_part_char cs) ≡ (b && (is_part_char c && list_all is_part_char cs))) [
      | true ↦ λ h. ap (λ (b : Bool). b && list_all is_part_char cs) (sym (start_part c h))
      | false ↦ λ h. refl
    ] refl

-- the first character of a text
pub first_of : (bs rest : List ℕ) (c : ℕ) → IsUtf8 bs → bs ≡ encode_utf8 c ++ rest → first_starts (chars bs) ≡ is_start_char c
first_of bs rest c u e = ap first_starts (chars_past_char bs rest c u e)

-- what is no name
pub chars_no_name : (bytes : List ℕ) → is_name (chars bytes) ≡ false → IsNameBytes bytes → ⊥
chars_no_name bytes h k = true≢false (sym (name_chars bytes k) ∙ h)
