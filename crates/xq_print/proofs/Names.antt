-- The bytes of a name are UTF-8.
use Rattle.std.proofs.Common.{ℕ, ◌≡◌, ◌&&◌, true, List, [], ◌∷◌, refl, arith}
use Rattle.std.specs.Prelude.{IsUtf8}
use Rattle.std.specs.List.{list_all}
use Rattle.std.specs.Char.{IsScalar}
use Rattle.std.specs.Str.{all_scalars}
use Rattle.std.proofs.lemmas.Bool.{and_parts}
use Rattle.std.proofs.lemmas.Bool.Decides.{nat_tests}
use Rattle.gcx_base.specs.Characters.{is_start_char, is_part_char}
use Rattle.gcx_base.specs.Name.{is_name, IsNameBytes}

part_scalar : (c : ℕ) → is_part_char c ≡ true → IsScalar c
part_scalar c h = grind (arith, nat_tests)

parts_scalars : (cs : List ℕ) → list_all is_part_char cs ≡ true → all_scalars cs ≡ true
parts_scalars [] h = refl
parts_scalars (c ∷ cs) h =
    let parts = and_parts (is_part_char c) (list_all is_part_char cs) h in
    (λ i. part_scalar c parts.0 i && parts_scalars cs parts.1 i)

start_scalar : (c : ℕ) → is_start_char c ≡ true → IsScalar c
start_scalar c h = grind (arith, nat_tests)

name_scalars : (cs : List ℕ) → is_name cs ≡ true → all_scalars cs ≡ true
name_scalars [] h = refl
name_scalars (c ∷ cs) h =
    let parts = and_parts (is_start_char c) (list_all is_part_char cs) h in
    (λ i. start_scalar c parts.0 i && parts_scalars cs parts.1 i)

pub name_utf8 : (bytes : List ℕ) → IsNameBytes bytes → IsUtf8 bytes
name_utf8 bytes h = (h.chars, (name_scalars h.chars h.name, h.parts))
