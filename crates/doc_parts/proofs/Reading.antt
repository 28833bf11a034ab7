-- The first character of a text, and characters that are read behind others.
use Rattle.std.proofs.Common.{ℕ, ◌≡◌, ◌+◌, List, [], ◌∷◌, ◌++◌, length, Ok, ap, ◌∙◌, arith, length-append}
use Rattle.std.specs.Str.{chars, IsUtf8}
use Rattle.std.proofs.lemmas.Str.{length-encode, chars_past_char, IsUtf8-past_char}
use lib.Utf8.{encode}
use Rattle.gcx_base.specs.declared.limits.Limits.{Limits}
use Rattle.gcx_model.specs.Faults.{size}
use Rattle.doc_laws.specs.Machine.{State}
use Rattle.doc_laws.specs.Judging.{judged_steps, on_ok}
use Rattle.doc_laws.proofs.Unique.{judged_append}
use Rattle.doc_parts.specs.Reading.{IsFirstChar}

-- the first character of a text
pub first_is : (c : ℕ) (rest text : List ℕ) → IsUtf8 text → text ≡ encode c ++ rest → IsFirstChar c rest text
first_is c rest text u e = record {
  first = chars_past_char text rest c u e;
  size_is = ap length e ∙ length-append (encode c) rest ∙ ap (λ n. n + length rest) (length-encode c);
  utf8 = IsUtf8-past_char text rest c u e;
}

pub size_append : (xs ys : List ℕ) → size (xs ++ ys) ≡ size xs + size ys
size_append [] ys = omega arith
size_append (x ∷ xs) ys = omega (arith, size_append xs ys)

pub judged_on : (lim : Limits) (place : ℕ) (s t u : State) (a b : List ℕ) → judged_steps lim place s a ≡ Ok t → judged_steps lim (place + size a) t b ≡ Ok u → judged_steps lim place s (a ++ b) ≡ Ok u
judged_on lim place s t u a b e f = judged_append lim place s a b ∙ ap (λ r. on_ok r (λ v. judged_steps lim (place + size a) v b)) e ∙ f
