-- What is read of a reference and of a string.
use Rattle.std.proofs.Common.{ℕ, ◌≡◌, ◌+◌, ◌<◌, ◌==◌, Bool, true, false, List, [], ◌∷◌, ◌++◌, length, take, drop, get_or, refl, sym, ap, ◌∙◌, subst, arith, length-append, length-drop, append_assoc, append-nil, add-one, eqb-true, eq-eqb}
use Rattle.std.specs.Char.{encode_utf8}
use Rattle.std.specs.Str.{encode_utf8_all}
use Rattle.std.proofs.lemmas.Bool.{true≢false}
use Rattle.std.proofs.lemmas.List.{drop-drop, take-append-drop, append_cancel_left}
use Rattle.gcx_base.specs.Characters.{is_char}
use Rattle.base_laws.proofs.Lists.{cons_tail, cons_head}
use Rattle.doc_chars.specs.Reference.{Refers, lt, BeginsReference, NeverRefers}
use Rattle.xq_lex.specs.Sign.{begins}
use Rattle.xq_lex.specs.Strings.{plain, doubled, reference, is_quote, part_chars, parts_chars, parts_value, BeginsWithNoPart}
use Rattle.xq_lex.specs.Reading.{HasReference, BeginsWithNoReference, HasPart, ReadsValue, HasValue, BeginsWithNoString}
use Rattle.xq_lex.proofs.ReferenceLaws.{reference_same}
use Rattle.xq_lex.proofs.StringLaws.{SameParts, parts_only, ReadsParts, reads_more, value-append}
use Rattle.xq_lex.proofs.Encoding.{take_more, encode_more}

-- ---- References

pub starts : BeginsReference []
starts = record { next = 108; more = 116 ∷ 59 ∷ []; c = 60; refers = lt refl refl }

-- what goes on hasn't ended before
goes_none : (read t r : List ℕ) (c : ℕ) → BeginsReference read → read ≡ t ++ r → Refers t c → ⊥
goes_none read t r c g e h =
    let whole : (read ++ g.next ∷ g.more) ++ [] ≡ t ++ (r ++ g.next ∷ g.more) = append-nil (read ++ g.next ∷ g.more) ∙ (ap (λ (x : List ℕ). x ++ g.next ∷ g.more) e ∙ append_assoc t r (g.next ∷ g.more)) in
    let same : read ++ g.next ∷ g.more ≡ t = (reference_same (read ++ g.next ∷ g.more) t g.c c [] (r ++ g.next ∷ g.more) g.refers h whole).0 in
    omega (arith, ap length same, ap length e, length-append read (g.next ∷ g.more), length-append t r)

-- of two fronts of a text one begins the other
data Nested (a b : List ℕ) : Type 0 where
  longer : (m : List ℕ) → a ≡ b ++ m → Nested a b
  shorter : (m : List ℕ) → b ≡ a ++ m → Nested a b

with_head : (x y : ℕ) (a b : List ℕ) → x ≡ y → Nested a b → Nested (x ∷ a) (y ∷ b)
with_head x y a b e (longer m h) = longer m (ap (λ (z : ℕ). z ∷ a) e ∙ ap (λ (z : List ℕ). y ∷ z) h)
with_head x y a b e (shorter m h) = shorter m (ap (λ (z : ℕ). z ∷ b) (sym e) ∙ ap (λ (z : List ℕ). x ∷ z) h)

nested : (a b r s : List ℕ) → a ++ r ≡ b ++ s → Nested a b
nested [] b r s e = shorter b refl
nested (x ∷ a) [] r s e = longer (x ∷ a) refl
nested (x ∷ a) (y ∷ b) r s e = with_head x y a b (cons_head x y _ _ e) (nested a b r s (cons_tail x y _ _ e))

-- the text is what was read, then a character, with which no reference begins any more
pub never : (text read : List ℕ) (c : ℕ) (rest : List ℕ) → text ≡ read ++ c ∷ rest → BeginsReference read → NeverRefers (read ++ c ∷ []) → BeginsWithNoReference text
never text read c rest e g bad t r v h same = by (nested read t (c ∷ rest) r (sym e ∙ same))
  where
    -- the reference is longer than what was read
    behind : (m : List ℕ) → t ≡ read ++ m → m ++ r ≡ c ∷ rest → ⊥
    behind [] k n = goes_none read t [] v g (sym (append-nil read) ∙ (sym k ∙ sym (append-nil t))) h
    behind (d ∷ m) k n =
        let first : c ≡ d = sym (cons_head d c (m ++ r) rest n) in
        let here : t ≡ (read ++ c ∷ []) ++ m = k ∙ (ap (λ (x : ℕ). read ++ x ∷ m) (sym first) ∙ sym (append_assoc read (c ∷ []) m)) in
        bad m v (subst (λ (x : List ℕ). Refers x v) here h)

    by : Nested read t → ⊥
    by (longer m k) = goes_none read t m v g k h
    by (shorter m k) = behind m k (append_cancel_left read (m ++ r) (c ∷ rest) (sym (append_assoc read m r) ∙ (ap (λ (x : List ℕ). x ++ r) (sym k) ∙ (sym same ∙ e))))

-- all was read, and a reference goes on
pub never_ended : (text : List ℕ) → BeginsReference text → BeginsWithNoReference text
never_ended text g t r v h same = goes_none text t r v g same h

from_drop : (text : List ℕ) (i c : ℕ) → i < length text → c ≡ get_or text i c → text ≡ take i text ++ c ∷ drop (i + 1) text
from_drop text i c h e =
    sym (take-append-drop (i + 1) text) ∙ (ap (λ (x : List ℕ). x ++ drop (i + 1) text) (take_more text i c h e) ∙ append_assoc (take i text) (c ∷ []) (drop (i + 1) text))

pub never_at : (text : List ℕ) (i c : ℕ) → i < length text → c ≡ get_or text i c → BeginsReference (take i text) → NeverRefers (take i text ++ c ∷ []) → BeginsWithNoReference text
never_at text i c h e g bad = never text (take i text) c (drop (i + 1) text) (from_drop text i c h e) g bad

pub done_at : (text : List ℕ) (i c v : ℕ) → i < length text → c ≡ get_or text i c → Refers (take i text ++ c ∷ []) v → HasReference text v (i + 1)
done_at text i c v h e r = record { refers = subst (λ (x : List ℕ). Refers x v) (sym (take_more text i c h e)) r; within = omega arith }

-- ---- Parts

pub plain_part : (q c : ℕ) (text rest : List ℕ) → text ≡ c ∷ rest → is_char c ≡ true → (c == q) ≡ false → (c == 38) ≡ false → HasPart q text c 1
plain_part q c text rest e good n a = subst (λ (x : List ℕ). HasPart q x c 1) (sym e) (record { part = plain c; good = (good, n, a); chars = refl; value_is = refl; some = omega arith; within = omega arith })

begins_is : (q : ℕ) (rest : List ℕ) → begins q rest ≡ true → (more : List ℕ) × (rest ≡ q ∷ more)
begins_is q [] e = cc (e)
begins_is q (d ∷ ds) e = (ds, ap (λ (x : ℕ). x ∷ ds) (eqb-true d q e))

pub reference_part : (q c v n : ℕ) (text rest : List ℕ) → text ≡ c ∷ rest → (c == 38) ≡ true → HasReference rest v n → HasPart q text v (n + 1)
reference_part q c v n text rest e same r =
    let all : text ≡ 38 ∷ rest = e ∙ ap (λ (x : ℕ). x ∷ rest) (eqb-true c 38 same) in
    let left : drop (n + 1) (38 ∷ rest) ≡ drop n rest = ap (λ k. drop k (38 ∷ rest)) (add-one n) in
    subst (λ (x : List ℕ). HasPart q x v (n + 1)) (sym all) (record {
      part = reference (take n rest) v;
      good = r.refers;
      chars = ap (λ (x : List ℕ). 38 ∷ x) (sym (take-append-drop n rest) ∙ ap (λ (x : List ℕ). take n rest ++ x) (sym left));
      value_is = refl;
      some = omega arith;
      within = omega (arith, r.within);
    })

differ : {X : Type 0} (c d : ℕ) (x y : List ℕ) → (c == d) ≡ false → c ∷ x ≡ d ∷ y → X
differ c d x y n e = absurd (true≢false (sym (eq-eqb c d (cons_head c d x y e)) ∙ n))

pub no_part_reference : (q c : ℕ) (text rest : List ℕ) → text ≡ c ∷ rest → (c == q) ≡ false → (c == 38) ≡ true → BeginsWithNoReference rest → BeginsWithNoPart q text
no_part_reference q c text rest e n same none (plain d) more g h =
    differ d 38 more rest g.2 (sym h ∙ (e ∙ ap (λ (x : ℕ). x ∷ rest) (eqb-true c 38 same)))
no_part_reference q c text rest e n same none doubled more g h = differ c q rest (q ∷ more) n (sym e ∙ h)
no_part_reference q c text rest e n same none (reference t v) more g h = none t more v g (cons_tail c 38 rest (t ++ more) (sym e ∙ h))

-- ---- Strings

pub reads_on : (q : ℕ) (text old bytes : List ℕ) (count value n : ℕ) → ReadsValue q text old count → HasPart q (drop count text) value n → bytes ≡ old ++ encode_utf8 value → ReadsValue q text bytes (count + n)
reads_on q text old bytes count value n r p e =
    let here : drop count text ≡ part_chars q p.part (drop (count + n) text) = p.chars ∙ ap (λ (x : List ℕ). part_chars q p.part x) (drop-drop n count text) in
    let more : ReadsParts q text (r.parts ++ p.part ∷ []) (drop (count + n) text) =
    reads_more q text r.parts p.part (drop count text) (drop (count + n) text) (record { good = r.good; chars = r.chars }) p.good here in
    record {
      parts = r.parts ++ p.part ∷ [];
      good = more.good;
      chars = more.chars;
      value = e ∙ (ap (λ (x : List ℕ). x ++ encode_utf8 value) r.value
          ∙ (sym (encode_more (parts_value q r.parts) value)
          ∙ ap encode_utf8_all (ap (λ (x : ℕ). parts_value q r.parts ++ x ∷ []) (sym p.value_is) ∙ sym (value-append q r.parts p.part))));
      within = omega (arith, p.within, r.within, length-drop count text);
    }

single : (q : ℕ) (rest : List ℕ) (b : Bool) → begins q rest ≡ b → BeginsWithNoPart q (q ∷ rest) → begins q rest ≡ false
single q rest false e none = e
single q rest true e none = absurd (let m : (more : List ℕ) × (rest ≡ q ∷ more) = begins_is q rest e in none doubled m.0 tt (ap (λ (x : List ℕ). q ∷ x) m.1))

pub string_read : (q : ℕ) (text bytes : List ℕ) (count : ℕ) → ReadsValue q text bytes count → BeginsWithNoPart q (drop count text) → begins q (drop count text) ≡ true → HasValue q text bytes (count + 1)
string_read q text bytes count r none b =
    let m : (more : List ℕ) × (drop count text ≡ q ∷ more) = begins_is q (drop count text) b in
    let left : drop (count + 1) text ≡ m.0 = sym (drop-drop 1 count text) ∙ ap (λ (x : List ℕ). drop 1 x) m.1 in
    let all : drop count text ≡ q ∷ drop (count + 1) text = m.1 ∙ ap (λ (x : List ℕ). q ∷ x) (sym left) in
    record {
      parts = r.parts;
      string = record {
        good = r.good;
        chars = r.chars ∙ ap (λ (x : List ℕ). parts_chars q r.parts x) all;
        single = single q (drop (count + 1) text) (begins q (drop (count + 1) text)) refl (subst (λ (x : List ℕ). BeginsWithNoPart q x) all none);
      };
      value = r.value;
      within = omega (arith, ap length m.1, length-drop count text);
    }

pub no_string_read : (q : ℕ) (text bytes : List ℕ) (count : ℕ) → is_quote q ≡ true → ReadsValue q text bytes count → BeginsWithNoPart q (drop count text) → begins q (drop count text) ≡ false → BeginsWithNoString q text
no_string_read q text bytes count quote r none b ps rest s =
    let same : SameParts r.parts ps (drop count text) (q ∷ rest) = parts_only q r.parts ps (drop count text) rest quote r.good none s.good s.single (sym r.chars ∙ s.chars) in
    true≢false (sym (eq-eqb q q refl) ∙ (ap (begins q) (sym same.rest) ∙ b))
