-- A document is of Chars alone, so what isn't one is a fault.
use Rattle.std.proofs.Common.{ℕ, ◌≡◌, ◌≤◌, inl, inr, Bool, true, false, ◌||◌, eqb, List, [], ◌∷◌, ◌++◌, refl, sym, ap, ◌∙◌, subst, arith, eqb-true, leb-true}
use Rattle.std.specs.Prelude.{nat_le}
use Rattle.std.specs.List.{list_all}
use Rattle.std.proofs.lemmas.Bool.{false≢true, and_parts, and_from, or_cases}
use Rattle.gcx_base.specs.Characters.{between, is_char, is_white, is_ascii_start, is_wide_start, is_start_char, is_part_char}
use Rattle.gcx_base.specs.declared.limits.Limits.{Limits}
use Rattle.gcx_model.specs.References.{Entity, less_than, greater_than, ampersand, apostrophe, quotation, entity_name, Digits, no_digit, digit, digits_spelling, is_decimal, is_hexadecimal, AreDigits, Reference, named, decimal_reference, hexadecimal_reference, reference_spelling, IsReference}
use Rattle.gcx_model.specs.Attributes.{is_name, is_blank_text, is_gap, is_quote, is_text_char, AttributeValue, blank_value, value_char, value_reference, Attributes, no_attribute, attribute, value_spelling, head_spelling, attributes_spelling, IsValue, IsAttributes}
use Rattle.gcx_model.specs.Markup.{CommentText, blank_comment, plain, dashed, comment_spelling, IsCommentText, CDSect, blank_cdsect, further, cdsect_spelling, IsCDSect, InstructionData, blank_data, data_char, data_spelling, IsInstructionData, Declaration, blank_declaration, doc_char, literal, declaration_spelling, IsDeclaration, is_literal_char, comment_start, cdata_start, doc_start}
use Rattle.gcx_model.specs.Grammar.{Content, nothing, mark, space, char, reference, cdata, comment, bare, instruction, doctype, single, tagged, start_tag_spelling, end_tag_spelling, spelling, IsContent, Viable}
use Rattle.gcx_model.specs.Faults.{Comes, AtSyntax, size}
use Rattle.doc_laws.proofs.Tests.{all_append, gap_blank}
use Rattle.doc_laws.proofs.References.{low_char, middle_char, high_char}

in_low : (l h c : ℕ) → 32 ≤ l → h ≤ 55295 → between l h c ≡ true → is_char c ≡ true
in_low l h c a b e = let both = and_parts (nat_le l c) (nat_le c h) e in let p = leb-true l c both.0 in let q = leb-true c h both.1 in low_char c (omega (arith, p, a)) (omega (arith, q, b))

in_middle : (l h c : ℕ) → 57344 ≤ l → h ≤ 65533 → between l h c ≡ true → is_char c ≡ true
in_middle l h c a b e = let both = and_parts (nat_le l c) (nat_le c h) e in let p = leb-true l c both.0 in let q = leb-true c h both.1 in middle_char c (omega (arith, p, a)) (omega (arith, q, b))

in_high : (l h c : ℕ) → 65536 ≤ l → h ≤ 1114111 → between l h c ≡ true → is_char c ≡ true
in_high l h c a b e = let both = and_parts (nat_le l c) (nat_le c h) e in let p = leb-true l c both.0 in let q = leb-true c h both.1 in high_char c (omega (arith, p, a)) (omega (arith, q, b))

is_one : (c n : ℕ) → is_char n ≡ true → eqb c n ≡ true → is_char c ≡ true
is_one c n h e = ap is_char (eqb-true c n e) ∙ h

either : {X : Type 0} (a b : Bool) → (a ≡ true → X) → (b ≡ true → X) → a || b ≡ true → X
either a b f g e = elim (or_cases a b e) [ inl h ↦ f h | inr h ↦ g h ]

ascii_char : (c : ℕ) → is_ascii_start c ≡ true → is_char c ≡ true
ascii_char c =
    either (eqb c 58) _ (is_one c 58 refl)
    (either (between 65 90 c) _ (in_low 65 90 c (omega arith) (omega arith))
    (either (eqb c 95) _ (is_one c 95 refl) (in_low 97 122 c (omega arith) (omega arith))))

wide_char : (c : ℕ) → is_wide_start c ≡ true → is_char c ≡ true
wide_char c =
    either (between 192 214 c) _ (in_low 192 214 c (omega arith) (omega arith))
    (either (between 216 246 c) _ (in_low 216 246 c (omega arith) (omega arith))
    (either (between 248 767 c) _ (in_low 248 767 c (omega arith) (omega arith))
    (either (between 880 893 c) _ (in_low 880 893 c (omega arith) (omega arith))
    (either (between 895 8191 c) _ (in_low 895 8191 c (omega arith) (omega arith))
    (either (between 8204 8205 c) _ (in_low 8204 8205 c (omega arith) (omega arith))
    (either (between 8304 8591 c) _ (in_low 8304 8591 c (omega arith) (omega arith))
    (either (between 11264 12271 c) _ (in_low 11264 12271 c (omega arith) (omega arith))
    (either (between 12289 55295 c) _ (in_low 12289 55295 c (omega arith) (omega arith))
    (either (between 63744 64975 c) _ (in_middle 63744 64975 c (omega arith) (omega arith))
    (either (between 65008 65533 c) _ (in_middle 65008 65533 c (omega arith) (omega arith)) (in_high 65536 983039 c (omega arith) (omega arith))))))))))))

start_is_char : (c : ℕ) → is_start_char c ≡ true → is_char c ≡ true
start_is_char c = either (is_ascii_start c) _ (ascii_char c) (wide_char c)

part_is_char : (c : ℕ) → is_part_char c ≡ true → is_char c ≡ true
part_is_char c =
    either (is_start_char c) _ (start_is_char c)
    (either (eqb c 45) _ (is_one c 45 refl)
    (either (eqb c 46) _ (is_one c 46 refl)
    (either (between 48 57 c) _ (in_low 48 57 c (omega arith) (omega arith))
    (either (eqb c 183) _ (is_one c 183 refl)
    (either (between 768 879 c) _ (in_low 768 879 c (omega arith) (omega arith)) (in_low 8255 8256 c (omega arith) (omega arith)))))))

white_is_char : (c : ℕ) → is_white c ≡ true → is_char c ≡ true
white_is_char c = either (eqb c 32) _ (is_one c 32 refl) (either (eqb c 9) _ (is_one c 9 refl) (either (eqb c 13) _ (is_one c 13 refl) (is_one c 10 refl)))

quote_is_char : (c : ℕ) → is_quote c ≡ true → is_char c ≡ true
quote_is_char c = either (eqb c 34) _ (is_one c 34 refl) (is_one c 39 refl)

-- each is a Char
pub record Chars (l : List ℕ) : Type 0 where
  pub chars : list_all is_char l ≡ true

known : {l : List ℕ} → list_all is_char l ≡ true → Chars l
known h = record { chars = h }

all : (p : ℕ → Bool) → ((c : ℕ) → p c ≡ true → is_char c ≡ true) → (l : List ℕ) → list_all p l ≡ true → Chars l
all p h [] e = known refl
all p h (c ∷ l) e = let both = and_parts (p c) (list_all p l) e in known (and_from (is_char c) _ (h c both.0) (all p h l both.1).chars)

both : (a b : List ℕ) → Chars a → Chars b → Chars (a ++ b)
both a b h k = known (all_append is_char a b h.chars k.chars)

front : (a b : List ℕ) → Chars (a ++ b) → Chars a
front [] b h = known refl
front (c ∷ a) b h = let k = and_parts (is_char c) (list_all is_char (a ++ b)) h.chars in known (and_from (is_char c) _ k.0 (front a b (known k.1)).chars)

cons : (c : ℕ) (l : List ℕ) → is_char c ≡ true → Chars l → Chars (c ∷ l)
cons c l h k = known (and_from (is_char c) _ h k.chars)

one : (c : ℕ) → is_char c ≡ true → Chars (c ∷ [])
one c h = cons c [] h (known refl)

name_chars : (n : List ℕ) → is_name n ≡ true → Chars n
name_chars [] h = known refl
name_chars (c ∷ n) h = let k = and_parts (is_start_char c) (list_all is_part_char n) h in cons c n (start_is_char c k.0) (all is_part_char part_is_char n k.1)

blank_chars : (l : List ℕ) → is_blank_text l ≡ true → Chars l
blank_chars l h = all is_white white_is_char l h

gap_chars : (l : List ℕ) → is_gap l ≡ true → Chars l
gap_chars l h = blank_chars l (gap_blank l h)

text_is_char : (c : ℕ) → is_text_char c ≡ true → is_char c ≡ true
text_is_char c h = (and_parts (is_char c) _ h).0

entity_chars : (e : Entity) → Chars (entity_name e)
entity_chars less_than = known refl
entity_chars greater_than = known refl
entity_chars ampersand = known refl
entity_chars apostrophe = known refl
entity_chars quotation = known refl

decimal_is_char : (c : ℕ) → is_decimal c ≡ true → is_char c ≡ true
decimal_is_char c = in_low 48 57 c (omega arith) (omega arith)

hexadecimal_is_char : (c : ℕ) → is_hexadecimal c ≡ true → is_char c ≡ true
hexadecimal_is_char c = either (is_decimal c) _ (decimal_is_char c) (either (between 65 70 c) _ (in_low 65 70 c (omega arith) (omega arith)) (in_low 97 102 c (omega arith) (omega arith)))

digits_chars : (p : ℕ → Bool) → ((c : ℕ) → p c ≡ true → is_char c ≡ true) → (ds : Digits) → AreDigits p ds → Chars (digits_spelling ds)
digits_chars p h no_digit g = known refl
digits_chars p h (digit ds c) g = both (digits_spelling ds) (c ∷ []) (digits_chars p h ds g.0) (one c (h c g.1))

reference_chars : (r : Reference) → IsReference r → Chars (reference_spelling r)
reference_chars (named e) g = cons 38 _ refl (both (entity_name e) (59 ∷ []) (entity_chars e) (known refl))
reference_chars (decimal_reference ds) g = cons 38 _ refl (cons 35 _ refl (both (digits_spelling ds) (59 ∷ []) (digits_chars is_decimal decimal_is_char ds g.0) (known refl)))
reference_chars (hexadecimal_reference ds) g = cons 38 _ refl (cons 35 _ refl (cons 120 _ refl (both (digits_spelling ds) (59 ∷ []) (digits_chars is_hexadecimal hexadecimal_is_char ds g.0) (known refl))))

value_chars : (q : ℕ) (v : AttributeValue) → IsValue q v → Chars (value_spelling v)
value_chars q blank_value g = known refl
value_chars q (value_char v c) g = both (value_spelling v) (c ∷ []) (value_chars q v g.0) (one c (text_is_char c (and_parts (is_text_char c) _ g.1).0))
value_chars q (value_reference v r) g = both (value_spelling v) (reference_spelling r) (value_chars q v g.0) (reference_chars r g.1)

attributes_chars : (ats : Attributes) → IsAttributes ats → Chars (attributes_spelling ats)
attributes_chars no_attribute g = known refl
attributes_chars (attribute ats h v) g =
    let k = g.1 in
    let quote = one h.quote (quote_is_char h.quote k.5) in
    both (attributes_spelling ats) _ (attributes_chars ats g.0)
    (both (head_spelling h) (value_spelling v ++ (h.quote ∷ []))
    (both h.gap _ (gap_chars h.gap k.0) (both h.name _ (name_chars h.name k.1) (both h.before _ (blank_chars h.before k.3) (cons 61 _ refl (both h.behind (h.quote ∷ []) (blank_chars h.behind k.4) quote)))))
    (both (value_spelling v) (h.quote ∷ []) (value_chars h.quote v g.2) quote))

comment_chars : (r : CommentText) → IsCommentText r → Chars (comment_spelling r)
comment_chars blank_comment g = known refl
comment_chars (plain r c) g = both (comment_spelling r) (c ∷ []) (comment_chars r g.0) (one c g.1)
comment_chars (dashed r c) g = both (comment_spelling r) (45 ∷ (c ∷ [])) (comment_chars r g.0) (cons 45 (c ∷ []) refl (one c g.1))

cdsect_chars : (d : CDSect) → IsCDSect d → Chars (cdsect_spelling d)
cdsect_chars blank_cdsect g = known refl
cdsect_chars (further d c) g = both (cdsect_spelling d) (c ∷ []) (cdsect_chars d g.0) (one c g.1)

instruction_chars : (d : InstructionData) → IsInstructionData d → Chars (data_spelling d)
instruction_chars blank_data g = known refl
instruction_chars (data_char d c) g = both (data_spelling d) (c ∷ []) (instruction_chars d g.0) (one c g.1)

declaration_chars : (d : Declaration) → IsDeclaration d → Chars (declaration_spelling d)
declaration_chars blank_declaration g = known refl
declaration_chars (doc_char d c) g = both (declaration_spelling d) (c ∷ []) (declaration_chars d g.0) (one c (and_parts (is_char c) _ g.1).0)
declaration_chars (literal d q l) g =
    let quote = quote_is_char q g.1 in
    both (declaration_spelling d) _ (declaration_chars d g.0)
    (cons q _ quote (both l (q ∷ []) (all (is_literal_char q) (λ c h. (and_parts (is_char c) _ h).0) l g.2) (one q quote)))

tag_chars : (n : List ℕ) (ats : Attributes) (sp more : List ℕ) → is_name n ≡ true → is_blank_text sp ≡ true → IsAttributes ats → Chars more → Chars (60 ∷ (n ++ (attributes_spelling ats ++ (sp ++ more))))
tag_chars n ats sp more h b g k = cons 60 _ refl (both n _ (name_chars n h) (both (attributes_spelling ats) _ (attributes_chars ats g) (both sp more (blank_chars sp b) k)))

content_chars : (b : Bool) (x : Content) → IsContent b x → Chars (spelling x)
content_chars b nothing g = known refl
content_chars b mark g = known refl
content_chars b (space y c) g = both (spelling y) (c ∷ []) (content_chars b y g.0) (one c (white_is_char c g.2))
content_chars b (char y c) g = both (spelling y) (c ∷ []) (content_chars b y g.0) (one c (text_is_char c g.2))
content_chars b (reference y r) g = both (spelling y) (reference_spelling r) (content_chars b y g.0) (reference_chars r g.2)
content_chars b (cdata y d) g = both (spelling y) _ (content_chars b y g.0) (both cdata_start _ (known refl) (both (cdsect_spelling d) (62 ∷ []) (cdsect_chars d g.2) (known refl)))
content_chars b (comment y r) g = both (spelling y) _ (content_chars b y g.0) (both comment_start _ (known refl) (both (comment_spelling r) _ (comment_chars r g.1) (known refl)))
content_chars b (bare y n) g = both (spelling y) _ (content_chars b y g.0) (cons 60 _ refl (cons 63 _ refl (both n _ (name_chars n g.1) (known refl))))
content_chars b (instruction y n c d) g = both (spelling y) _ (content_chars b y g.0) (cons 60 _ refl (cons 63 _ refl (both n _ (name_chars n g.1) (cons c _ (white_is_char c g.2) (both (data_spelling d) (62 ∷ []) (instruction_chars d g.3) (known refl))))))
content_chars b (doctype y q c d) g = both (spelling y) _ (content_chars b y g.0) (both doc_start _ (known refl) (both q _ (gap_chars q g.2) (cons c _ (start_is_char c g.3) (both (declaration_spelling d) (62 ∷ []) (declaration_chars d g.4) (known refl)))))
content_chars b (single y n ats sp) g = both (spelling y) _ (content_chars b y g.0) (tag_chars n ats sp (47 ∷ (62 ∷ [])) g.2 g.3 g.4 (known refl))
content_chars b (tagged y n ats sp k sp2) g =
    both (spelling y) _ (content_chars b y g.0)
    (both (start_tag_spelling n ats sp) (spelling k ++ end_tag_spelling n sp2) (tag_chars n ats sp (62 ∷ []) g.2 g.3 g.6 (known refl))
    (both (spelling k) (end_tag_spelling n sp2) (content_chars true k g.4)
    (cons 60 _ refl (cons 47 _ refl (both n _ (name_chars n g.2) (both sp2 (62 ∷ []) (blank_chars sp2 g.5) (known refl)))))))

-- a viable text is of Chars
pub viable_chars : (b : List ℕ) → Viable b → Chars b
viable_chars b v = front b v.more (subst Chars v.spelled.spelled (content_chars false v.spelled.content v.spelled.good))

-- a character that isn't a Char is a fault
pub not_char_bad : (b : List ℕ) (c : ℕ) → is_char c ≡ false → Viable (b ++ (c ∷ [])) → ⊥
not_char_bad b c h v = false≢true (sym h ∙ last b (viable_chars (b ++ (c ∷ [])) v).chars)
  where
    last : (b : List ℕ) → list_all is_char (b ++ (c ∷ [])) ≡ true → is_char c ≡ true
    last [] k = (and_parts (is_char c) true k).0
    last (d ∷ b) k = last b (and_parts (is_char d) (list_all is_char (b ++ (c ∷ []))) k).1

pub not_char_comes : (lim : Limits) (b : List ℕ) (c : ℕ) → is_char c ≡ false → Comes lim b c (AtSyntax (size b))
not_char_comes lim b c h = (refl, not_char_bad b c h)
