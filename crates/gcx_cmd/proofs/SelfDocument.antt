-- The document that is made from two numbers is spelled, and it has no fault.
use Rattle.std.proofs.Common.{ℕ, zero, suc, ◌≡◌, ◌+◌, ◌-◌, ◌*◌, ◌≤◌, ◌<◌, ◌^◌, eqb, Bool, true, List, [], ◌∷◌, ◌++◌, length, drop, refl, sym, ap, ◌∙◌, subst, append_assoc, append-nil, arith, length-append, length-drop}
use Rattle.std.specs.Prelude.{codes, decimal, nat_lt, not}
use Rattle.std.specs.List.{list_all}
use Rattle.std.specs.Str.{IsAscii}
use Rattle.std.specs.Str.Parse.{AllDigits}
use Rattle.std.proofs.lemmas.Bool.{and_parts, and_from, ne_eqb}
use Rattle.std.proofs.lemmas.Fmt.{decimal_is_IsNumeral, length-decimal-le, IsAscii-decimal}
use Rattle.std.proofs.lemmas.Str.{IsAscii-append, IsAscii-drop, IsUtf8-from_ascii, chars-IsAscii, scalars-chars, encodes-IsAscii}
use Rattle.std.proofs.lemmas.Str.Parse.{digit_from_value}
use lib.Utf8.{scalars, encodes}
use Rattle.gcx_base.specs.Characters.{is_char}
use Rattle.gcx_base.specs.Limits.{full_limits}
use Rattle.gcx_base.specs.Name.{is_name}
use Rattle.gcx_model.specs.Attributes.{is_text_char, no_attribute}
use Rattle.gcx_model.specs.Document.{Nodes}
use Rattle.gcx_model.specs.Grammar.{Content, nothing, char, tagged, start_tag_spelling, end_tag_spelling, spelling, IsContent, text_run, nodes, SpellsDocument}
use Rattle.gcx_model.specs.Within.{IsContentWithin, IsWithin as IsDocumentWithin}
use Rattle.doc_laws.proofs.References.{low_char}
use Rattle.doc_laws.proofs.Tests.{all_append}
use Rattle.doc_laws.proofs.Within.{no_fault_within}
use Rattle.tree_read.specs.Document.{BytesSpell}
use Rattle.gcx_gen.specs.Generated.{seven_digits, price_of, price_text, note_text, item, items, document}
use Rattle.gcx_cmd.specs.Main.{IsDocument}
use Rattle.gcx_cmd.proofs.Lists.{ascii_all}

-- ---- Texts of digits

abbrev zeros : List ℕ
zeros = codes "0000000"

digit_char : (c : ℕ) → 48 ≤ c → c ≤ 57 → is_text_char c ≡ true
digit_char c low high =
    and_from (is_char c) _ (low_char c (omega (arith, low)) (omega (arith, high)))
    (and_from (not (eqb c 60)) _ (ap not (ne_eqb c 60 (λ e. omega (arith, e, high)))) (ap not (ne_eqb c 38 (λ e. omega (arith, e, low)))))

digits_chars : (ds : List ℕ) → AllDigits 10 ds → list_all is_text_char ds ≡ true
digits_chars [] d = refl
digits_chars (c ∷ ds) d = let at = digit_from_value c d.0 in and_from (is_text_char c) _ (digit_char c at.0 at.1) (digits_chars ds d.1)

all_drop : (p : ℕ → Bool) (k : ℕ) (xs : List ℕ) → list_all p xs ≡ true → list_all p (drop k xs) ≡ true
all_drop p zero xs e = e
all_drop p (suc k) [] e = refl
all_drop p (suc k) (x ∷ xs) e = all_drop p k xs (and_parts (p x) (list_all p xs) e).1

-- characters of text, few of them
pub record IsShort (cs : List ℕ) : Type 0 where
  pub chars : list_all is_text_char cs ≡ true
  pub ascii : IsAscii cs
  pub few : length cs ≤ 17

short_decimal : (n : ℕ) → n < 2 ^ 32 → IsShort (decimal n)
short_decimal n small =
    let low : n < 2 ^ 64 = omega (arith, small) in
    let few : length (decimal n) ≤ 10 = length-decimal-le 10 n (omega arith) (omega (arith, small)) low in
    record { chars = digits_chars (decimal n) (decimal_is_IsNumeral n low).0.1; ascii = IsAscii-decimal n low; few = omega (arith, few) }

short_seven : (n : ℕ) → n < 2 ^ 32 → IsShort (seven_digits n)
short_seven n small =
    let low : n < 2 ^ 64 = omega (arith, small) in
    let few : length (decimal n) ≤ 10 = length-decimal-le 10 n (omega arith) (omega (arith, small)) low in
    let d = short_decimal n small in
    let k = length (decimal n) in
    let seven : length zeros ≡ 7 = refl in
    record {
      chars = all_append is_text_char (drop k zeros) (decimal n) (all_drop is_text_char k zeros refl) d.chars;
      ascii = IsAscii-append (drop k zeros) (decimal n) (IsAscii-drop zeros k (ascii_all zeros refl)) d.ascii;
      few = omega (arith, length-append (drop k zeros) (decimal n), length-drop k zeros, few, seven);
    }

-- ---- Content

-- behind content, the characters of a text
abbrev with_text : Content → List ℕ → Content
with_text x [] = x
with_text x (c ∷ cs) = with_text (char x c) cs

spelled_text : (x : Content) (cs : List ℕ) → spelling (with_text x cs) ≡ spelling x ++ cs
spelled_text x [] = sym (append-nil (spelling x))
spelled_text x (c ∷ cs) = spelled_text (char x c) cs ∙ append_assoc (spelling x) (c ∷ []) cs

good_text : (x : Content) (cs : List ℕ) → IsContent true x → list_all is_text_char cs ≡ true → IsContent true (with_text x cs)
good_text x [] g e = g
good_text x (c ∷ cs) g e = let both = and_parts (is_text_char c) (list_all is_text_char cs) e in good_text (char x c) cs (g, refl, both.0) both.1

run_text : (x : Content) (cs : List ℕ) → text_run (with_text x cs) ≡ text_run x ++ encodes cs
run_text x [] = sym (append-nil (text_run x))
run_text x (c ∷ cs) = run_text (char x c) cs ∙ append_assoc (text_run x) _ (encodes cs)

within_text : (d : ℕ) (x : Content) (cs : List ℕ) → IsContentWithin full_limits d x → IsContentWithin full_limits d (with_text x cs)
within_text d x [] w = w
within_text d x (c ∷ cs) w = within_text d (char x c) cs w

-- content between two tags behind content
abbrev in_tags : Content → List ℕ → Content → Content
in_tags x n inner = tagged x n no_attribute [] inner []

-- What stands inside elements at this depth, where nothing stands behind the last tag.
pub record IsInner (depth : ℕ) (x : Content) (cs : List ℕ) : Type 0 where
  pub good : IsContent true x
  pub spelled : spelling x ≡ cs
  pub within : IsContentWithin full_limits depth x
  pub no_run : text_run x ≡ []

inner_nothing : (d : ℕ) → IsInner d nothing []
inner_nothing d = record { good = tt; spelled = refl; within = tt; no_run = refl }

-- an element's name
pub record IsTagName (n : List ℕ) : Type 0 where
  pub name : is_name n ≡ true
  pub ascii : IsAscii n
  pub few : length n ≤ 1024

tag_name : (n : List ℕ) → is_name n ≡ true → list_all (λ c. nat_lt c 128) n ≡ true → length n ≤ 1024 → IsTagName n
tag_name n name ascii few = record { name = name; ascii = ascii_all n ascii; few = few }

few_bytes : (n : List ℕ) → IsTagName n → length (encodes n) ≤ 1024
few_bytes n t = omega (arith, ap length (encodes-IsAscii n t.ascii), t.few)

inner_tags : (d : ℕ) (x : Content) (cs n : List ℕ) (inner : Content) (ds : List ℕ) → d ≤ 1000 → IsInner d x cs → IsTagName n → IsContent true inner → spelling inner ≡ ds
    → IsContentWithin full_limits (d + 1) inner → length (text_run inner) ≤ 16777216 → IsInner d (in_tags x n inner) (cs ++ (start_tag_spelling n no_attribute [] ++ (ds ++ end_tag_spelling n [])))
inner_tags d x cs n inner ds low i t good spelled within short = record {
  good = (i.good, refl, t.name, refl, good, refl, tt);
  spelled = ap (λ (s : List ℕ). s ++ (start_tag_spelling n no_attribute [] ++ (spelling inner ++ end_tag_spelling n []))) i.spelled
      ∙ ap (λ (s : List ℕ). cs ++ (start_tag_spelling n no_attribute [] ++ (s ++ end_tag_spelling n []))) spelled;
  within = (i.within, (omega (arith, ap length i.no_run), low, few_bytes n t, tt), within, short);
  no_run = refl;
}

inner_leaf : (d : ℕ) (x : Content) (cs n ds : List ℕ) → d ≤ 1000 → IsInner d x cs → IsTagName n → IsShort ds → IsInner d (in_tags x n (with_text nothing ds)) (cs ++ (start_tag_spelling n no_attribute [] ++ (ds ++ end_tag_spelling n [])))
inner_leaf d x cs n ds low i t s =
    inner_tags d x cs n (with_text nothing ds) ds low i t (good_text nothing ds tt s.chars) (spelled_text nothing ds) (within_text (d + 1) nothing ds tt)
    (omega (arith, ap length (run_text nothing ds), ap length (encodes-IsAscii ds s.ascii), s.few))

-- ---- Items

small_price : (seed i : ℕ) → price_of seed i < 2 ^ 32
small_price seed i = omega arith

abbrev price_content : (seed i : ℕ) → Content
price_content seed i = in_tags nothing (codes "price") (with_text nothing (decimal (price_of seed i)))

abbrev leaves : (seed i : ℕ) → Content
leaves seed i = in_tags (price_content seed i) (codes "note") (with_text nothing (seven_digits i))

inner_leaves : (seed i : ℕ) → i < 2 ^ 32 → IsInner 3 (leaves seed i) (price_text seed i ++ note_text i)
inner_leaves seed i small =
    let price = inner_leaf 3 nothing [] (codes "price") (decimal (price_of seed i)) (omega arith) (inner_nothing 3) (tag_name (codes "price") refl refl (omega arith)) (short_decimal (price_of seed i) (small_price seed i)) in
    inner_leaf 3 (price_content seed i) (price_text seed i) (codes "note") (seven_digits i) (omega arith) price (tag_name (codes "note") refl refl (omega arith)) (short_seven i small)

abbrev item_content : Content → (seed i : ℕ) → Content
item_content x seed i = in_tags x (codes "item") (leaves seed i)

inner_item : (x : Content) (cs : List ℕ) (seed i : ℕ) → i < 2 ^ 32 → IsInner 2 x cs → IsInner 2 (item_content x seed i) (cs ++ item seed i)
inner_item x cs seed i small inner =
    let l = inner_leaves seed i small in
    let tagged = inner_tags 2 x cs (codes "item") (leaves seed i) (price_text seed i ++ note_text i) (omega arith) inner (tag_name (codes "item") refl refl (omega arith)) l.good l.spelled l.within (omega (arith, ap length l.no_run)) in
    subst (λ (s : List ℕ). IsInner 2 (item_content x seed i) (cs ++ (codes "<item>" ++ s))) (append_assoc (price_text seed i) (note_text i) (codes "</item>")) tagged

abbrev items_content : Content → (seed from count : ℕ) → Content
items_content x seed from zero = x
items_content x seed from (suc count) = items_content (item_content x seed from) seed (suc from) count

inner_items : (x : Content) (cs : List ℕ) (seed from count : ℕ) → from + count ≤ 2 ^ 32 → IsInner 2 x cs → IsInner 2 (items_content x seed from count) (cs ++ items seed from count)
inner_items x cs seed from zero small i = subst (IsInner 2 x) (sym (append-nil cs)) i
inner_items x cs seed from (suc count) small i =
    let next = inner_items (item_content x seed from) (cs ++ item seed from) seed (suc from) count (omega (arith, small)) (inner_item x cs seed from (omega (arith, small)) i) in
    subst (IsInner 2 (items_content x seed from (suc count))) (append_assoc cs (item seed from) (items seed (suc from) count)) next

-- ---- Bytes

ascii_between : (a bs c : List ℕ) → list_all (λ c. nat_lt c 128) a ≡ true → IsAscii bs → list_all (λ c. nat_lt c 128) c ≡ true → IsAscii (a ++ (bs ++ c))
ascii_between a bs c first middle last = IsAscii-append a (bs ++ c) (ascii_all a first) (IsAscii-append bs c middle (ascii_all c last))

ascii_item : (seed i : ℕ) → i < 2 ^ 32 → IsAscii (item seed i)
ascii_item seed i small =
    let price = ascii_between (codes "<price>") (decimal (price_of seed i)) (codes "</price>") refl (short_decimal (price_of seed i) (small_price seed i)).ascii refl in
    let note = ascii_between (codes "<note>") (seven_digits i) (codes "</note>") refl (short_seven i small).ascii refl in
    IsAscii-append (codes "<item>") (price_text seed i ++ (note_text i ++ codes "</item>")) (ascii_all (codes "<item>") refl)
    (IsAscii-append (price_text seed i) (note_text i ++ codes "</item>") price (IsAscii-append (note_text i) (codes "</item>") note (ascii_all (codes "</item>") refl)))

ascii_items : (seed from count : ℕ) → from + count ≤ 2 ^ 32 → IsAscii (items seed from count)
ascii_items seed from zero small = ascii_all [] refl
ascii_items seed from (suc count) small =
    IsAscii-append (item seed from) (items seed (suc from) count) (ascii_item seed from (omega (arith, small))) (ascii_items seed (suc from) count (omega (arith, small)))

few_between : (a ds b : List ℕ) → length ds ≤ 17 → length (a ++ (ds ++ b)) ≤ length a + 17 + length b
few_between a ds b few = omega (arith, length-append a (ds ++ b), length-append ds b, few)

few_item : (seed i : ℕ) → i < 2 ^ 32 → length (item seed i) ≤ 100
few_item seed i small =
    let p : length (price_text seed i) ≤ 32 = few_between (codes "<price>") (decimal (price_of seed i)) (codes "</price>") (short_decimal (price_of seed i) (small_price seed i)).few in
    let n : length (note_text i) ≤ 30 = few_between (codes "<note>") (seven_digits i) (codes "</note>") (short_seven i small).few in
    let ends : length (codes "<item>") + length (codes "</item>") ≡ 13 = refl in
    omega (arith, p, n, ends, length-append (codes "<item>") (price_text seed i ++ (note_text i ++ codes "</item>")), length-append (price_text seed i) (note_text i ++ codes "</item>"), length-append (note_text i) (codes "</item>"))

few_items : (seed from count : ℕ) → from + count ≤ 2 ^ 32 → length (items seed from count) ≤ count * 100
few_items seed from zero small = omega arith
few_items seed from (suc count) small =
    omega (arith, length-append (item seed from) (items seed (suc from) count), few_item seed from (omega (arith, small)), few_items seed (suc from) count (omega (arith, small)))

-- ---- The document

abbrev document_content : (seed count : ℕ) → Content
document_content seed count = in_tags nothing (codes "items") (items_content nothing seed 0 count)

ascii_document : (seed count : ℕ) → count < 2 ^ 32 → IsAscii (document seed count)
ascii_document seed count small =
    ascii_between (codes "<items>") (items seed 0 count) (codes "</items>") refl (ascii_items seed 0 count (omega (arith, small))) refl

few_document : (seed count : ℕ) → count < 2 ^ 32 → length (document seed count) ≤ 1099511627776
few_document seed count small =
    let ends : length (codes "<items>") + length (codes "</items>") ≡ 15 = refl in
    omega (arith, small, ends, length-append (codes "<items>") (items seed 0 count ++ codes "</items>"), length-append (items seed 0 count) (codes "</items>"), few_items seed 0 count (omega (arith, small)))

pub made_document : (seed count : ℕ) → count < 2 ^ 32 → (d : Nodes) × BytesSpell (document seed count) d × IsDocument (document seed count)
made_document seed count small =
    let bytes = document seed count in
    let content = document_content seed count in
    let ascii = ascii_document seed count small in
    let encoded = encodes-IsAscii bytes ascii in
    let characters : scalars bytes ≡ true = ap scalars (sym (chars-IsAscii bytes ascii)) ∙ scalars-chars bytes (IsUtf8-from_ascii bytes ascii) in
    let i = inner_items nothing [] seed 0 count (omega (arith, small)) (inner_nothing 2) in
    let name = tag_name (codes "items") refl refl (omega arith) in
    let spells : SpellsDocument bytes (nodes content) = record {
      content = content;
      good = (tt, refl, refl, refl, i.good, refl, tt);
      root = refl;
      spelled = ap (λ (s : List ℕ). codes "<items>" ++ (s ++ codes "</items>")) i.spelled;
      tree = refl;
    } in
    let within : IsDocumentWithin full_limits content = (tt, (omega arith, omega arith, few_bytes (codes "items") name, tt), i.within, omega (arith, ap length i.no_run)) in (
      nodes content,
      record { chars = bytes; characters = characters; encoded = sym encoded; spells = spells },
      subst IsDocument encoded ((no_fault_within full_limits bytes (nodes content) spells characters).1 (omega (arith, ap length encoded, few_document seed count small), within)),
    )
