-- The longest name at the front of a text.
use Rattle.std.proofs.Common.{ℕ, ◌≡◌, ◌==◌, Bool, true, false, not, ◌&&◌, ◌||◌, cond, List, [], ◌∷◌, ◌++◌, length, take, refl, sym, ap, ◌∙◌, subst}
use Rattle.std.specs.List.{list_all}
use Rattle.std.specs.Str.{encode_utf8_all}
use Rattle.std.proofs.lemmas.Bool.{and_parts, and_from, or_from, cond-true, not_from_false, or_parts, not-true, or_left}
use Rattle.std.proofs.Math.Seq.{take-append_seam}
use Rattle.gcx_base.specs.Characters.{is_start_char, is_part_char}
use Rattle.gcx_base.specs.Name.{is_name, IsNameBytes}
use Rattle.gcx_model.specs.Values.{is_digit_byte}
use Rattle.xq_lex.specs.Strings.{is_quote}
use Rattle.xq_lex.specs.Found.{of_variable, of_string, of_number, of_name, of_sign, kind_at}
use Rattle.xq_lex.specs.Names.{may_begin, may_go_on, is_pair, has_pair, is_query_name, parts_at, name_at}

abbrev may_go : ℕ → List ℕ → Bool
may_go c cs = may_go_on c && not (is_pair (c ∷ cs))

-- characters of a name, at none of which two colons begin
abbrev are_parts : (chars rest : List ℕ) → Bool
are_parts [] rest = true
are_parts (c ∷ cs) rest = may_go c (cs ++ rest) && are_parts cs rest

parts_from : (cs rest : List ℕ) → list_all is_part_char cs ≡ true → has_pair cs rest ≡ false → are_parts cs rest ≡ true
unfolding may_go_on
parts_from [] rest all apart = refl
parts_from (c ∷ cs) rest all apart =
    let both : (is_part_char c ≡ true) × (list_all is_part_char cs ≡ true) = and_parts (is_part_char c) (list_all is_part_char cs) all in
    let pairs : (is_pair (c ∷ (cs ++ rest)) ≡ false) × (has_pair cs rest ≡ false) = or_parts (is_pair (c ∷ (cs ++ rest))) (has_pair cs rest) apart in
    and_from (may_go c (cs ++ rest)) (are_parts cs rest) (and_from (is_part_char c) (not (is_pair (c ∷ (cs ++ rest)))) both.0 (not_from_false (is_pair (c ∷ (cs ++ rest))) pairs.0)) (parts_from cs rest both.1 pairs.1)

parts_all : (cs rest : List ℕ) → are_parts cs rest ≡ true → (list_all is_part_char cs ≡ true) × (has_pair cs rest ≡ false)
unfolding may_go_on
parts_all [] rest good = (refl, refl)
parts_all (c ∷ cs) rest good =
    let both : (may_go c (cs ++ rest) ≡ true) × (are_parts cs rest ≡ true) = and_parts (may_go c (cs ++ rest)) (are_parts cs rest) good in
    let here : (is_part_char c ≡ true) × (not (is_pair (c ∷ (cs ++ rest))) ≡ true) = and_parts (is_part_char c) (not (is_pair (c ∷ (cs ++ rest)))) both.0 in
    let more : (list_all is_part_char cs ≡ true) × (has_pair cs rest ≡ false) = parts_all cs rest both.1 in
    (and_from (is_part_char c) (list_all is_part_char cs) here.0 more.0, or_from (is_pair (c ∷ (cs ++ rest))) (has_pair cs rest) (not-true (is_pair (c ∷ (cs ++ rest))) here.1) more.1)

part_begins : (c : ℕ) → may_begin c ≡ true → may_go_on c ≡ true
unfolding may_begin may_go_on
part_begins c e = or_left (is_start_char c) _ e

-- A query's name, by its first character and its parts.
pub record IsParted (c : ℕ) (cs rest : List ℕ) : Type 0 where
  pub begins : may_begin c ≡ true
  pub parts : are_parts (c ∷ cs) rest ≡ true
  pub no_pair : is_pair (c ∷ (cs ++ rest)) ≡ false

pub name_parts : (c : ℕ) (cs rest : List ℕ) → is_query_name (c ∷ cs) rest ≡ true → IsParted c cs rest
unfolding may_begin
name_parts c cs rest good =
    let both : (is_name (c ∷ cs) ≡ true) × (not (has_pair (c ∷ cs) rest) ≡ true) = and_parts (is_name (c ∷ cs)) (not (has_pair (c ∷ cs) rest)) good in
    let name : (is_start_char c ≡ true) × (list_all is_part_char cs ≡ true) = and_parts (is_start_char c) (list_all is_part_char cs) both.0 in
    let apart : (is_pair (c ∷ (cs ++ rest)) ≡ false) × (has_pair cs rest ≡ false) = or_parts (is_pair (c ∷ (cs ++ rest))) (has_pair cs rest) (not-true (has_pair (c ∷ cs) rest) both.1) in
    record {
      begins = name.0;
      parts = and_from (may_go c (cs ++ rest)) (are_parts cs rest) (and_from (may_go_on c) (not (is_pair (c ∷ (cs ++ rest)))) (part_begins c name.0) (not_from_false (is_pair (c ∷ (cs ++ rest))) apart.0)) (parts_from cs rest name.1 apart.1);
      no_pair = apart.0;
    }

name_from : (c : ℕ) (cs rest : List ℕ) → may_begin c ≡ true → are_parts (c ∷ cs) rest ≡ true → is_query_name (c ∷ cs) rest ≡ true
unfolding may_begin
name_from c cs rest begins parts =
    let more : are_parts cs rest ≡ true = (and_parts (may_go c (cs ++ rest)) (are_parts cs rest) parts).1 in
    let all : (list_all is_part_char cs ≡ true) × (has_pair cs rest ≡ false) = parts_all cs rest more in
    let apart : has_pair (c ∷ cs) rest ≡ false = (parts_all (c ∷ cs) rest parts).1 in
    and_from (is_name (c ∷ cs)) (not (has_pair (c ∷ cs) rest)) (and_from (is_start_char c) (list_all is_part_char cs) begins all.0) (not_from_false (has_pair (c ∷ cs) rest) apart)

-- all parts are found, and then more
pub parts_at-append : (chars rest : List ℕ) → are_parts chars rest ≡ true → parts_at (chars ++ rest) ≡ chars ++ parts_at rest
parts_at-append [] rest good = refl
parts_at-append (c ∷ cs) rest good =
    let both : (may_go c (cs ++ rest) ≡ true) × (are_parts cs rest ≡ true) = and_parts (may_go c (cs ++ rest)) (are_parts cs rest) good in
    cond-true (may_go c (cs ++ rest)) (c ∷ parts_at (cs ++ rest)) [] both.0 ∙ ap (λ x. c ∷ x) (parts_at-append cs rest both.1)

pub record IsFront (text : List ℕ) (parts : List ℕ) : Type 0 where
  pub rest : List ℕ
  pub chars : text ≡ parts ++ rest
  pub good : are_parts parts rest ≡ true

parts_step : (c : ℕ) (cs : List ℕ) (b : Bool) → may_go c cs ≡ b → IsFront cs (parts_at cs) → IsFront (c ∷ cs) (cond b (c ∷ parts_at cs) [])
parts_step c cs true e f = record {
  rest = f.rest;
  chars = ap (λ x. c ∷ x) f.chars;
  good = and_from (may_go c (parts_at cs ++ f.rest)) (are_parts (parts_at cs) f.rest) (subst (λ (x : List ℕ). may_go c x ≡ true) f.chars e) f.good;
}
parts_step c cs false e f = record { rest = c ∷ cs; chars = refl; good = refl }

pub parts_front : (text : List ℕ) → IsFront text (parts_at text)
parts_front [] = record { rest = []; chars = refl; good = refl }
parts_front (c ∷ cs) = parts_step c cs (may_go c cs) refl (parts_front cs)

-- what is found is a name, and begins the text
pub record HasName (text : List ℕ) (chars : List ℕ) : Type 0 where
  pub rest : List ℕ
  pub front : text ≡ chars ++ rest
  pub good : is_query_name chars rest ≡ true

name_found : (c : ℕ) (cs : List ℕ) (d : ℕ) (ds found : List ℕ) → may_begin c ≡ true → IsFront (c ∷ cs) found → found ≡ d ∷ ds → HasName (c ∷ cs) (d ∷ ds)
name_found c cs d ds found starts f e =
    let g : IsFront (c ∷ cs) (d ∷ ds) = subst (λ (x : List ℕ). IsFront (c ∷ cs) x) e f in
    let same : c ≡ d = cc (g.chars) in
    record { rest = g.rest; front = g.chars; good = name_from d ds g.rest (subst (λ (x : ℕ). may_begin x ≡ true) same starts) g.good }

name_step : (c : ℕ) (cs : List ℕ) (d : ℕ) (ds : List ℕ) (b : Bool) → may_begin c ≡ b → cond b (parts_at (c ∷ cs)) [] ≡ d ∷ ds → HasName (c ∷ cs) (d ∷ ds)
name_step c cs d ds true starts e = name_found c cs d ds (parts_at (c ∷ cs)) starts (parts_front (c ∷ cs)) e
name_step c cs d ds false starts e = cc (e)

pub name_front : (text : List ℕ) (d : ℕ) (ds : List ℕ) → name_at text ≡ d ∷ ds → HasName text (d ∷ ds)
name_front [] d ds e = cc (e)
name_front (c ∷ cs) d ds e = name_step c cs d ds (may_begin c) refl e

-- a name at the front is found, or a longer one
pub name_at-append : (chars rest : List ℕ) → is_query_name chars rest ≡ true → name_at (chars ++ rest) ≡ chars ++ parts_at rest
name_at-append [] rest good = cc (good)
name_at-append (c ∷ cs) rest good =
    let parted : IsParted c cs rest = name_parts c cs rest good in
    cond-true (may_begin c) (parts_at (c ∷ (cs ++ rest))) [] parted.begins ∙ parts_at-append (c ∷ cs) rest parted.parts

-- what is found is a name of XML
pub found_named : (text : List ℕ) (d : ℕ) (ds : List ℕ) → name_at text ≡ d ∷ ds → is_name (d ∷ ds) ≡ true
found_named text d ds e = let h : HasName text (d ∷ ds) = name_front text d ds e in (and_parts (is_name (d ∷ ds)) (not (has_pair (d ∷ ds) h.rest)) h.good).0

-- and its bytes are those of one
pub name_bytes : (chars : List ℕ) → is_name chars ≡ true → IsNameBytes (encode_utf8_all chars)
name_bytes chars name = record { chars = chars; name = name; parts = refl }

name_case : (a b d e : Bool) → cond a of_variable (cond b of_string (cond d of_number (cond e of_name of_sign))) ≡ of_name → e ≡ true
name_case true b d e k = cc (k)
name_case false true d e k = cc (k)
name_case false false true e k = cc (k)
name_case false false false true k = refl
name_case false false false false k = cc (k)

-- where a name begins, one is found
pub name_some : (text : List ℕ) → kind_at text ≡ of_name → name_at text ≡ [] → ⊥
unfolding kind_at
name_some [] kind none = cc (kind)
name_some (c ∷ cs) kind none =
    let begins : (may_begin c && not (is_pair (c ∷ cs))) ≡ true = name_case (c == 36) (is_quote c) ((c == 45) || is_digit_byte c) (may_begin c && not (is_pair (c ∷ cs))) kind in
    let both : (may_begin c ≡ true) × (not (is_pair (c ∷ cs)) ≡ true) = and_parts (may_begin c) (not (is_pair (c ∷ cs))) begins in
    let goes : may_go c cs ≡ true = and_from (may_go_on c) (not (is_pair (c ∷ cs))) (part_begins c both.0) both.1 in
    let found : c ∷ parts_at cs ≡ [] = sym (cond-true (may_begin c) (parts_at (c ∷ cs)) [] both.0 ∙ cond-true (may_go c cs) (c ∷ parts_at cs) [] goes) ∙ none in
    cc (found)

-- the parts are as many as were counted
pub counted_parts : (text : List ℕ) (len : ℕ) → len ≡ length (parts_at text) → take len text ≡ parts_at text
counted_parts text len e = by (parts_front text)
  where
    by : IsFront text (parts_at text) → take len text ≡ parts_at text
    by f = ap (λ n. take n text) e ∙ (ap (λ (x : List ℕ). take (length (parts_at text)) x) f.chars ∙ take-append_seam (parts_at text) f.rest)
