-- Names, white space and the attributes of a tag (XML 1.0, sections 2.3 and 3.1).
use Rattle.std.specs.Prelude.{ℕ, Bool, true, false, not, ◌&&◌, ◌||◌, ◌==◌, ◌≡◌, List, [], ◌∷◌, ◌++◌, bytes_eq}
use Rattle.std.specs.List.{list_all}
use lib.Utf8.{encode, encodes}
use Rattle.gcx_base.specs.Characters.{is_char, is_white}
pub use Rattle.gcx_base.specs.Name.{is_name, IsNameBytes}
use Rattle.gcx_model.specs.References.{Reference, reference_spelling, reference_char, IsReference}

-- white space, or nothing
abbrev pub is_blank_text : List ℕ → Bool
is_blank_text text = list_all is_white text

-- white space, at least one character
abbrev pub is_gap : List ℕ → Bool
is_gap [] = false
is_gap (c ∷ cs) = is_white c && list_all is_white cs

abbrev pub is_quote : ℕ → Bool
is_quote c = (c == 34) || (c == 39)

-- a Char other than '<' and '&'
abbrev pub is_text_char : ℕ → Bool
is_text_char c = is_char c && (not (c == 60) && not (c == 38))

-- in a value between quotes of this kind
abbrev pub is_value_char : (quote : ℕ) → ℕ → Bool
is_value_char q c = is_text_char c && not (c == q)

-- the name is none of these
abbrev pub is_fresh : List ℕ → List (List ℕ) → Bool
is_fresh m [] = true
is_fresh m (n ∷ ns) = not (bytes_eq m n) && is_fresh m ns

-- The text of a value, built at its end.
pub data AttributeValue : Type 0 where
  blank_value : AttributeValue
  value_char : (before : AttributeValue) (c : ℕ) → AttributeValue
  value_reference : (before : AttributeValue) (r : Reference) → AttributeValue

-- What stands before a value: white space, a name, white space, '=', white space and the quote.
pub record Head : Type 0 where
  pub gap : List ℕ
  pub name : List ℕ
  pub before : List ℕ
  pub behind : List ℕ
  pub quote : ℕ

-- The attributes of a tag: none; or attributes and one more.
pub data Attributes : Type 0 where
  no_attribute : Attributes
  attribute : (before : Attributes) (head : Head) (value : AttributeValue) → Attributes

abbrev pub value_spelling : AttributeValue → List ℕ
value_spelling blank_value = []
value_spelling (value_char v c) = value_spelling v ++ (c ∷ [])
value_spelling (value_reference v r) = value_spelling v ++ reference_spelling r

abbrev pub head_spelling : Head → List ℕ
head_spelling h = h.gap ++ (h.name ++ (h.before ++ (61 ∷ (h.behind ++ (h.quote ∷ [])))))

abbrev pub attributes_spelling : Attributes → List ℕ
attributes_spelling no_attribute = []
attributes_spelling (attribute ats h v) = attributes_spelling ats ++ (head_spelling h ++ (value_spelling v ++ (h.quote ∷ [])))

-- their names as bytes, the last one first
abbrev pub attribute_names : Attributes → List (List ℕ)
attribute_names no_attribute = []
attribute_names (attribute ats h v) = encodes h.name ∷ attribute_names ats

abbrev pub IsValue : (quote : ℕ) → AttributeValue → Type 0
IsValue q blank_value = Unit {0}
IsValue q (value_char v c) = IsValue q v × (is_value_char q c ≡ true)
IsValue q (value_reference v r) = IsValue q v × IsReference r

-- a head behind attributes of these names, of which it is none
abbrev pub IsHead : (taken : List (List ℕ)) → Head → Type 0
IsHead taken h = (is_gap h.gap ≡ true) × (is_name h.name ≡ true) × (is_fresh (encodes h.name) taken ≡ true) × (is_blank_text h.before ≡ true) × (is_blank_text h.behind ≡ true) × (is_quote h.quote ≡ true)

abbrev pub IsAttributes : Attributes → Type 0
IsAttributes no_attribute = Unit {0}
IsAttributes (attribute ats h v) = IsAttributes ats × IsHead (attribute_names ats) h × IsValue h.quote v

-- the bytes of a value
abbrev pub value_run : AttributeValue → List ℕ
value_run blank_value = []
value_run (value_char v c) = value_run v ++ encode c
value_run (value_reference v r) = value_run v ++ encode (reference_char r)
