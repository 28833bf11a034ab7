-- Comments, processing instructions, CDATA sections and document type declarations (XML 1.0, sections 2.5 to 2.8;
-- that a processing instruction may have any target, and what stands in a document type declaration, is this project's).
use Rattle.std.specs.Prelude.{ℕ, Bool, true, false, not, ◌&&◌, ◌==◌, ◌≡◌, cond, replicate, List, [], ◌∷◌, ◌++◌}
use Rattle.std.specs.List.{list_all}
use lib.Utf8.{encode}
use Rattle.gcx_base.specs.Characters.{is_char}
use Rattle.gcx_model.specs.Attributes.{is_quote}

-- The text of a comment: characters other than '-', each behind at most one '-'.
pub data CommentText : Type 0 where
  blank_comment : CommentText
  plain : (before : CommentText) (c : ℕ) → CommentText
  dashed : (before : CommentText) (c : ℕ) → CommentText

-- The characters of a CDATA section behind its '<![CDATA[', without the last '>'.
pub data CDSect : Type 0 where
  blank_cdsect : CDSect
  further : (before : CDSect) (c : ℕ) → CDSect

-- The characters of a processing instruction behind its target and a white space, without the last '>'.
pub data InstructionData : Type 0 where
  blank_data : InstructionData
  data_char : (before : InstructionData) (c : ℕ) → InstructionData

-- What stands in a document type declaration behind the first character of its name: characters and literals.
pub data Declaration : Type 0 where
  blank_declaration : Declaration
  doc_char : (before : Declaration) (c : ℕ) → Declaration
  literal : (before : Declaration) (quote : ℕ) (characters : List ℕ) → Declaration

abbrev pub comment_spelling : CommentText → List ℕ
comment_spelling blank_comment = []
comment_spelling (plain r c) = comment_spelling r ++ (c ∷ [])
comment_spelling (dashed r c) = comment_spelling r ++ (45 ∷ (c ∷ []))

-- <!--
abbrev pub comment_start : List ℕ
comment_start = 60 ∷ (33 ∷ (45 ∷ (45 ∷ [])))

abbrev pub IsCommentText : CommentText → Type 0
IsCommentText blank_comment = Unit {0}
IsCommentText (plain r c) = IsCommentText r × (is_char c ≡ true) × ((c == 45) ≡ false)
IsCommentText (dashed r c) = IsCommentText r × (is_char c ≡ true) × ((c == 45) ≡ false)

-- CDATA
abbrev pub cdata_word : List ℕ
cdata_word = 67 ∷ (68 ∷ (65 ∷ (84 ∷ (65 ∷ []))))

-- <![CDATA[
abbrev pub cdata_start : List ℕ
cdata_start = 60 ∷ (33 ∷ (91 ∷ (cdata_word ++ (91 ∷ []))))

abbrev pub cdsect_spelling : CDSect → List ℕ
cdsect_spelling blank_cdsect = []
cdsect_spelling (further d c) = cdsect_spelling d ++ (c ∷ [])

-- how many brackets stand at the end, up to two
abbrev pub one_more : ℕ → ℕ
one_more n = cond (n == 0) 1 2

abbrev pub brackets : CDSect → ℕ
brackets blank_cdsect = 0
brackets (further d c) = cond (c == 93) (one_more (brackets d)) 0

abbrev pub ends_cdsect : CDSect → ℕ → Bool
ends_cdsect d c = (c == 62) && (brackets d == 2)

-- no ']]>' is in it
abbrev pub IsCDSect : CDSect → Type 0
IsCDSect blank_cdsect = Unit {0}
IsCDSect (further d c) = IsCDSect d × (is_char c ≡ true) × (ends_cdsect d c ≡ false)

-- the bytes of its characters, but for the brackets at the end that can belong to ']]>'
abbrev pub settled : CDSect → List ℕ
settled blank_cdsect = []
settled (further d c) = cond (c == 93) (cond (brackets d == 2) (settled d ++ (93 ∷ [])) (settled d)) (settled d ++ (replicate (brackets d) 93 ++ encode c))

abbrev pub data_spelling : InstructionData → List ℕ
data_spelling blank_data = []
data_spelling (data_char d c) = data_spelling d ++ (c ∷ [])

-- whether a question mark stands at the end
abbrev pub marks : InstructionData → ℕ
marks blank_data = 0
marks (data_char d c) = cond (c == 63) 1 0

abbrev pub ends_data : InstructionData → ℕ → Bool
ends_data d c = (c == 62) && (marks d == 1)

-- no '?>' is in it
abbrev pub IsInstructionData : InstructionData → Type 0
IsInstructionData blank_data = Unit {0}
IsInstructionData (data_char d c) = IsInstructionData d × (is_char c ≡ true) × (ends_data d c ≡ false)

-- OCTYPE
abbrev pub doc_word : List ℕ
doc_word = 79 ∷ (67 ∷ (84 ∷ (89 ∷ (80 ∷ (69 ∷ [])))))

-- <!DOCTYPE
abbrev pub doc_start : List ℕ
doc_start = 60 ∷ (33 ∷ (68 ∷ doc_word))

-- outside literals
abbrev pub is_doc_char : ℕ → Bool
is_doc_char c = is_char c && (not (is_quote c) && (not (c == 91) && (not (c == 60) && not (c == 62))))

abbrev pub is_literal_char : (quote : ℕ) → ℕ → Bool
is_literal_char q c = is_char c && not (c == q)

abbrev pub declaration_spelling : Declaration → List ℕ
declaration_spelling blank_declaration = []
declaration_spelling (doc_char d c) = declaration_spelling d ++ (c ∷ [])
declaration_spelling (literal d q l) = declaration_spelling d ++ (q ∷ (l ++ (q ∷ [])))

abbrev pub IsDeclaration : Declaration → Type 0
IsDeclaration blank_declaration = Unit {0}
IsDeclaration (doc_char d c) = IsDeclaration d × (is_doc_char c ≡ true)
IsDeclaration (literal d q l) = IsDeclaration d × (is_quote q ≡ true) × (list_all (is_literal_char q) l ≡ true)
