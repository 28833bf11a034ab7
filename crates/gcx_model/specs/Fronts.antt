-- The fronts of documents, as a grammar: the open elements with the content before each, content, and what is begun
-- (XML 1.0, sections 2.1 to 2.8 and 3.1; fronts are this project's).
use Rattle.std.specs.Prelude.{ℕ, ◌≡◌, ◌+◌, Bool, true, false, List, [], ◌∷◌, ◌++◌, if◌then◌else◌}
use Rattle.std.specs.List.{list_all}
use lib.Utf8.{encodes}
use Rattle.gcx_base.specs.Characters.{is_white, is_start_char}
use Rattle.gcx_model.specs.Document.{is_blank, tokens}
use Rattle.gcx_model.specs.Tree.{TreeToken, Start, Chars}
use Rattle.gcx_model.specs.References.{BegunReference, begun_spelling, IsBegun}
use Rattle.gcx_model.specs.Attributes.{is_name, is_blank_text, is_gap, is_quote, is_fresh, AttributeValue, Head, Attributes, no_attribute, attribute, value_spelling, head_spelling, attributes_spelling, attribute_names, IsValue, IsHead, IsAttributes, value_run}
use Rattle.gcx_model.specs.Markup.{CommentText, comment_spelling, comment_start, IsCommentText, CDSect, cdata_word, cdata_start, cdsect_spelling, IsCDSect, settled, InstructionData, data_spelling, IsInstructionData, Declaration, doc_word, doc_start, is_literal_char, declaration_spelling, IsDeclaration}
use Rattle.gcx_model.specs.Grammar.{Content, start_tag_spelling, spelling, has_element, has_type, may_type, may_open, IsContent, text_run, attribute_nodes, nodes}

-- the open elements, the innermost last: with each the content before it
pub data Frames : Type 0 where
  bottom : Frames
  frame : (outer : Frames) (before : Content) (name : List ℕ) (ats : Attributes) (sp : List ℕ) → Frames

-- what stands behind a tag's name and whole attributes: nothing; white space; or a begun attribute
pub data Part : Type 0 where
  no_part : Part
  spaced : (gap : List ℕ) → Part
  part_name : (gap : List ℕ) (read : List ℕ) → Part
  name_spaced : (gap : List ℕ) (name : List ℕ) (sp : List ℕ) → Part
  equals : (gap : List ℕ) (name : List ℕ) (sp : List ℕ) (sp2 : List ℕ) → Part
  value_part : (head : Head) (value : AttributeValue) → Part
  value_amp : (head : Head) (value : AttributeValue) (begun : BegunReference) → Part

-- a begun tag, comment, processing instruction, declaration, section or reference; of a word that is known the characters read and those to come
pub data Piece : Type 0 where
  no_piece : Piece
  less : Piece
  started : (read : List ℕ) → Piece
  tag : (name : List ℕ) (ats : Attributes) (part : Part) → Piece
  slashed : (name : List ℕ) (ats : Attributes) (sp : List ℕ) → Piece
  ending : (read : List ℕ) (left : List ℕ) → Piece
  ended : (name : List ℕ) (sp : List ℕ) (c : ℕ) → Piece
  question : Piece
  target : (read : List ℕ) → Piece
  target_mark : (name : List ℕ) → Piece
  in_instruction : (name : List ℕ) (c : ℕ) (instruction_data : InstructionData) → Piece
  doc_wording : (read : List ℕ) (left : List ℕ) → Piece
  doc_gap : (gap : List ℕ) → Piece
  doc : (gap : List ℕ) (c : ℕ) (declaration : Declaration) → Piece
  doc_literal : (gap : List ℕ) (c : ℕ) (declaration : Declaration) (quote : ℕ) (characters : List ℕ) → Piece
  bang : Piece
  bang_dash : Piece
  in_comment : CommentText → Piece
  comment_dash : CommentText → Piece
  comment_end : CommentText → Piece
  cdsect_word : (read : List ℕ) (left : List ℕ) → Piece
  in_cdsect : CDSect → Piece
  amp : (begun : BegunReference) → Piece

abbrev pub frames_spelling : Frames → List ℕ
frames_spelling bottom = []
frames_spelling (frame fs x n ats sp) = frames_spelling fs ++ (spelling x ++ start_tag_spelling n ats sp)

abbrev pub part_spelling : Part → List ℕ
part_spelling no_part = []
part_spelling (spaced g) = g
part_spelling (part_name g m) = g ++ m
part_spelling (name_spaced g m sp) = g ++ (m ++ sp)
part_spelling (equals g m sp sp2) = g ++ (m ++ (sp ++ (61 ∷ sp2)))
part_spelling (value_part h v) = head_spelling h ++ value_spelling v
part_spelling (value_amp h v r) = head_spelling h ++ (value_spelling v ++ begun_spelling r)

abbrev pub piece_spelling : Piece → List ℕ
piece_spelling no_piece = []
piece_spelling less = 60 ∷ []
piece_spelling (started n) = 60 ∷ n
piece_spelling (tag n ats p) = 60 ∷ (n ++ (attributes_spelling ats ++ part_spelling p))
piece_spelling (slashed n ats sp) = 60 ∷ (n ++ (attributes_spelling ats ++ (sp ++ (47 ∷ []))))
piece_spelling (ending m r) = 60 ∷ (47 ∷ m)
piece_spelling (ended n sp c) = 60 ∷ (47 ∷ (n ++ (sp ++ (c ∷ []))))
piece_spelling question = 60 ∷ (63 ∷ [])
piece_spelling (target n) = 60 ∷ (63 ∷ n)
piece_spelling (target_mark n) = 60 ∷ (63 ∷ (n ++ (63 ∷ [])))
piece_spelling (in_instruction n c d) = 60 ∷ (63 ∷ (n ++ (c ∷ data_spelling d)))
piece_spelling (doc_wording m r) = 60 ∷ (33 ∷ (68 ∷ m))
piece_spelling (doc_gap g) = doc_start ++ g
piece_spelling (doc g c d) = doc_start ++ (g ++ (c ∷ declaration_spelling d))
piece_spelling (doc_literal g c d q l) = doc_start ++ (g ++ (c ∷ (declaration_spelling d ++ (q ∷ l))))
piece_spelling bang = 60 ∷ (33 ∷ [])
piece_spelling bang_dash = 60 ∷ (33 ∷ (45 ∷ []))
piece_spelling (in_comment r) = comment_start ++ comment_spelling r
piece_spelling (comment_dash r) = comment_start ++ (comment_spelling r ++ (45 ∷ []))
piece_spelling (comment_end r) = comment_start ++ (comment_spelling r ++ (45 ∷ (45 ∷ [])))
piece_spelling (cdsect_word m r) = 60 ∷ (33 ∷ (91 ∷ m))
piece_spelling (in_cdsect d) = cdata_start ++ cdsect_spelling d
piece_spelling (amp r) = begun_spelling r

abbrev pub front_spelling : Frames → Content → Piece → List ℕ
front_spelling fs x p = (frames_spelling fs ++ spelling x) ++ piece_spelling p

-- the names of the open elements as bytes, the innermost first
abbrev pub names : Frames → List (List ℕ)
names bottom = []
names (frame fs x n ats sp) = encodes n ∷ names fs

abbrev pub is_inside : List (List ℕ) → Bool
is_inside [] = false
is_inside (n ∷ ns) = true

-- whether an element is open
abbrev pub inside : Frames → Bool
inside fs = is_inside (names fs)

-- how many elements are open
abbrev pub depth : Frames → ℕ
depth bottom = 0
depth (frame fs x n ats sp) = depth fs + 1

abbrev pub IsFrames : Frames → Type 0
IsFrames bottom = Unit {0}
IsFrames (frame fs x n ats sp) = IsFrames fs × IsContent (inside fs) x × (may_open (inside fs) (has_element x) ≡ true) × (is_name n ≡ true) × (is_blank_text sp ≡ true) × IsAttributes ats

-- the name of the innermost element
abbrev pub IsInnermost : Frames → List ℕ → Type 0
IsInnermost bottom m = ⊥
IsInnermost (frame fs x n ats sp) m = m ≡ n

abbrev pub has_attribute : Attributes → Bool
has_attribute no_attribute = false
has_attribute (attribute ats h v) = true

-- a begun attribute behind attributes: an earlier name may begin a name, and no more
abbrev pub IsPart : Attributes → Part → Type 0
IsPart ats no_part = has_attribute ats ≡ true
IsPart ats (spaced g) = is_gap g ≡ true
IsPart ats (part_name g m) = (is_gap g ≡ true) × (is_name m ≡ true)
IsPart ats (name_spaced g m sp) = (is_gap g ≡ true) × (is_name m ≡ true) × (is_fresh (encodes m) (attribute_names ats) ≡ true) × (is_gap sp ≡ true)
IsPart ats (equals g m sp sp2) = (is_gap g ≡ true) × (is_name m ≡ true) × (is_fresh (encodes m) (attribute_names ats) ≡ true) × (is_blank_text sp ≡ true) × (is_blank_text sp2 ≡ true)
IsPart ats (value_part h v) = IsHead (attribute_names ats) h × IsValue h.quote v
IsPart ats (value_amp h v r) = IsHead (attribute_names ats) h × IsValue h.quote v × IsBegun r

abbrev pub IsPiece : Frames → Content → Piece → Type 0
IsPiece fs x no_piece = Unit {0}
IsPiece fs x less = Unit {0}
IsPiece fs x (started n) = (may_open (inside fs) (has_element x) ≡ true) × (is_name n ≡ true)
IsPiece fs x (tag n ats p) = (may_open (inside fs) (has_element x) ≡ true) × (is_name n ≡ true) × IsAttributes ats × IsPart ats p
IsPiece fs x (slashed n ats sp) = (may_open (inside fs) (has_element x) ≡ true) × (is_name n ≡ true) × IsAttributes ats × (is_blank_text sp ≡ true)
IsPiece fs x (ending m r) = IsInnermost fs (m ++ r)
IsPiece fs x (ended n sp c) = IsInnermost fs n × (is_blank_text sp ≡ true) × (is_white c ≡ true)
IsPiece fs x question = Unit {0}
IsPiece fs x (target n) = is_name n ≡ true
IsPiece fs x (target_mark n) = is_name n ≡ true
IsPiece fs x (in_instruction n c d) = (is_name n ≡ true) × (is_white c ≡ true) × IsInstructionData d
IsPiece fs x (doc_wording m r) = (may_type (inside fs) (has_type x) ≡ true) × (m ++ r ≡ doc_word)
IsPiece fs x (doc_gap g) = (may_type (inside fs) (has_type x) ≡ true) × (is_gap g ≡ true)
IsPiece fs x (doc g c d) = (may_type (inside fs) (has_type x) ≡ true) × (is_gap g ≡ true) × (is_start_char c ≡ true) × IsDeclaration d
IsPiece fs x (doc_literal g c d q l) = (may_type (inside fs) (has_type x) ≡ true) × (is_gap g ≡ true) × (is_start_char c ≡ true) × IsDeclaration d × (is_quote q ≡ true) × (list_all (is_literal_char q) l ≡ true)
IsPiece fs x bang = Unit {0}
IsPiece fs x bang_dash = Unit {0}
IsPiece fs x (in_comment r) = IsCommentText r
IsPiece fs x (comment_dash r) = IsCommentText r
IsPiece fs x (comment_end r) = IsCommentText r
IsPiece fs x (cdsect_word m r) = (inside fs ≡ true) × (m ++ r ≡ cdata_word)
IsPiece fs x (in_cdsect d) = (inside fs ≡ true) × IsCDSect d
IsPiece fs x (amp r) = (inside fs ≡ true) × IsBegun r

abbrev pub IsFront : Frames → Content → Piece → Type 0
IsFront fs x p = IsFrames fs × IsContent (inside fs) x × IsPiece fs x p

-- c is the open elements, the content and the piece
pub record OpensFrames (c : List ℕ) (fs : Frames) (x : Content) (p : Piece) : Type 0 where
  pub good : IsFront fs x p
  pub spelled : front_spelling fs x p ≡ c

-- the bytes of the run that is being read: of an attribute's value, or of the content
abbrev pub part_run : Part → List ℕ
part_run (value_part h v) = value_run v
part_run (value_amp h v r) = value_run v
part_run other = []

abbrev pub piece_run : Content → Piece → List ℕ
piece_run x (in_cdsect d) = text_run x ++ settled d
piece_run x (tag n ats p) = part_run p
piece_run x (slashed n ats sp) = []
piece_run x other = text_run x

-- the name of a start tag or of an attribute that is being read, or nothing
abbrev pub part_naming : Part → List ℕ
part_naming (part_name g m) = m
part_naming other = []

abbrev pub naming : Piece → List ℕ
naming (started n) = n
naming (tag n ats p) = part_naming p
naming other = []

-- a run as a token, unless it is empty or only white space
abbrev pub text_of : List ℕ → List TreeToken
text_of r = if is_blank r then [] else (Chars r ∷ [])

-- the tokens of the open elements, each with the content before it
abbrev pub frames_tokens : Frames → List TreeToken
frames_tokens bottom = []
frames_tokens (frame fs x n ats sp) = (frames_tokens fs ++ tokens (nodes x)) ++ (text_of (text_run x) ++ (Start (encodes n) ∷ tokens (attribute_nodes ats)))

-- the tokens of the whole tags of a front
abbrev pub seen_tokens : Frames → Content → List TreeToken
seen_tokens fs x = frames_tokens fs ++ tokens (nodes x)
