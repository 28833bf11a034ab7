-- Which characters spell which document: the whole grammar as derivations, each built at its end (XML 1.0, sections 2.1 to 2.8 and 3.1).
use Rattle.std.specs.Prelude.{ℕ, Bool, true, false, not, ◌||◌, ◌≡◌, cond, List, [], ◌∷◌, ◌++◌}
use lib.Utf8.{encode, encodes}
use Rattle.gcx_base.specs.Characters.{is_white, is_start_char}
use Rattle.gcx_model.specs.Document.{Nodes, none, element, text, is_blank}
use Rattle.gcx_model.specs.References.{Reference, reference_spelling, reference_char, IsReference}
use Rattle.gcx_model.specs.Attributes.{is_name, is_blank_text, is_gap, is_text_char, Attributes, no_attribute, attribute, attributes_spelling, IsAttributes, value_run}
use Rattle.gcx_model.specs.Markup.{CommentText, comment_spelling, comment_start, IsCommentText, CDSect, cdata_start, cdsect_spelling, brackets, IsCDSect, settled, InstructionData, data_spelling, marks, IsInstructionData, Declaration, doc_start, declaration_spelling, IsDeclaration}

-- What stands between two tags or outside them: nothing, or a byte order mark; or content and behind it one thing more.
pub data Content : Type 0 where
  nothing : Content
  mark : Content
  -- white space outside the root
  space : (before : Content) (c : ℕ) → Content
  -- a character of text
  char : (before : Content) (c : ℕ) → Content
  reference : (before : Content) (r : Reference) → Content
  cdata : (before : Content) (cdsect : CDSect) → Content
  comment : (before : Content) (comment_text : CommentText) → Content
  -- a processing instruction that is its target alone
  bare : (before : Content) (target : List ℕ) → Content
  instruction : (before : Content) (target : List ℕ) (c : ℕ) (instruction_data : InstructionData) → Content
  doctype : (before : Content) (gap : List ℕ) (c : ℕ) (declaration : Declaration) → Content
  -- an empty-element tag
  single : (before : Content) (name : List ℕ) (ats : Attributes) (sp : List ℕ) → Content
  -- a start tag, content and an end tag
  tagged : (before : Content) (name : List ℕ) (ats : Attributes) (sp : List ℕ) (inner : Content) (sp2 : List ℕ) → Content

-- <name attributes >
abbrev pub start_tag_spelling : List ℕ → Attributes → List ℕ → List ℕ
start_tag_spelling n ats sp = 60 ∷ (n ++ (attributes_spelling ats ++ (sp ++ (62 ∷ []))))

-- <name attributes />
abbrev pub single_tag : List ℕ → Attributes → List ℕ → List ℕ
single_tag n ats sp = 60 ∷ (n ++ (attributes_spelling ats ++ (sp ++ (47 ∷ (62 ∷ [])))))

-- </name >
abbrev pub end_tag_spelling : List ℕ → List ℕ → List ℕ
end_tag_spelling n sp = 60 ∷ (47 ∷ (n ++ (sp ++ (62 ∷ []))))

-- its characters
abbrev pub spelling : Content → List ℕ
spelling nothing = []
spelling mark = 65279 ∷ []
spelling (space before c) = spelling before ++ (c ∷ [])
spelling (char before c) = spelling before ++ (c ∷ [])
spelling (reference before r) = spelling before ++ reference_spelling r
spelling (cdata before d) = spelling before ++ (cdata_start ++ (cdsect_spelling d ++ (62 ∷ [])))
spelling (comment before r) = spelling before ++ (comment_start ++ (comment_spelling r ++ (45 ∷ (45 ∷ (62 ∷ [])))))
spelling (bare before n) = spelling before ++ (60 ∷ (63 ∷ (n ++ (63 ∷ (62 ∷ [])))))
spelling (instruction before n c d) = spelling before ++ (60 ∷ (63 ∷ (n ++ (c ∷ (data_spelling d ++ (62 ∷ []))))))
spelling (doctype before g c d) = spelling before ++ (doc_start ++ (g ++ (c ∷ (declaration_spelling d ++ (62 ∷ [])))))
spelling (single before n ats sp) = spelling before ++ single_tag n ats sp
spelling (tagged before n ats sp inner sp2) = spelling before ++ (start_tag_spelling n ats sp ++ (spelling inner ++ end_tag_spelling n sp2))

abbrev pub has_element : Content → Bool
has_element nothing = false
has_element mark = false
has_element (space before c) = has_element before
has_element (char before c) = has_element before
has_element (reference before r) = has_element before
has_element (cdata before d) = has_element before
has_element (comment before r) = has_element before
has_element (bare before n) = has_element before
has_element (instruction before n c d) = has_element before
has_element (doctype before g c d) = has_element before
has_element (single before n ats sp) = true
has_element (tagged before n ats sp inner sp2) = true

-- an element or a document type declaration is in it
abbrev pub has_type : Content → Bool
has_type nothing = false
has_type mark = false
has_type (space before c) = has_type before
has_type (char before c) = has_type before
has_type (reference before r) = has_type before
has_type (cdata before d) = has_type before
has_type (comment before r) = has_type before
has_type (bare before n) = has_type before
has_type (instruction before n c d) = has_type before
has_type (doctype before g c d) = true
has_type (single before n ats sp) = true
has_type (tagged before n ats sp inner sp2) = true

-- a document type declaration stands before the element, once
abbrev pub may_type : Bool → Bool → Bool
may_type inside typed = not (typed || inside)

-- inside an element any number of elements may stand; outside, one
abbrev pub may_open : Bool → Bool → Bool
may_open inside rooted = inside || not rooted

-- content inside an element, or outside
abbrev pub IsContent : (inside : Bool) → Content → Type 0
IsContent inside nothing = Unit {0}
IsContent inside mark = inside ≡ false
IsContent inside (space before c) = IsContent inside before × (inside ≡ false) × (is_white c ≡ true)
IsContent inside (char before c) = IsContent inside before × (inside ≡ true) × (is_text_char c ≡ true)
IsContent inside (reference before r) = IsContent inside before × (inside ≡ true) × IsReference r
IsContent inside (cdata before d) = IsContent inside before × (inside ≡ true) × IsCDSect d × (brackets d ≡ 2)
IsContent inside (comment before r) = IsContent inside before × IsCommentText r
IsContent inside (bare before n) = IsContent inside before × (is_name n ≡ true)
IsContent inside (instruction before n c d) = IsContent inside before × (is_name n ≡ true) × (is_white c ≡ true) × IsInstructionData d × (marks d ≡ 1)
IsContent inside (doctype before g c d) = IsContent inside before × (may_type inside (has_type before) ≡ true) × (is_gap g ≡ true) × (is_start_char c ≡ true) × IsDeclaration d
IsContent inside (single before n ats sp) = IsContent inside before × (may_open inside (has_element before) ≡ true) × (is_name n ≡ true) × (is_blank_text sp ≡ true) × IsAttributes ats
IsContent inside (tagged before n ats sp inner sp2) = IsContent inside before × (may_open inside (has_element before) ≡ true) × (is_name n ≡ true) × (is_blank_text sp ≡ true) × IsContent true inner × (is_blank_text sp2 ≡ true) × IsAttributes ats

-- the bytes of the run at the end: all text behind the last tag (that comments and processing instructions don't end a run is this project's)
abbrev pub text_run : Content → List ℕ
text_run nothing = []
text_run mark = []
text_run (space before c) = text_run before
text_run (char before c) = text_run before ++ encode c
text_run (reference before r) = text_run before ++ encode (reference_char r)
text_run (cdata before d) = text_run before ++ settled d
text_run (comment before r) = text_run before
text_run (bare before n) = text_run before
text_run (instruction before n c d) = text_run before
text_run (doctype before g c d) = text_run before
text_run (single before n ats sp) = []
text_run (tagged before n ats sp inner sp2) = []

-- a run is a text, unless it is empty or only white space
abbrev pub with_run : Nodes → List ℕ → Nodes
with_run ns r = cond (is_blank r) ns (text ns r)

-- nodes before others
abbrev pub joined : Nodes → Nodes → Nodes
joined first none = first
joined first (element before n inner) = element (joined first before) n inner
joined first (text before t) = text (joined first before) t

-- an attribute is an element with its run
abbrev pub attribute_nodes : Attributes → Nodes
attribute_nodes no_attribute = none
attribute_nodes (attribute ats h v) = element (attribute_nodes ats) (encodes h.name) (with_run none (value_run v))

-- the nodes before the run at the end; the attributes of an element are its first children
abbrev pub nodes : Content → Nodes
nodes nothing = none
nodes mark = none
nodes (space before c) = nodes before
nodes (char before c) = nodes before
nodes (reference before r) = nodes before
nodes (cdata before d) = nodes before
nodes (comment before r) = nodes before
nodes (bare before n) = nodes before
nodes (instruction before n c d) = nodes before
nodes (doctype before g c d) = nodes before
nodes (single before n ats sp) = element (with_run (nodes before) (text_run before)) (encodes n) (attribute_nodes ats)
nodes (tagged before n ats sp inner sp2) = element (with_run (nodes before) (text_run before)) (encodes n) (joined (attribute_nodes ats) (with_run (nodes inner) (text_run inner)))

-- The characters c spell the document d.
pub record SpellsDocument (c : List ℕ) (d : Nodes) : Type 0 where
  pub content : Content
  pub good : IsContent false content
  pub root : has_element content ≡ true
  pub spelled : spelling content ≡ c
  pub tree : nodes content ≡ d

-- Some continuation of c spells a document.
pub record Viable (c : List ℕ) : Type 0 where
  pub more : List ℕ
  pub document : Nodes
  pub spelled : SpellsDocument (c ++ more) document
