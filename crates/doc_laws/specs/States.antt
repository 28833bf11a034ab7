-- The state of a machine that has read a front (this project's).
use Rattle.std.specs.Prelude.{ℕ, ◌≡◌, Bool, true, false, not, ◌&&◌, ◌||◌, cond, List, [], ◌∷◌, ◌++◌}
use lib.Utf8.{encodes}
use Rattle.gcx_model.specs.Document.{tokens}
use Rattle.gcx_model.specs.Tree.{TreeToken, Start}
use Rattle.gcx_model.specs.References.{BegunReference, letters, number, decimals, hexadecimals, digit, value_in}
use Rattle.gcx_model.specs.Attributes.{Attributes, attribute_names}
use Rattle.gcx_model.specs.Markup.{marks, brackets}
use Rattle.gcx_model.specs.Grammar.{Content, nothing, has_element, has_type, text_run, attribute_nodes}
use Rattle.gcx_model.specs.Fronts.{Frames, Part, no_part, spaced, part_name, name_spaced, equals, value_part, value_amp, Piece, no_piece, less, started, tag, slashed, ending, ended, question, target, target_mark, in_instruction, doc_wording, doc_gap, doc, doc_literal, bang, bang_dash, in_comment, comment_dash, comment_end, cdsect_word, in_cdsect, amp, front_spelling, IsFront, names, inside, piece_run, text_of, seen_tokens}
use Rattle.doc_laws.specs.Machine.{ReferenceRead, Letters, Number, Decimal, Hexadecimal, MachineMode, Opening, Between, Less, StartName, StartSpace, AttributeName, AttributeSpace, Equals, InValue, InValueReference, ValueEnd, Slash, EndName, EndSpace, Question, Target, TargetMark, InInstruction, DocWord, DocSpace, Doc, DocLiteral, Bang, BangDash, Comment, CommentDash, CommentEnd, CDSectWord, InCDSect, InReference, State}

abbrev pub referring : BegunReference → ReferenceRead
referring (letters m) = Letters m
referring number = Number
referring (decimals ds c) = Decimal (value_in 10 (digit ds c))
referring (hexadecimals ds) = Hexadecimal (value_in 16 ds)

abbrev pub part_mode : Part → MachineMode
part_mode no_part = ValueEnd
part_mode (spaced g) = StartSpace
part_mode (part_name g m) = AttributeName
part_mode (name_spaced g m sp) = AttributeSpace
part_mode (equals g m sp sp2) = Equals
part_mode (value_part h v) = InValue h.quote
part_mode (value_amp h v r) = InValueReference h.quote (referring r)

-- nothing is read yet
abbrev pub is_nothing : Content → Bool
is_nothing nothing = true
is_nothing other = false

abbrev pub is_opening : Frames → Content → Bool
is_opening fs x = is_nothing x && not (inside fs)

abbrev pub rest_mode : Frames → Content → MachineMode
rest_mode fs x = cond (is_opening fs x) Opening Between

abbrev pub piece_mode : Frames → Content → Piece → MachineMode
piece_mode fs x no_piece = rest_mode fs x
piece_mode fs x less = Less
piece_mode fs x (started n) = StartName
piece_mode fs x (tag n ats p) = part_mode p
piece_mode fs x (slashed n ats sp) = Slash
piece_mode fs x (ending m r) = EndName (encodes r)
piece_mode fs x (ended n sp c) = EndSpace
piece_mode fs x question = Question
piece_mode fs x (target n) = Target
piece_mode fs x (target_mark n) = TargetMark
piece_mode fs x (in_instruction n c d) = InInstruction (marks d)
piece_mode fs x (doc_wording m r) = DocWord r
piece_mode fs x (doc_gap g) = DocSpace
piece_mode fs x (doc g c d) = Doc
piece_mode fs x (doc_literal g c d q l) = DocLiteral q
piece_mode fs x bang = Bang
piece_mode fs x bang_dash = BangDash
piece_mode fs x (in_comment r) = Comment
piece_mode fs x (comment_dash r) = CommentDash
piece_mode fs x (comment_end r) = CommentEnd
piece_mode fs x (cdsect_word m r) = CDSectWord r
piece_mode fs x (in_cdsect d) = InCDSect (brackets d)
piece_mode fs x (amp r) = InReference (referring r)

abbrev pub rooted : Frames → Content → Bool
rooted fs x = has_element x || inside fs

abbrev pub typed : Frames → Content → Bool
typed fs x = has_type x || inside fs

abbrev pub piece_name : Piece → List ℕ
piece_name (started n) = encodes n
piece_name (tag n ats p) = encodes n
piece_name (slashed n ats sp) = encodes n
piece_name other = []

abbrev pub piece_attrs : Piece → List (List ℕ)
piece_attrs (tag n ats p) = attribute_names ats
piece_attrs (slashed n ats sp) = attribute_names ats
piece_attrs other = []

abbrev pub part_attr : Part → List ℕ
part_attr no_part = []
part_attr (spaced g) = []
part_attr (part_name g m) = encodes m
part_attr (name_spaced g m sp) = encodes m
part_attr (equals g m sp sp2) = encodes m
part_attr (value_part h v) = encodes h.name
part_attr (value_amp h v r) = encodes h.name

abbrev pub piece_attr : Piece → List ℕ
piece_attr (tag n ats p) = part_attr p
piece_attr other = []

-- the tokens of a tag that isn't whole, and of the run before it
abbrev pub tag_tokens : Content → List ℕ → Attributes → List TreeToken
tag_tokens x n ats = text_of (text_run x) ++ (Start (encodes n) ∷ tokens (attribute_nodes ats))

abbrev pub piece_pending : Content → Piece → List TreeToken
piece_pending x (tag n ats p) = tag_tokens x n ats
piece_pending x (slashed n ats sp) = tag_tokens x n ats
piece_pending x other = []

abbrev pub state_of : Frames → Content → Piece → State
state_of fs x p = record { mode = piece_mode fs x p; names = names fs; rooted = rooted fs x; typed = typed fs x; run = piece_run x p; name = piece_name p; attrs = piece_attrs p; attr = piece_attr p; pending = piece_pending x p; tokens = seen_tokens fs x }

-- b is a front of a document, and s is the state of a machine that has read it
pub record Fronts (b : List ℕ) (s : State) : Type 0 where
  pub frames : Frames
  pub content : Content
  pub piece : Piece
  pub good : IsFront frames content piece
  pub spelled : front_spelling frames content piece ≡ b
  pub state : state_of frames content piece ≡ s
