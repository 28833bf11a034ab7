-- The reader's machine, without limits: one step for each character (this project's).
use Rattle.std.specs.Prelude.{ℕ, ◌+◌, ◌*◌, Bool, true, false, not, ◌&&◌, ◌==◌, nat_le, List, [], ◌∷◌, ◌++◌, Option, Some, None, replicate, if◌then◌else◌, bytes_eq}
use lib.Utf8.{encode}
use Rattle.gcx_base.specs.Characters.{is_char, is_white, is_start_char, is_part_char}
use Rattle.gcx_model.specs.Tree.{TreeToken, Start, End}
use Rattle.gcx_model.specs.References.{entity_name, less_than, greater_than, ampersand, apostrophe, quotation, is_decimal, is_hexadecimal, worth, begins_entity, greatest}
use Rattle.gcx_model.specs.Attributes.{is_text_char, is_value_char, is_quote, is_fresh}
use Rattle.gcx_model.specs.Markup.{one_more, cdata_word, doc_word, is_doc_char, is_literal_char}
use Rattle.gcx_model.specs.Grammar.{may_open}
use Rattle.gcx_model.specs.Fronts.{is_inside, text_of}

-- what is read of a reference: letters of a name; or '&#'; or the value of the digits so far
pub data ReferenceRead : Type 0 where
  Letters : (read : List ℕ) → ReferenceRead
  Number : ReferenceRead
  Decimal : (value : ℕ) → ReferenceRead
  Hexadecimal : (value : ℕ) → ReferenceRead

-- a reference goes on, or is done and stands for a character, or no reference goes on so
pub data Referred : Type 0 where
  More : ReferenceRead → Referred
  Done : (c : ℕ) → Referred
  Bad : Referred

-- the character of a whole name
abbrev pub entity_of : List ℕ → Option ℕ
entity_of m =
    if bytes_eq m (entity_name less_than) then Some 60
    else if bytes_eq m (entity_name greater_than) then Some 62
    else if bytes_eq m (entity_name ampersand) then Some 38
    else if bytes_eq m (entity_name apostrophe) then Some 39
    else if bytes_eq m (entity_name quotation) then Some 34
    else None

abbrev pub done_entity : Option ℕ → Referred
done_entity (Some c) = Done c
done_entity None = Bad

abbrev pub is_empty : List ℕ → Bool
is_empty [] = true
is_empty (c ∷ m) = false

abbrev pub on_letters : List ℕ → ℕ → Referred
on_letters m c =
    if begins_entity (m ++ c ∷ []) then More (Letters (m ++ c ∷ []))
    else if c == 59 then done_entity (entity_of m)
    else if (c == 35) && is_empty m then More Number
    else Bad

-- a number that is a character's or can grow to be one
abbrev pub counted : (ℕ → ReferenceRead) → ℕ → Referred
counted mk v = if nat_le v greatest then More (mk v) else Bad

abbrev pub done_number : ℕ → Referred
done_number v = if is_char v then Done v else Bad

abbrev pub on_decimal : ℕ → ℕ → Referred
on_decimal v c =
    if is_decimal c then counted Decimal (v * 10 + worth c)
    else if c == 59 then done_number v
    else Bad

abbrev pub on_hexadecimal : ℕ → ℕ → Referred
on_hexadecimal v c =
    if is_hexadecimal c then counted Hexadecimal (v * 16 + worth c)
    else if c == 59 then done_number v
    else Bad

abbrev pub on_number : ℕ → Referred
on_number c =
    if is_decimal c then counted Decimal (0 * 10 + worth c)
    else if c == 120 then More (Hexadecimal 0)
    else Bad

-- a reference with a character more
abbrev pub refer : ReferenceRead → ℕ → Referred
refer (Letters m) c = on_letters m c
refer Number c = on_number c
refer (Decimal v) c = on_decimal v c
refer (Hexadecimal v) c = on_hexadecimal v c

-- The place in the grammar; of a word that is known, what is still to come of it.
pub data MachineMode : Type 0 where
  Opening : MachineMode
  Between : MachineMode
  Less : MachineMode
  StartName : MachineMode
  StartSpace : MachineMode
  AttributeName : MachineMode
  AttributeSpace : MachineMode
  Equals : MachineMode
  InValue : (quote : ℕ) → MachineMode
  InValueReference : (quote : ℕ) → ReferenceRead → MachineMode
  ValueEnd : MachineMode
  Slash : MachineMode
  EndName : (left : List ℕ) → MachineMode
  EndSpace : MachineMode
  Question : MachineMode
  Target : MachineMode
  TargetMark : MachineMode
  InInstruction : (marks : ℕ) → MachineMode
  DocWord : (left : List ℕ) → MachineMode
  DocSpace : MachineMode
  Doc : MachineMode
  DocLiteral : (quote : ℕ) → MachineMode
  Bang : MachineMode
  BangDash : MachineMode
  Comment : MachineMode
  CommentDash : MachineMode
  CommentEnd : MachineMode
  CDSectWord : (left : List ℕ) → MachineMode
  InCDSect : (brackets : ℕ) → MachineMode
  InReference : ReferenceRead → MachineMode

-- the place in the grammar, the names of the open elements from the innermost on, whether there was a root, and whether
-- there was a root or a document type declaration; the run that is read; the name of the tag that is read, the names of its
-- attributes from the last one on, and the name of the attribute that is read; the tokens of that tag and of the run before
-- it, and the tokens of the whole tags. Names and runs are bytes.
pub record State : Type 0 where
  pub mode : MachineMode
  pub names : List (List ℕ)
  pub rooted : Bool
  pub typed : Bool
  pub run : List ℕ
  pub name : List ℕ
  pub attrs : List (List ℕ)
  pub attr : List ℕ
  pub pending : List TreeToken
  pub tokens : List TreeToken

abbrev pub start : State
start = record { mode = Opening; names = []; rooted = false; typed = false; run = []; name = []; attrs = []; attr = []; pending = []; tokens = [] }

abbrev pub innermost : List (List ℕ) → List ℕ
innermost [] = []
innermost (n ∷ ns) = n

-- behind the name of a start tag
abbrev pub begun : State → State
begun s = record s { run = []; pending = text_of s.run ++ (Start s.name ∷ []) }

abbrev pub opened : State → State
opened s = record s { mode = Between; names = s.name ∷ s.names; rooted = true; typed = true; name = []; attrs = []; pending = []; tokens = s.tokens ++ s.pending }

abbrev pub emptied : State → State
emptied s = record s { mode = Between; rooted = true; typed = true; name = []; attrs = []; pending = []; tokens = s.tokens ++ (s.pending ++ (End ∷ [])) }

-- behind a value
abbrev pub valued : State → State
valued s = record s { mode = ValueEnd; run = []; attrs = s.attr ∷ s.attrs; attr = []; pending = s.pending ++ (Start s.attr ∷ (text_of s.run ++ (End ∷ []))) }

abbrev pub closed : State → List (List ℕ) → State
closed s rest = record s { mode = Between; names = rest; run = []; tokens = s.tokens ++ (text_of s.run ++ (End ∷ [])) }

abbrev pub to_mode : State → MachineMode → Option State
to_mode s m = Some (record s { mode = m })

-- the run goes on
abbrev pub run_on : State → MachineMode → List ℕ → Option State
run_on s m bytes = Some (record s { mode = m; run = s.run ++ bytes })

abbrev pub on_between : State → ℕ → Option State
on_between s c =
    if is_text_char c && is_inside s.names then run_on s Between (encode c)
    else if is_white c && not (is_inside s.names) then to_mode s Between
    else if c == 60 then to_mode s Less
    else if (c == 38) && is_inside s.names then to_mode s (InReference (Letters []))
    else None

-- before the first character
abbrev pub on_opening : State → ℕ → Option State
on_opening s c = if c == 65279 then to_mode s Between else on_between s c

abbrev pub on_less : State → ℕ → Option State
on_less s c =
    if is_start_char c && may_open (is_inside s.names) s.rooted then Some (record s { mode = StartName; name = encode c })
    else if (c == 47) && is_inside s.names then to_mode s (EndName (innermost s.names))
    else if c == 33 then to_mode s Bang
    else if c == 63 then to_mode s Question
    else None

-- behind the name of a start tag, or behind a value
abbrev pub on_tag : State → ℕ → Option State
on_tag s c =
    if is_white c then to_mode s StartSpace
    else if c == 62 then Some (opened s)
    else if c == 47 then to_mode s Slash
    else None

abbrev pub on_start : State → ℕ → Option State
on_start s c = if is_part_char c then Some (record s { name = s.name ++ encode c }) else on_tag (begun s) c

abbrev pub on_start_space : State → ℕ → Option State
on_start_space s c = if is_start_char c then Some (record s { mode = AttributeName; attr = encode c }) else on_tag s c

-- behind the name of an attribute
abbrev pub on_named : State → ℕ → Option State
on_named s c =
    if is_white c then to_mode s AttributeSpace
    else if c == 61 then to_mode s Equals
    else None

-- the characters of an attribute's name, which is none of the tag's others
abbrev pub on_attribute_name : State → ℕ → Option State
on_attribute_name s c =
    if is_part_char c then Some (record s { attr = s.attr ++ encode c })
    else if is_fresh s.attr s.attrs then on_named s c
    else None

abbrev pub on_equals : State → ℕ → Option State
on_equals s c =
    if is_white c then to_mode s Equals
    else if is_quote c then to_mode s (InValue c)
    else None

abbrev pub on_value : State → ℕ → ℕ → Option State
on_value s q c =
    if is_value_char q c then run_on s (InValue q) (encode c)
    else if c == q then Some (valued s)
    else if c == 38 then to_mode s (InValueReference q (Letters []))
    else None

-- what a reference leads to: in it, and behind it
abbrev pub on_referred : State → (ReferenceRead → MachineMode) → MachineMode → Referred → Option State
on_referred s mk behind (More r) = to_mode s (mk r)
on_referred s mk behind (Done c) = run_on s behind (encode c)
on_referred s mk behind Bad = None

abbrev pub on_slash : State → ℕ → Option State
on_slash s c = if c == 62 then Some (emptied s) else None

-- behind the name of an end tag
abbrev pub on_ended : State → ℕ → List (List ℕ) → Option State
on_ended s c [] = None
on_ended s c (n ∷ rest) = if is_white c then to_mode s EndSpace else if c == 62 then Some (closed s rest) else None

-- what stands behind these bytes, if a list begins with them
abbrev pub behind : List ℕ → List ℕ → Option (List ℕ)
behind [] ys = Some ys
behind (x ∷ xs) [] = None
behind (x ∷ xs) (y ∷ ys) = if x == y then behind xs ys else None

abbrev pub to_end_name : State → Option (List ℕ) → Option State
to_end_name s (Some left) = to_mode s (EndName left)
to_end_name s None = None

-- the next character of the innermost element's name, or what comes behind it
abbrev pub on_end : State → List ℕ → ℕ → Option State
on_end s [] c = on_ended s c s.names
on_end s (x ∷ left) c = to_end_name s (behind (encode c) (x ∷ left))

-- the next character of a word, or what comes behind it
abbrev pub on_word : State → ℕ → (List ℕ → MachineMode) → List ℕ → Option State → Option State
on_word s c mk (d ∷ left) after = if c == d then to_mode s (mk left) else None
on_word s c mk [] after = after

abbrev pub on_question : State → ℕ → Option State
on_question s c = if is_start_char c then to_mode s Target else None

abbrev pub on_target : State → ℕ → Option State
on_target s c =
    if is_part_char c then to_mode s Target
    else if is_white c then to_mode s (InInstruction 0)
    else if c == 63 then to_mode s TargetMark
    else None

abbrev pub on_target_mark : State → ℕ → Option State
on_target_mark s c = if c == 62 then to_mode s Between else None

-- behind m question marks, none or one
abbrev pub on_instruction : State → ℕ → ℕ → Option State
on_instruction s m c =
    if (c == 62) && (m == 1) then to_mode s Between
    else if is_char c then to_mode s (InInstruction (if c == 63 then 1 else 0))
    else None

abbrev pub on_doc_word : State → List ℕ → ℕ → Option State
on_doc_word s left c = on_word s c DocWord left (if is_white c then to_mode s DocSpace else None)

abbrev pub on_doc_space : State → ℕ → Option State
on_doc_space s c =
    if is_white c then to_mode s DocSpace
    else if is_start_char c then to_mode s Doc
    else None

abbrev pub on_doc : State → ℕ → Option State
on_doc s c =
    if is_doc_char c then to_mode s Doc
    else if c == 62 then Some (record s { mode = Between; typed = true })
    else if is_quote c then to_mode s (DocLiteral c)
    else None

abbrev pub on_doc_literal : State → ℕ → ℕ → Option State
on_doc_literal s q c =
    if is_literal_char q c then to_mode s (DocLiteral q)
    else if c == q then to_mode s Doc
    else None

abbrev pub on_bang : State → ℕ → Option State
on_bang s c =
    if c == 45 then to_mode s BangDash
    else if (c == 91) && is_inside s.names then to_mode s (CDSectWord cdata_word)
    else if (c == 68) && not s.typed then to_mode s (DocWord doc_word)
    else None

abbrev pub on_bang_dash : State → ℕ → Option State
on_bang_dash s c = if c == 45 then to_mode s Comment else None

abbrev pub on_comment : State → ℕ → Option State
on_comment s c = if c == 45 then to_mode s CommentDash else if is_char c then to_mode s Comment else None

abbrev pub on_comment_dash : State → ℕ → Option State
on_comment_dash s c = if c == 45 then to_mode s CommentEnd else if is_char c then to_mode s Comment else None

abbrev pub on_comment_end : State → ℕ → Option State
on_comment_end s c = if c == 62 then to_mode s Between else None

abbrev pub on_cdsect_word : State → List ℕ → ℕ → Option State
on_cdsect_word s left c = on_word s c CDSectWord left (if c == 91 then to_mode s (InCDSect 0) else None)

-- behind n brackets
abbrev pub on_cdsect : State → ℕ → ℕ → Option State
on_cdsect s n c =
    if c == 93 then Some (record s { mode = InCDSect (one_more n); run = if n == 2 then s.run ++ (93 ∷ []) else s.run })
    else if (c == 62) && (n == 2) then to_mode s Between
    else if is_char c then Some (record s { mode = InCDSect 0; run = s.run ++ (replicate n 93 ++ encode c) })
    else None

abbrev pub on_mode : State → ℕ → MachineMode → Option State
on_mode s c Opening = on_opening s c
on_mode s c Between = on_between s c
on_mode s c Less = on_less s c
on_mode s c StartName = on_start s c
on_mode s c StartSpace = on_start_space s c
on_mode s c AttributeName = on_attribute_name s c
on_mode s c AttributeSpace = on_named s c
on_mode s c Equals = on_equals s c
on_mode s c (InValue q) = on_value s q c
on_mode s c (InValueReference q r) = on_referred s (InValueReference q) (InValue q) (refer r c)
on_mode s c ValueEnd = on_tag s c
on_mode s c Slash = on_slash s c
on_mode s c (EndName left) = on_end s left c
on_mode s c EndSpace = on_ended s c s.names
on_mode s c Question = on_question s c
on_mode s c Target = on_target s c
on_mode s c TargetMark = on_target_mark s c
on_mode s c (InInstruction m) = on_instruction s m c
on_mode s c (DocWord left) = on_doc_word s left c
on_mode s c DocSpace = on_doc_space s c
on_mode s c Doc = on_doc s c
on_mode s c (DocLiteral q) = on_doc_literal s q c
on_mode s c Bang = on_bang s c
on_mode s c BangDash = on_bang_dash s c
on_mode s c Comment = on_comment s c
on_mode s c CommentDash = on_comment_dash s c
on_mode s c CommentEnd = on_comment_end s c
on_mode s c (CDSectWord left) = on_cdsect_word s left c
on_mode s c (InCDSect n) = on_cdsect s n c
on_mode s c (InReference r) = on_referred s InReference Between (refer r c)

abbrev pub step : State → ℕ → Option State
step s c = on_mode s c s.mode

abbrev pub go_on : Option State → (State → Option State) → Option State
go_on None f = None
go_on (Some s) f = f s

-- the state behind characters, or none where one of them is no step
abbrev pub steps : State → List ℕ → Option State
steps s [] = Some s
steps s (c ∷ cs) = go_on (step s c) (λ t. steps t cs)

-- the whole document is read
abbrev pub is_between : MachineMode → Bool
is_between Between = true
is_between other = false

abbrev pub is_whole : State → Bool
is_whole s = is_between s.mode && (not (is_inside s.names) && s.rooted)
