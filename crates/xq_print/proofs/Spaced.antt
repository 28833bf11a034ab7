-- The pieces of a query stand apart.
use Rattle.std.proofs.Common.{ℕ, ℤ, ◌≡◌, ◌≤◌, ◌==◌, Bool, true, false, not, ◌||◌, List, [], ◌∷◌, ◌++◌, map, flat_map, length, Option, Some, None, refl, sym, ap, ◌∙◌, subst, arith}
use Rattle.std.specs.Prelude.{nat_le, nat_lt}
use Rattle.std.specs.List.{list_all}
use Rattle.std.specs.Char.{encode_utf8}
use Rattle.std.specs.Str.{chars, encode_utf8_all}
use Rattle.std.proofs.lemmas.Bool.{and_parts, or_from, leb-true, not_from_false, false≢true, ne_eqb}
use Rattle.gcx_base.specs.Characters.{is_start_char}
use Rattle.gcx_base.specs.Name.{is_name}
use Rattle.gcx_base.specs.declared.rel.Rel.{Rel}
use Rattle.gcx_base.specs.declared.rel.Rel.TheVariants as rels
use Rattle.gcx_base.specs.declared.steps.Axis.{Axis}
use Rattle.gcx_base.specs.declared.steps.Axis.TheVariants.{Child, Descendant}
use Rattle.gcx_base.specs.declared.steps.Test.{Test}
use Rattle.gcx_base.specs.declared.steps.Test.TheVariants.{Named, AnyElement, AnyText, AnyNode}
use Rattle.gcx_base.specs.declared.steps.Step.{Step}
use Rattle.gcx_model.specs.Values.{is_digit_byte, is_numeral}
use Rattle.gcx_model.specs.declared.query.PathExpr.{PathExpr}
use Rattle.gcx_model.specs.declared.query.Clause.{Clause}
use Rattle.gcx_model.specs.declared.query.QOperand.{QOperand}
use Rattle.gcx_model.specs.declared.query.QOperand.TheVariants as operand
use Rattle.gcx_model.specs.Query as query
use Rattle.gcx_model.specs.Query.{QueryCondTree, QueryCondTrees, ExprTree, ExprTrees}
use Rattle.xq_lex.specs.declared.sign.Sign.{Sign}
use Rattle.xq_lex.specs.declared.sign.Sign.TheVariants as signs
use Rattle.xq_lex.specs.declared.token.TokKind.{TokKind}
use Rattle.xq_lex.specs.declared.token.TokKind.TheVariants as kinds
use Rattle.xq_lex.specs.Sign.{sign_chars, begins, opens_comment}
use Rattle.xq_lex.specs.Names.{has_pair, is_query_name}
use Rattle.xq_lex.specs.Numbers.{number_chars, is_number}
use Rattle.xq_lex.specs.Form.{Form, name, variable, number, string, sign, form_chars, IsForm, kind_of}
use Rattle.xq_parse.specs.Tokens.{for_, in_, where_, return_, if_, then_, else_, or_, and_, not_, true_, exists_, text_, node_}
use Rattle.xq_print.specs.declared.cond.Joint.{Joint}
use Rattle.xq_print.specs.declared.cond.Joint.TheVariants.{And, Or}
use Rattle.xq_print.specs.Printed.{is_enclosed}
use Rattle.xq_print.proofs.Pieces.{Piece, put, blank, word, mark, joined_pieces, in_parens, comma, axis_pieces, test_pieces, step_pieces, start_pieces, path_pieces, rel_pieces, operand_pieces, joint_pieces, enclosed_pieces, cond_pieces, members_pieces, clause_pieces, filter_pieces, start_tag_pieces, end_tag_pieces, body_pieces, expr_pieces, exprs_pieces, query_pieces}
use Rattle.xq_print.proofs.Lexical.{IsKind, LexicalTest, LexicalSteps, LexicalStart, LexicalPath, LexicalOperand, LexicalCond, LexicalConds, LexicalClause, LexicalClauses, LexicalFilter, LexicalExpr, LexicalExprs, Lexical}
use Rattle.xq_print.proofs.Forms.{form_of, pieces_chars, ends_word, is_minus, whole_digits, fraction_digits}
use Rattle.xq_print.proofs.NameForms.{name_chars}
use Rattle.xq_print.proofs.Written.{written}
use Rattle.xq_print.proofs.Apart.{Apart, chars_append, apart_append}

-- ---- Words and signs are tokens.

keyword : (cs : List ℕ) → is_query_name cs [] ≡ true → encode_utf8_all cs ≡ cs → IsKind (kinds.Name cs)
keyword cs good e = record { form = name cs; rest = []; good = good; in_range = refl; is = ap kinds.Name (sym e) }

is_for : IsKind (kinds.Name for_)
unfolding encode_utf8
is_for = keyword for_ refl refl

is_in : IsKind (kinds.Name in_)
unfolding encode_utf8
is_in = keyword in_ refl refl

is_where : IsKind (kinds.Name where_)
unfolding encode_utf8
is_where = keyword where_ refl refl

is_return : IsKind (kinds.Name return_)
unfolding encode_utf8
is_return = keyword return_ refl refl

is_if : IsKind (kinds.Name if_)
unfolding encode_utf8
is_if = keyword if_ refl refl

is_then : IsKind (kinds.Name then_)
unfolding encode_utf8
is_then = keyword then_ refl refl

is_else : IsKind (kinds.Name else_)
unfolding encode_utf8
is_else = keyword else_ refl refl

is_or : IsKind (kinds.Name or_)
unfolding encode_utf8
is_or = keyword or_ refl refl

is_and : IsKind (kinds.Name and_)
unfolding encode_utf8
is_and = keyword and_ refl refl

is_not : IsKind (kinds.Name not_)
unfolding encode_utf8
is_not = keyword not_ refl refl

is_true : IsKind (kinds.Name true_)
unfolding encode_utf8
is_true = keyword true_ refl refl

is_exists : IsKind (kinds.Name exists_)
unfolding encode_utf8
is_exists = keyword exists_ refl refl

is_text : IsKind (kinds.Name text_)
unfolding encode_utf8
is_text = keyword text_ refl refl

is_node : IsKind (kinds.Name node_)
unfolding encode_utf8
is_node = keyword node_ refl refl

no_comment : (s : Sign) → opens_comment (sign_chars s ++ []) ≡ false
no_comment signs.ParenOpen = refl
no_comment signs.ParenClose = refl
no_comment signs.BraceOpen = refl
no_comment signs.BraceClose = refl
no_comment signs.Comma = refl
no_comment signs.Slash = refl
no_comment signs.SlashSlash = refl
no_comment signs.Axis = refl
no_comment signs.Star = refl
no_comment signs.Eq = refl
no_comment signs.Ne = refl
no_comment signs.Lt = refl
no_comment signs.Le = refl
no_comment signs.Gt = refl
no_comment signs.Ge = refl
no_comment signs.EndTag = refl
no_comment signs.EmptyEnd = refl

is_sign : (s : Sign) → IsKind (kinds.Sign s)
is_sign s = record { form = sign s; rest = []; good = no_comment s; in_range = refl; is = refl }

-- ---- What texts begin with

-- neither a colon nor an equals sign: it may follow `(` and `>`
record Opens (text : List ℕ) : Type 0 where
  colon : not (begins 58 text) ≡ true
  equal : not (begins 61 text) ≡ true

-- a delimiter or nothing: it may follow each token but `/` and `<`
record Closes (text : List ℕ) : Type 0 where
  opens : Opens text
  word : ends_word text ≡ true
  quote : not (begins 34 text) ≡ true

-- Nothing that a name begins with is such a character.
name_begins : (x : ℕ) (cs before rest : List ℕ) → is_start_char x ≡ false → is_query_name cs before ≡ true → begins x (cs ++ rest) ≡ false
name_begins x [] before rest other good = absurd (false≢true good)
name_begins x (c ∷ cs) before rest other good =
    let start : is_start_char c ≡ true = (and_parts (is_start_char c) _ (and_parts (is_name (c ∷ cs)) (not (has_pair (c ∷ cs) before)) good).0).0 in
    ne_eqb c x (λ e. false≢true (sym other ∙ (ap is_start_char (sym e) ∙ start)))

abbrev BeginsAsName : (x : ℕ) → TokKind → Type 0
BeginsAsName x (kinds.Name n) = (rest : List ℕ) → begins x (chars n ++ rest) ≡ false
BeginsAsName x (kinds.Var n) = Unit {0}
BeginsAsName x (kinds.Number u) = Unit {0}
BeginsAsName x (kinds.Str v) = Unit {0}
BeginsAsName x (kinds.Sign s) = Unit {0}

as_name : (x : ℕ) (f : Form) (before : List ℕ) → is_start_char x ≡ false → IsForm f before → BeginsAsName x (kind_of f)
as_name x (name cs) before other good = λ rest. ap (λ (y : List ℕ). begins x (y ++ rest)) (sym (name_chars cs before good)) ∙ name_begins x cs before rest other good
as_name x (variable cs) before other good = tt
as_name x (number m w f) before other good = tt
as_name x (string q ps) before other good = tt
as_name x (sign s) before other good = tt

no_start : (x : ℕ) (n rest : List ℕ) → is_start_char x ≡ false → IsKind (kinds.Name n) → begins x (chars n ++ rest) ≡ false
no_start x n rest other i = subst (λ (k : TokKind). BeginsAsName x k) (sym i.is) (as_name x i.form i.rest other i.good) rest

digit_opens : (d : ℕ) (ds : List ℕ) → is_digit_byte d ≡ true → Opens (d ∷ ds)
digit_opens d ds h =
    let high : d ≤ 57 = leb-true d 57 (and_parts (nat_le 48 d) (nat_le d 57) h).1 in
    record { colon = not_from_false (d == 58) (ne_eqb d 58 (λ e. omega arith)); equal = not_from_false (d == 61) (ne_eqb d 61 (λ e. omega arith)) }

number_opens : (m : Bool) (w f rest : List ℕ) → is_number w f ≡ true → Opens (number_chars m w f ++ rest)
number_opens true w f rest good = record { colon = refl; equal = refl }
number_opens false [] f rest good = absurd (false≢true good)
number_opens false (d ∷ ds) f rest good =
    let whole : is_numeral (d ∷ ds) ≡ true = (and_parts (is_numeral (d ∷ ds)) (list_all is_digit_byte f) good).0 in
    let digits : list_all is_digit_byte (d ∷ ds) ≡ true = (and_parts (nat_lt 0 (length (d ∷ ds))) (list_all is_digit_byte (d ∷ ds)) whole).1 in
    digit_opens d _ (and_parts (is_digit_byte d) (list_all is_digit_byte ds) digits).0

units_open : (u : ℤ) (rest : List ℕ) → IsKind (kinds.Number u) → Opens (form_chars (form_of (kinds.Number u)) rest)
units_open u rest i = number_opens (is_minus u) (whole_digits u) (fraction_digits u) rest ((written (kinds.Number u) i).begins [] refl).good

-- ---- Pieces that can stand beside others

-- pieces that stand apart before what closes them
record Item (p : List Piece) : Type 0 where
  apart : (k : List ℕ) → Closes k → Apart p k
  opens : (k : List ℕ) → Closes k → Opens (pieces_chars p k)

-- the same, where they close what stands before them too
record Tail (p : List Piece) : Type 0 where
  apart : (k : List ℕ) → Closes k → Apart p k
  closes : (k : List ℕ) → Closes k → Closes (pieces_chars p k)

-- pieces before an item
record Head (p : List Piece) : Type 0 where
  apart : (k : List ℕ) → Opens k → Apart p k
  opens : (k : List ℕ) → Opens (pieces_chars p k)

-- pieces between items
record Link (p : List Piece) : Type 0 where
  apart : (k : List ℕ) → Apart p k
  closes : (k : List ℕ) → Closes (pieces_chars p k)

tailed : (a b : List Piece) → Item a → Tail b → Item (a ++ b)
tailed a b p q = record {
  apart = λ k c. apart_append a b k (p.apart (pieces_chars b k) (q.closes k c)) (q.apart k c);
  opens = λ k c. subst Opens (sym (chars_append a b k)) (p.opens (pieces_chars b k) (q.closes k c));
}

tails : (a b : List Piece) → Tail a → Tail b → Tail (a ++ b)
tails a b p q = record {
  apart = λ k c. apart_append a b k (p.apart (pieces_chars b k) (q.closes k c)) (q.apart k c);
  closes = λ k c. subst Closes (sym (chars_append a b k)) (p.closes (pieces_chars b k) (q.closes k c));
}

headed : (a b : List Piece) → Head a → Item b → Item (a ++ b)
headed a b p q = record {
  apart = λ k c. apart_append a b k (p.apart (pieces_chars b k) (q.opens k c)) (q.apart k c);
  opens = λ k c. subst Opens (sym (chars_append a b k)) (p.opens (pieces_chars b k));
}

linked : (a b : List Piece) → Link a → Item b → Tail (a ++ b)
linked a b p q = record {
  apart = λ k c. apart_append a b k (p.apart (pieces_chars b k)) (q.apart k c);
  closes = λ k c. subst Closes (sym (chars_append a b k)) (p.closes (pieces_chars b k));
}

nothing : Item []
nothing = record { apart = λ k c. tt; opens = λ k c. c.opens }

no_tail : Tail []
no_tail = record { apart = λ k c. tt; closes = λ k c. c }

abbrev Items : List (List Piece) → Type 0
Items [] = Unit {0}
Items (p ∷ ps) = Item p × Items ps

more_items : (between : List Piece) (ps : List (List Piece)) → Link between → Items ps → Tail (flat_map (λ q. between ++ q) ps)
more_items between [] l all = no_tail
more_items between (p ∷ ps) l all = tails (between ++ p) (flat_map (λ q. between ++ q) ps) (linked between p l all.0) (more_items between ps l all.1)

joined_items : (between : List Piece) (ps : List (List Piece)) → Link between → Items ps → Item (joined_pieces between ps)
joined_items between [] l all = nothing
joined_items between (p ∷ ps) l all = tailed p (flat_map (λ q. between ++ q) ps) all.0 (more_items between ps l all.1)

-- ---- Delimiters

blank_closes : (k : List ℕ) → Closes (32 ∷ k)
blank_closes k = record { opens = record { colon = refl; equal = refl }; word = refl; quote = refl }

comma_link : Link comma
comma_link = record {
  apart = λ k. (is_sign signs.Comma, refl, tt);
  closes = λ k. record { opens = record { colon = refl; equal = refl }; word = refl; quote = refl };
}

close_tail : Tail (mark signs.ParenClose ∷ [])
close_tail = record {
  apart = λ k c. (is_sign signs.ParenClose, refl, tt);
  closes = λ k c. record { opens = record { colon = refl; equal = refl }; word = refl; quote = refl };
}

brace_tail : Tail (mark signs.BraceClose ∷ [])
brace_tail = record {
  apart = λ k c. (is_sign signs.BraceClose, refl, tt);
  closes = λ k c. record { opens = record { colon = refl; equal = refl }; word = refl; quote = refl };
}

open_head : Head (mark signs.ParenOpen ∷ [])
open_head = record { apart = λ k o. (is_sign signs.ParenOpen, o.colon, tt); opens = λ k. record { colon = refl; equal = refl } }

brace_head : Head (mark signs.BraceOpen ∷ [])
brace_head = record { apart = λ k o. (is_sign signs.BraceOpen, refl, tt); opens = λ k. record { colon = refl; equal = refl } }

parens_item : (p : List Piece) → Item p → Item (in_parens p)
parens_item p i = headed (mark signs.ParenOpen ∷ []) (p ++ (mark signs.ParenClose ∷ [])) open_head (tailed p (mark signs.ParenClose ∷ []) i close_tail)

-- a word between blanks
word_link : (n : List ℕ) → IsKind (kinds.Name n) → Link (blank ∷ word n ∷ blank ∷ [])
word_link n i = record { apart = λ k. (i, refl, tt); closes = λ k. blank_closes (chars n ++ (32 ∷ k)) }

-- ---- Paths

test_apart : (t : Test) (k : List ℕ) → LexicalTest t → ends_word k ≡ true → Apart (test_pieces t) k
test_apart (Named n) k i e = (i, e, tt)
test_apart AnyElement k i e = (is_sign signs.Star, refl, tt)
test_apart AnyText k i e = (is_text, refl, (is_sign signs.ParenOpen, refl, (is_sign signs.ParenClose, refl, tt)))
test_apart AnyNode k i e = (is_node, refl, (is_sign signs.ParenOpen, refl, (is_sign signs.ParenClose, refl, tt)))

slash_before : (t : Test) (k : List ℕ) → LexicalTest t → not (begins 47 (pieces_chars (test_pieces t) k) || begins 62 (pieces_chars (test_pieces t) k)) ≡ true
slash_before (Named n) k i = not_from_false (begins 47 (chars n ++ k) || begins 62 (chars n ++ k)) (or_from (begins 47 (chars n ++ k)) (begins 62 (chars n ++ k)) (no_start 47 n k refl i) (no_start 62 n k refl i))
slash_before AnyElement k i = refl
slash_before AnyText k i = not_from_false (begins 47 (chars text_ ++ (40 ∷ 41 ∷ k)) || begins 62 (chars text_ ++ (40 ∷ 41 ∷ k))) (or_from (begins 47 (chars text_ ++ (40 ∷ 41 ∷ k))) (begins 62 (chars text_ ++ (40 ∷ 41 ∷ k))) (no_start 47 text_ (40 ∷ 41 ∷ k) refl is_text) (no_start 62 text_ (40 ∷ 41 ∷ k) refl is_text))
slash_before AnyNode k i = not_from_false (begins 47 (chars node_ ++ (40 ∷ 41 ∷ k)) || begins 62 (chars node_ ++ (40 ∷ 41 ∷ k))) (or_from (begins 47 (chars node_ ++ (40 ∷ 41 ∷ k))) (begins 62 (chars node_ ++ (40 ∷ 41 ∷ k))) (no_start 47 node_ (40 ∷ 41 ∷ k) refl is_node) (no_start 62 node_ (40 ∷ 41 ∷ k) refl is_node))

axis_apart : (a : Axis) (k : List ℕ) → not (begins 47 k || begins 62 k) ≡ true → Apart (axis_pieces a) k
axis_apart Child k e = (is_sign signs.Slash, e, tt)
axis_apart Descendant k e = (is_sign signs.SlashSlash, refl, tt)

slash_closes : (a : Axis) (k : List ℕ) → Closes (pieces_chars (axis_pieces a) k)
slash_closes Child k = record { opens = record { colon = refl; equal = refl }; word = refl; quote = refl }
slash_closes Descendant k = record { opens = record { colon = refl; equal = refl }; word = refl; quote = refl }

step_tail : (s : Step) → LexicalTest s.test → Tail (step_pieces s)
step_tail s i = record {
  apart = λ k c. apart_append (axis_pieces s.axis) (test_pieces s.test) k (axis_apart s.axis (pieces_chars (test_pieces s.test) k) (slash_before s.test k i)) (test_apart s.test k i c.word);
  closes = λ k c. subst Closes (sym (chars_append (axis_pieces s.axis) (test_pieces s.test) k)) (slash_closes s.axis (pieces_chars (test_pieces s.test) k));
}

steps_tail : (ss : List Step) → LexicalSteps ss → Tail (flat_map step_pieces ss)
steps_tail [] l = no_tail
steps_tail (s ∷ ss) l = tails (step_pieces s) (flat_map step_pieces ss) (step_tail s l.0) (steps_tail ss l.1)

variable_item : (n : List ℕ) → IsKind (kinds.Var n) → Item (put (kinds.Var n) ∷ [])
variable_item n i = record { apart = λ k c. (i, c.word, tt); opens = λ k c. record { colon = refl; equal = refl } }

start_item : (s : Option (List ℕ)) → LexicalStart s → Item (start_pieces s)
start_item None l = nothing
start_item (Some n) l = variable_item n l

path_item : (p : PathExpr) → LexicalPath p → Item (path_pieces p)
path_item p l = tailed (start_pieces p.start) (flat_map step_pieces p.steps) (start_item p.start l.0) (steps_tail p.steps l.1)

-- ---- Conditions

rel_link : (r : Rel) → Link (rel_pieces r)
rel_link rels.Eq = record { apart = λ k. (is_sign signs.Eq, refl, tt); closes = λ k. blank_closes _ }
rel_link rels.Ne = record { apart = λ k. (is_sign signs.Ne, refl, tt); closes = λ k. blank_closes _ }
rel_link rels.Lt = record { apart = λ k. (is_sign signs.Lt, refl, tt); closes = λ k. blank_closes _ }
rel_link rels.Le = record { apart = λ k. (is_sign signs.Le, refl, tt); closes = λ k. blank_closes _ }
rel_link rels.Gt = record { apart = λ k. (is_sign signs.Gt, refl, tt); closes = λ k. blank_closes _ }
rel_link rels.Ge = record { apart = λ k. (is_sign signs.Ge, refl, tt); closes = λ k. blank_closes _ }

operand_item : (o : QOperand) → LexicalOperand o → Item (operand_pieces o)
operand_item (operand.Path path) l = path_item path l
operand_item (operand.Str value) l = record { apart = λ k c. (l, c.quote, tt); opens = λ k c. record { colon = refl; equal = refl } }
operand_item (operand.Num units) l = record { apart = λ k c. (l, c.word, tt); opens = λ k c. units_open units k l }

joint_link : (j : Joint) → Link (joint_pieces j)
joint_link And = word_link and_ is_and
joint_link Or = word_link or_ is_or

enclosed_item : (b : Bool) (p : List Piece) → Item p → Item (enclosed_pieces b p)
enclosed_item true p i = parens_item p i
enclosed_item false p i = i

exists_head : Head (word exists_ ∷ mark signs.ParenOpen ∷ [])
unfolding chars
exists_head = record { apart = λ k o. (is_exists, refl, (is_sign signs.ParenOpen, o.colon, tt)); opens = λ k. record { colon = refl; equal = refl } }

not_head : Head (word not_ ∷ mark signs.ParenOpen ∷ [])
unfolding chars
not_head = record { apart = λ k o. (is_not, refl, (is_sign signs.ParenOpen, o.colon, tt)); opens = λ k. record { colon = refl; equal = refl } }

true_item : Item (word true_ ∷ mark signs.ParenOpen ∷ mark signs.ParenClose ∷ [])
unfolding chars
true_item = record { apart = λ k c. (is_true, refl, (is_sign signs.ParenOpen, refl, (is_sign signs.ParenClose, refl, tt))); opens = λ k c. record { colon = refl; equal = refl } }

mutual
  cond_item : (c : QueryCondTree) → LexicalCond c → Item (cond_pieces c)
  cond_item query.QueryAlways l = true_item
  cond_item (query.QueryExists path) l =
      headed (word exists_ ∷ mark signs.ParenOpen ∷ []) (path_pieces path ++ (mark signs.ParenClose ∷ [])) exists_head (tailed (path_pieces path) (mark signs.ParenClose ∷ []) (path_item path l) close_tail)
  cond_item (query.QueryCompare left rel right) l =
      tailed (operand_pieces left) (rel_pieces rel ++ operand_pieces right) (operand_item left l.0) (linked (rel_pieces rel) (operand_pieces right) (rel_link rel) (operand_item right l.1))
  cond_item (query.QueryNot inner) l =
      headed (word not_ ∷ mark signs.ParenOpen ∷ []) (cond_pieces inner ++ (mark signs.ParenClose ∷ [])) not_head (tailed (cond_pieces inner) (mark signs.ParenClose ∷ []) (cond_item inner l) close_tail)
  cond_item (query.QueryAll members) l = joined_items (joint_pieces And) (members_pieces And members) (joint_link And) (member_items And members l)
  cond_item (query.QueryAny members) l = joined_items (joint_pieces Or) (members_pieces Or members) (joint_link Or) (member_items Or members l)

  member_items : (j : Joint) (cs : QueryCondTrees) → LexicalConds cs → Items (members_pieces j cs)
  member_items j query.no_query_cond l = tt
  member_items j (query.more_query_conds c cs) l = (enclosed_item (is_enclosed j c) (cond_pieces c) (cond_item c l.0), member_items j cs l.1)

-- ---- Expressions

clause_item : (c : Clause) → LexicalClause c → Item (clause_pieces c)
clause_item c l =
    tailed (put (kinds.Var c.var) ∷ []) ((blank ∷ word in_ ∷ blank ∷ []) ++ path_pieces c.path) (variable_item c.var l.0)
    (linked (blank ∷ word in_ ∷ blank ∷ []) (path_pieces c.path) (word_link in_ is_in) (path_item c.path l.1))

clause_items : (cs : List Clause) → LexicalClauses cs → Items (map clause_pieces cs)
clause_items [] l = tt
clause_items (c ∷ cs) l = (clause_item c l.0, clause_items cs l.1)

filter_tail : (f : Option QueryCondTree) → LexicalFilter f → Tail (filter_pieces f)
filter_tail None l = no_tail
filter_tail (Some c) l = linked (blank ∷ word where_ ∷ blank ∷ []) (cond_pieces c) (word_link where_ is_where) (cond_item c l)

less_before : (n k : List ℕ) → IsKind (kinds.Name n) → not (begins 61 (chars n ++ k) || begins 47 (chars n ++ k)) ≡ true
less_before n k i = not_from_false (begins 61 (chars n ++ k) || begins 47 (chars n ++ k)) (or_from (begins 61 (chars n ++ k)) (begins 47 (chars n ++ k)) (no_start 61 n k refl i) (no_start 47 n k refl i))

start_tag_head : (n : List ℕ) → IsKind (kinds.Name n) → Head (start_tag_pieces n)
start_tag_head n i = record {
  apart = λ k o. (is_sign signs.Lt, less_before n (62 ∷ k) i, (i, refl, (is_sign signs.Gt, o.equal, tt)));
  opens = λ k. record { colon = refl; equal = refl };
}

end_tag_tail : (n : List ℕ) → IsKind (kinds.Name n) → Tail (end_tag_pieces n)
end_tag_tail n i = record {
  apart = λ k c. (is_sign signs.EndTag, refl, (i, refl, (is_sign signs.Gt, c.opens.equal, tt)));
  closes = λ k c. record { opens = record { colon = refl; equal = refl }; word = refl; quote = refl };
}

body_item : (ps : List (List Piece)) → Items ps → Item (body_pieces ps)
body_item [] all = nothing
body_item (p ∷ ps) all =
    headed (mark signs.BraceOpen ∷ []) (joined_pieces comma (p ∷ ps) ++ (mark signs.BraceClose ∷ [])) brace_head
    (tailed (joined_pieces comma (p ∷ ps)) (mark signs.BraceClose ∷ []) (joined_items comma (p ∷ ps) comma_link all) brace_tail)

empty_item : Item (mark signs.ParenOpen ∷ mark signs.ParenClose ∷ [])
empty_item = record { apart = λ k c. (is_sign signs.ParenOpen, refl, (is_sign signs.ParenClose, refl, tt)); opens = λ k c. record { colon = refl; equal = refl } }

for_head : Head (word for_ ∷ blank ∷ [])
unfolding chars
for_head = record { apart = λ k o. (is_for, refl, tt); opens = λ k. record { colon = refl; equal = refl } }

if_head : Head (word if_ ∷ blank ∷ mark signs.ParenOpen ∷ [])
unfolding chars
if_head = record { apart = λ k o. (is_if, refl, (is_sign signs.ParenOpen, o.colon, tt)); opens = λ k. record { colon = refl; equal = refl } }

then_link : Link (mark signs.ParenClose ∷ blank ∷ word then_ ∷ blank ∷ [])
then_link = record {
  apart = λ k. (is_sign signs.ParenClose, refl, (is_then, refl, tt));
  closes = λ k. record { opens = record { colon = refl; equal = refl }; word = refl; quote = refl };
}

mutual
  expr_item : (e : ExprTree) → LexicalExpr e → Item (expr_pieces e)
  expr_item query.Empty l = empty_item
  expr_item (query.Seq parts) l = parens_item (joined_pieces comma (exprs_pieces parts)) (joined_items comma (exprs_pieces parts) comma_link (expr_items parts l))
  expr_item (query.Elem n body) l =
      headed (start_tag_pieces n) (body_pieces (exprs_pieces body) ++ end_tag_pieces n) (start_tag_head n l.0)
      (tailed (body_pieces (exprs_pieces body)) (end_tag_pieces n) (body_item (exprs_pieces body) (expr_items body l.1)) (end_tag_tail n l.0))
  expr_item (query.QueryPath path) l = path_item path l
  expr_item (query.QueryFor clauses filter body) l =
      headed (word for_ ∷ blank ∷ []) (joined_pieces comma (map clause_pieces clauses) ++ (filter_pieces filter ++ ((blank ∷ word return_ ∷ blank ∷ []) ++ expr_pieces body))) for_head
      (tailed (joined_pieces comma (map clause_pieces clauses)) (filter_pieces filter ++ ((blank ∷ word return_ ∷ blank ∷ []) ++ expr_pieces body))
      (joined_items comma (map clause_pieces clauses) comma_link (clause_items clauses l.0))
      (tails (filter_pieces filter) ((blank ∷ word return_ ∷ blank ∷ []) ++ expr_pieces body) (filter_tail filter l.1)
      (linked (blank ∷ word return_ ∷ blank ∷ []) (expr_pieces body) (word_link return_ is_return) (expr_item body l.2))))
  expr_item (query.QueryIf c this other) l =
      headed (word if_ ∷ blank ∷ mark signs.ParenOpen ∷ []) (cond_pieces c ++ ((mark signs.ParenClose ∷ blank ∷ word then_ ∷ blank ∷ []) ++ (expr_pieces this ++ ((blank ∷ word else_ ∷ blank ∷ []) ++ expr_pieces other)))) if_head
      (tailed (cond_pieces c) ((mark signs.ParenClose ∷ blank ∷ word then_ ∷ blank ∷ []) ++ (expr_pieces this ++ ((blank ∷ word else_ ∷ blank ∷ []) ++ expr_pieces other))) (cond_item c l.0)
      (linked (mark signs.ParenClose ∷ blank ∷ word then_ ∷ blank ∷ []) (expr_pieces this ++ ((blank ∷ word else_ ∷ blank ∷ []) ++ expr_pieces other)) then_link
      (tailed (expr_pieces this) ((blank ∷ word else_ ∷ blank ∷ []) ++ expr_pieces other) (expr_item this l.1)
      (linked (blank ∷ word else_ ∷ blank ∷ []) (expr_pieces other) (word_link else_ is_else) (expr_item other l.2)))))

  expr_items : (es : ExprTrees) → LexicalExprs es → Items (exprs_pieces es)
  expr_items query.no_expr l = tt
  expr_items (query.more_exprs e es) l = (expr_item e l.0, expr_items es l.1)

part_items : (q : List ExprTree) → Lexical q → Items (map expr_pieces q)
part_items [] l = tt
part_items (e ∷ es) l = (expr_item e l.0, part_items es l.1)

end_closes : Closes []
end_closes = record { opens = record { colon = refl; equal = refl }; word = refl; quote = refl }

pub query_apart : (q : List ExprTree) → Lexical q → Apart (query_pieces q) []
query_apart q l = (joined_items comma (map expr_pieces q) comma_link (part_items q l)).apart [] end_closes
