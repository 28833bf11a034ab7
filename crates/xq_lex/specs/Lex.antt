-- Which tokens a query has, and why it may have none (this project's language).
use Rattle.std.specs.Prelude.{◌≡◌, ◌≢◌, ◌≤◌, ◌<◌, ◌+◌, ℕ, true, false, List, [], ◌∷◌, length, slice_range, IsUtf8}
use Rattle.std.specs.Str.{IsValidUpTo, chars, encode_utf8_all}
use Rattle.gcx_model.specs.declared.fault.QueryFault.{QueryFault}
use Rattle.gcx_model.specs.declared.fault.QueryFault.TheVariants.{Utf8, Lex, Syntax, UnknownVar, TagMismatch, DescendantNotLast, IntegerWide, TooLarge, Memory}
use Rattle.gcx_model.specs.declared.fault.What.TheVariants.{Text}
use Rattle.xq_lex.specs.declared.token.Tok.{Tok}
use Rattle.xq_lex.specs.Gap.{HasGap}
use Rattle.xq_lex.specs.Form.{Form, BeginsWith, BeginsWithNone, form_chars, kind_of, is_too_wide}

-- In a text of `total` bytes, of which `text` is what is left: a gap, this token, and then `rest`.
pub record Reads (total : ℕ) (text : List ℕ) (token : Tok) (rest : List ℕ) : Type 0 where
  pub behind_gap : List ℕ
  pub form : Form
  pub gap : HasGap text behind_gap
  pub begins : BeginsWith behind_gap form rest
  pub in_range : is_too_wide form ≡ false
  pub kind : token.kind ≡ kind_of form
  pub from : token.from + length (encode_utf8_all behind_gap) ≡ total
  pub to : token.to + length (encode_utf8_all rest) ≡ total

-- these tokens, and then `rest`
abbrev pub ReadsAll : (total : ℕ) (text : List ℕ) → List Tok → (rest : List ℕ) → Type 0
ReadsAll total text [] rest = text ≡ rest
ReadsAll total text (t ∷ ts) rest = (middle : List ℕ) × (Reads total text t middle × ReadsAll total middle ts rest)

-- Nothing is left but a gap behind these tokens.
pub record LexesAs (text : List ℕ) (tokens : List Tok) : Type 0 where
  pub rest : List ℕ
  pub reads : ReadsAll (length (encode_utf8_all text)) text tokens rest
  pub gap : HasGap rest []

-- Behind some tokens and a gap, at byte `at`, something is left, of which P holds.
pub record StopsAt (at : ℕ) (P : List ℕ → Type 0) (text : List ℕ) : Type 0 where
  pub tokens : List Tok
  pub rest : List ℕ
  pub behind_gap : List ℕ
  pub reads : ReadsAll (length (encode_utf8_all text)) text tokens rest
  pub gap : HasGap rest behind_gap
  pub place : at + length (encode_utf8_all behind_gap) ≡ length (encode_utf8_all text)
  pub stops : P behind_gap

-- No token begins it: at its first character none does, or a comment or a string begins there and isn't one.
abbrev pub IsNoToken : List ℕ → Type 0
IsNoToken text = (text ≢ []) × BeginsWithNone text

-- it begins with a number out of range
pub record HasWideNumber (text : List ℕ) : Type 0 where
  pub form : Form
  pub rest : List ℕ
  pub begins : BeginsWith text form rest
  pub wide : is_too_wide form ≡ true

-- At most 1,048,576 bytes, which are the UTF-8 of characters of which P holds.
pub record IsTextWith (P : List ℕ → Type 0) (bytes : List ℕ) : Type 0 where
  pub short : length bytes ≤ 1048576
  pub utf8 : IsUtf8 bytes
  pub holds : P (chars bytes)

-- The bytes are a query of these tokens.
abbrev pub Lexes : (bytes : List ℕ) → List Tok → Type 0
Lexes bytes tokens = IsTextWith (λ text. LexesAs text tokens) bytes

-- Why the bytes have no tokens: the first of these reasons in their order.
abbrev pub LexFault : (bytes : List ℕ) → QueryFault → Type 0
LexFault bytes (TooLarge what limit) = (what ≡ Text) × (limit ≡ 1048576) × (1048576 < length bytes)
LexFault bytes (Utf8 at) = (length bytes ≤ 1048576) × IsValidUpTo bytes at
LexFault bytes (Lex at) = IsTextWith (StopsAt at IsNoToken) bytes
LexFault bytes (IntegerWide at) = IsTextWith (StopsAt at HasWideNumber) bytes
LexFault bytes (Syntax at) = ⊥
LexFault bytes (UnknownVar at) = ⊥
LexFault bytes (TagMismatch at) = ⊥
LexFault bytes (DescendantNotLast at) = ⊥
LexFault bytes Memory = ⊥

-- These are the only tokens of the bytes, which have no fault.
pub record HasOnlyTokens (bytes : List ℕ) (tokens : List Tok) : Type 0 where
  pub once : (others : List Tok) → Lexes bytes others → others ≡ tokens
  pub no_fault : (fault : QueryFault) → ¬ (LexFault bytes fault)

-- This is the only fault of the bytes, which have no tokens.
pub record HasOnlyFault (bytes : List ℕ) (fault : QueryFault) : Type 0 where
  pub once : (other : QueryFault) → LexFault bytes other → other ≡ fault
  pub no_tokens : (tokens : List Tok) → ¬ (Lexes bytes tokens)

-- A token's bytes are those of its characters.
pub record HasSpan (bytes : List ℕ) (token : Tok) : Type 0 where
  pub form : Form
  pub kind : token.kind ≡ kind_of form
  pub span : slice_range bytes token.from token.to ≡ encode_utf8_all (form_chars form [])

-- Each token stands behind the one before it, the first from `start` on.
abbrev pub AreInOrder : (bytes : List ℕ) (start : ℕ) → List Tok → Type 0
AreInOrder bytes start [] = start ≤ length bytes
AreInOrder bytes start (t ∷ ts) = (start ≤ t.from) × (t.from < t.to) × HasSpan bytes t × AreInOrder bytes t.to ts
