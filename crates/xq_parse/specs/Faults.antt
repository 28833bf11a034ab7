-- Why a text is refused (this project's language).
use Rattle.std.specs.Prelude.{ℕ, ◌≡◌, ◌≤◌, List, [], ◌∷◌, ◌++◌, length, ◌⊎◌, true}
use Rattle.gcx_model.specs.declared.fault.QueryFault.{QueryFault}
use Rattle.gcx_model.specs.declared.fault.QueryFault.TheVariants as query_faults
use Rattle.gcx_model.specs.declared.fault.What.TheVariants as sizes
use Rattle.gcx_model.specs.Query.{ExprTree}
use Rattle.gcx_model.specs.Sound.{is_sound}
use Rattle.xq_lex.specs.declared.sign.Sign.TheVariants as signs
use Rattle.xq_lex.specs.declared.token.Tok.{Tok}
use Rattle.xq_lex.specs.Lex.{LexFault}
use Rattle.xq_parse.specs.Tokens.{Token, TName, TSign, tokens_of}
use Rattle.xq_parse.specs.Grammar.{Derivation, Derives, Viable}
use Rattle.xq_parse.specs.Places.{unknown_of, late_of}
use Rattle.xq_parse.specs.Spelling.{HasTokens, QuerySpells}

-- ---- the kind of a fault whose token is the last of these

-- But for the limit the tokens are a front of a query.
abbrev pub IsTooDeep : List Token → Type 0
IsTooDeep front = (limit : ℕ) × (200 ≤ limit) × Viable limit front

-- The last token is a Name directly behind `</`.
pub record EndsWithTagName (front : List Token) : Type 0 where
  pub before : List Token
  pub name : List ℕ
  pub parts : front ≡ before ++ (TSign signs.EndTag ∷ TName name ∷ [])

abbrev pub IsTagMismatch : List Token → Type 0
IsTagMismatch front = ¬ (IsTooDeep front) × EndsWithTagName front

abbrev pub IsSyntax : List Token → Type 0
IsSyntax front = ¬ (IsTooDeep front) × ¬ (EndsWithTagName front)

-- ---- where it comes

-- The token at byte `at` is the first with which the tokens so far are no front of a query, and Kind holds of them.
pub record HasFaultToken (ts : List Tok) (at : ℕ) (Kind : List Token → Type 0) : Type 0 where
  pub front : List Tok
  pub token : Tok
  pub behind : List Tok
  pub parts : ts ≡ front ++ (token ∷ behind)
  pub place : at ≡ token.from
  pub good : Viable 200 (tokens_of front)
  pub bad : ¬ (Viable 200 (tokens_of (front ++ (token ∷ []))))
  pub kind : Kind (tokens_of (front ++ (token ∷ [])))

-- The text ends too soon: its tokens are a front of a query, and none themselves.
pub record EndsSoon (ts : List Tok) : Type 0 where
  pub good : Viable 200 (tokens_of ts)
  pub bad : (d : Derivation) → ¬ (Derives 200 (tokens_of ts) d)

-- A derivation spells the tokens, and P holds of it.
abbrev pub IsDerivedWith : (ts : List Tok) (P : Derivation → Type 0) → Type 0
IsDerivedWith ts P = (d : Derivation) × Derives 200 (tokens_of ts) d × P d

-- the first of these places
abbrev pub BeginsAt : List ℕ → ℕ → Type 0
BeginsAt places at = (others : List ℕ) × (places ≡ at ∷ others)

-- What is wrong with the tokens of a text that ends at byte `end`: their grammar; else their variables; else their steps.
abbrev pub GrammarFault : (ts : List Tok) (end : ℕ) → QueryFault → Type 0
GrammarFault ts end (query_faults.Syntax at) = HasFaultToken ts at IsSyntax ⊎ ((at ≡ end) × EndsSoon ts)
GrammarFault ts end (query_faults.TagMismatch at) = HasFaultToken ts at IsTagMismatch
GrammarFault ts end (query_faults.TooLarge sizes.Nesting limit) = (limit ≡ 200) × ((at : ℕ) × HasFaultToken ts at IsTooDeep)
GrammarFault ts end (query_faults.UnknownVar at) = IsDerivedWith ts (λ d. BeginsAt (unknown_of d) at)
GrammarFault ts end (query_faults.DescendantNotLast at) = IsDerivedWith ts (λ d. (unknown_of d ≡ []) × BeginsAt (late_of d) at)
GrammarFault ts end (query_faults.TooLarge sizes.Text limit) = ⊥
GrammarFault ts end (query_faults.TooLarge sizes.Loops limit) = ⊥
GrammarFault ts end (query_faults.TooLarge sizes.Steps limit) = ⊥
GrammarFault ts end (query_faults.TooLarge sizes.Conditions limit) = ⊥
GrammarFault ts end (query_faults.TooLarge sizes.Roles limit) = ⊥
GrammarFault ts end (query_faults.TooLarge sizes.Descendants limit) = ⊥
GrammarFault ts end (query_faults.Utf8 at) = ⊥
GrammarFault ts end (query_faults.Lex at) = ⊥
GrammarFault ts end (query_faults.IntegerWide at) = ⊥
GrammarFault ts end query_faults.Memory = ⊥

-- TextFaultOf: for this reason the bytes have no tokens, or this is wrong with their tokens.
abbrev pub TextFaultOf : (bytes : List ℕ) → QueryFault → Type 0
TextFaultOf bytes fault = LexFault bytes fault ⊎ HasTokens bytes (λ ts. GrammarFault ts (length bytes) fault)

-- ---- one answer

-- The bytes spell no other query, and nothing is wrong with them.
pub record HasOnlyQuery (bytes : List ℕ) (q : List ExprTree) : Type 0 where
  pub once : (other : List ExprTree) → QuerySpells bytes other → other ≡ q
  pub no_fault : (fault : QueryFault) → ¬ (TextFaultOf bytes fault)

-- The bytes have no other fault, and spell no sound query.
pub record HasOnlyRefusal (bytes : List ℕ) (fault : QueryFault) : Type 0 where
  pub once : (other : QueryFault) → TextFaultOf bytes other → other ≡ fault
  pub no_query : (q : List ExprTree) → QuerySpells bytes q → ¬ (is_sound q ≡ true)
