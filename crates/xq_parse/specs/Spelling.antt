-- Which query a text spells.
use Rattle.std.specs.Prelude.{ℕ, ◌≡◌, List}
use Rattle.gcx_model.specs.Query.{ExprTree}
use Rattle.xq_lex.specs.declared.token.Tok.{Tok}
use Rattle.xq_lex.specs.Lex.{Lexes}
use Rattle.xq_parse.specs.Tokens.{tokens_of}
use Rattle.xq_parse.specs.Grammar.{Derivation, Derives, derivation_tree}

-- The bytes have tokens, of which P holds.
pub record HasTokens (bytes : List ℕ) (P : List Tok → Type 0) : Type 0 where
  pub tokens : List Tok
  pub lexed : Lexes bytes tokens
  pub holds : P tokens

-- A derivation spells the tokens, nesting at most 200 constructs, and its tree is q.
pub record Spells (ts : List Tok) (q : List ExprTree) : Type 0 where
  pub derivation : Derivation
  pub derives : Derives 200 (tokens_of ts) derivation
  pub tree : derivation_tree derivation ≡ q

-- QuerySpells: the bytes spell the query q, which is seen as the trees of its parts.
abbrev pub QuerySpells : (bytes : List ℕ) (q : List ExprTree) → Type 0
QuerySpells bytes q = HasTokens bytes (λ ts. Spells ts q)
