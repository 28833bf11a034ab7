-- The tokens of a query as its grammar sees them (this project's language). A variable and a slash carry the byte where they stand, since faults name these places.
use Rattle.std.specs.Prelude.{ℕ, ℤ, List, map}
use Rattle.xq_lex.specs.declared.sign.Sign.{Sign}
use Rattle.xq_lex.specs.declared.sign.Sign.TheVariants as signs
use Rattle.xq_lex.specs.declared.token.Tok.{Tok}
use Rattle.xq_lex.specs.declared.token.TokKind.{TokKind}
use Rattle.xq_lex.specs.declared.token.TokKind.TheVariants as kinds
use lib.Chars.{codes}

-- `/` is TSlash and `//` is TSlashes; TSign is any other sign.
pub data Token : Type 0 where
  TName : (name : List ℕ) → Token
  TVar : (at : ℕ) (name : List ℕ) → Token
  TNum : (units : ℤ) → Token
  TStr : (text : List ℕ) → Token
  TSlash : (at : ℕ) → Token
  TSlashes : (at : ℕ) → Token
  TSign : (sign : Sign) → Token

abbrev pub token_at : (at : ℕ) → TokKind → Token
token_at at (kinds.Name n) = TName n
token_at at (kinds.Var n) = TVar at n
token_at at (kinds.Number u) = TNum u
token_at at (kinds.Str s) = TStr s
token_at at (kinds.Sign signs.Slash) = TSlash at
token_at at (kinds.Sign signs.SlashSlash) = TSlashes at
token_at at (kinds.Sign s) = TSign s

abbrev pub token_of : Tok → Token
token_of t = token_at t.from t.kind

abbrev pub tokens_of : List Tok → List Token
tokens_of ts = map token_of ts

abbrev pub for_ : List ℕ
for_ = codes "for"

abbrev pub in_ : List ℕ
in_ = codes "in"

abbrev pub where_ : List ℕ
where_ = codes "where"

abbrev pub return_ : List ℕ
return_ = codes "return"

abbrev pub if_ : List ℕ
if_ = codes "if"

abbrev pub then_ : List ℕ
then_ = codes "then"

abbrev pub else_ : List ℕ
else_ = codes "else"

abbrev pub or_ : List ℕ
or_ = codes "or"

abbrev pub and_ : List ℕ
and_ = codes "and"

abbrev pub not_ : List ℕ
not_ = codes "not"

abbrev pub true_ : List ℕ
true_ = codes "true"

abbrev pub exists_ : List ℕ
exists_ = codes "exists"

abbrev pub text_ : List ℕ
text_ = codes "text"

abbrev pub node_ : List ℕ
node_ = codes "node"

abbrev pub child_ : List ℕ
child_ = codes "child"

abbrev pub descendant_ : List ℕ
descendant_ = codes "descendant"
