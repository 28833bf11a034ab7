-- The tokens that a reader gives, and those of the model (this project's).
use Rattle.gcx_model.specs.Tree.{TreeToken as Said, Start as said_start, Chars as said_text, End as said_end}
use Rattle.doc_tokens.specs.declared.token.Token.{Token}
use Rattle.doc_tokens.specs.declared.token.Token.TheVariants as token_kinds

-- a token as a reader gives it
abbrev pub given_token : Said → Token
given_token (said_start name) = token_kinds.Start name
given_token (said_text bytes) = token_kinds.Text bytes
given_token said_end = token_kinds.End

-- a token that a reader gave, as the model's
abbrev pub said_of : Token → Said
said_of (token_kinds.Start n) = said_start n
said_of (token_kinds.Text t) = said_text t
said_of token_kinds.End = said_end
said_of token_kinds.EndOfDocument = said_end
