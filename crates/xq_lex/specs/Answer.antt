-- This follows the code, for its proofs: no public clause speaks of it.
-- What is answered of the token at the front of a text.
use Rattle.std.specs.Prelude.{◌≡◌, ◌<◌, ◌≤◌, ℕ, false, List, length, drop}
use Rattle.gcx_model.specs.declared.fault.QueryFault.{QueryFault}
use Rattle.gcx_model.specs.declared.fault.QueryFault.TheVariants.{Utf8, Lex, Syntax, UnknownVar, TagMismatch, DescendantNotLast, IntegerWide, TooLarge, Memory}
use Rattle.xq_lex.specs.declared.token.TokKind.{TokKind}
use Rattle.xq_lex.specs.Form.{Form, BeginsWith, kind_of, is_too_wide}
use Rattle.xq_lex.specs.Lex.{IsNoToken, HasWideNumber}

-- the text begins with this token, of so many characters
pub record IsLexeme (text : List ℕ) (kind : TokKind) (count : ℕ) : Type 0 where
  pub form : Form
  pub begins : BeginsWith text form (drop count text)
  pub in_range : is_too_wide form ≡ false
  pub kind_is : kind ≡ kind_of form
  pub some : 0 < count
  pub within : count ≤ length text

-- why it begins with none, where the text stands at this byte
abbrev pub IsRefusal : (place : ℕ) → List ℕ → QueryFault → Type 0
IsRefusal place text (Lex at) = (at ≡ place) × IsNoToken text
IsRefusal place text (IntegerWide at) = (at ≡ place) × HasWideNumber text
IsRefusal place text (Utf8 at) = ⊥
IsRefusal place text (Syntax at) = ⊥
IsRefusal place text (UnknownVar at) = ⊥
IsRefusal place text (TagMismatch at) = ⊥
IsRefusal place text (DescendantNotLast at) = ⊥
IsRefusal place text (TooLarge what limit) = ⊥
IsRefusal place text Memory = Unit {0}
