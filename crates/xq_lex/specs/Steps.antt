-- This follows the code, for its proofs: no public clause speaks of it.
-- What is answered of the next token of a text that stands at a byte of the query.
use Rattle.std.specs.Prelude.{◌≡◌, ◌<◌, ◌≤◌, ◌+◌, ℕ, List, length, drop}
use Rattle.std.specs.Str.{encode_utf8_all}
use Rattle.gcx_model.specs.declared.fault.QueryFault.{QueryFault}
use Rattle.gcx_model.specs.declared.fault.QueryFault.TheVariants.{Utf8, Lex, Syntax, UnknownVar, TagMismatch, DescendantNotLast, IntegerWide, TooLarge, Memory}
use Rattle.xq_lex.specs.declared.lexer.Step.{Step}
use Rattle.xq_lex.specs.Gap.{HasGap}
use Rattle.xq_lex.specs.Lex.{Reads, StopsAt, IsNoToken, HasWideNumber}

-- the next token, and how many characters it and the gap before it have
pub record IsNext (place : ℕ) (text : List ℕ) (step : Step) : Type 0 where
  pub reads : Reads (place + length (encode_utf8_all text)) text step.token (drop step.count text)
  pub within : step.count ≤ length text
  pub some : 0 < step.count

-- behind a gap stands at this byte what is no token
pub record IsStopAt (place : ℕ) (text : List ℕ) (at : ℕ) (P : List ℕ → Type 0) : Type 0 where
  pub behind : List ℕ
  pub gap : HasGap text behind
  pub place_is : at + length (encode_utf8_all behind) ≡ place + length (encode_utf8_all text)
  pub stops : P behind

abbrev pub IsStop : (place : ℕ) → List ℕ → QueryFault → Type 0
IsStop place text (Lex at) = IsStopAt place text at IsNoToken
IsStop place text (IntegerWide at) = IsStopAt place text at HasWideNumber
IsStop place text (Utf8 at) = ⊥
IsStop place text (Syntax at) = ⊥
IsStop place text (UnknownVar at) = ⊥
IsStop place text (TagMismatch at) = ⊥
IsStop place text (DescendantNotLast at) = ⊥
IsStop place text (TooLarge what limit) = ⊥
IsStop place text Memory = Unit {0}

-- why the characters have no tokens
abbrev pub IsStopped : List ℕ → QueryFault → Type 0
IsStopped text (Lex at) = StopsAt at IsNoToken text
IsStopped text (IntegerWide at) = StopsAt at HasWideNumber text
IsStopped text (Utf8 at) = ⊥
IsStopped text (Syntax at) = ⊥
IsStopped text (UnknownVar at) = ⊥
IsStopped text (TagMismatch at) = ⊥
IsStopped text (DescendantNotLast at) = ⊥
IsStopped text (TooLarge what limit) = ⊥
IsStopped text Memory = Unit {0}
