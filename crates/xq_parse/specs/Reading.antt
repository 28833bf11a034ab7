-- This follows the code, for its proofs: no public clause speaks of it.
-- What a part of the parser does, by the machine.
use Rattle.std.specs.Prelude.{ℕ, ◌≡◌, List, [], ◌∷◌, length, Option, Some, None, Result, Ok, Err}
use Rattle.xq_lex.specs.declared.token.Tok.{Tok}
use Rattle.xq_parse.specs.declared.refusal.Why.{Why}
use Rattle.xq_parse.specs.declared.refusal.Why.TheVariants.{Syntax}
use Rattle.xq_parse.specs.declared.refusal.Refusal.{Refusal}
use Rattle.xq_parse.specs.declared.refusal.Refusal.TheVariants.{Memory, At}
use Rattle.gcx_model.specs.Query.{ExprTree}
use Rattle.xq_parse.specs.declared.marks.Marks.{Marks}
use Rattle.xq_parse.specs.Tokens.{token_of}
use Rattle.xq_parse.specs.Machine.{State, step, whole, Found}

-- why, and how many tokens were left, that which can't stand with them
pub record Stop : Type 0 where
  pub why : Why
  pub left : ℕ

abbrev pub a_stop : Why → ℕ → Stop
a_stop why left = record { why = why; left = left }

abbrev pub over : Option Found → Result Found Stop
over (Some f) = Ok f
over None = Err (a_stop Syntax 0)

abbrev pub forth : ℕ → Result State Why → (State → Result Found Stop) → Result Found Stop
forth left (Ok s) f = f s
forth left (Err why) f = Err (a_stop why left)

-- what tokens lead to from a state, or the first token that can't stand
abbrev pub run : ℕ → State → List Tok → Result Found Stop
run limit s [] = over (whole s)
run limit s (t ∷ ts) = forth (length (t ∷ ts)) (step limit s (token_of t)) (λ u. run limit u ts)

abbrev pub Fails : Refusal → Result Found Stop → Type 0
Fails Memory now = Unit {0}
Fails (At why left) now = now ≡ Err (a_stop why left)

-- A part that answers x goes on as `next x`; one that refuses has found the fault; memory may run out.
abbrev pub Moves : {X : Type 0} → (X → Result Found Stop) → Result X Refusal → Result Found Stop → Type 0
Moves next (Ok x) now = now ≡ next x
Moves next (Err e) now = Fails e now

abbrev pub a_found : Marks → List ExprTree → Found
a_found m es = record { marks = m; parts = es }
