-- This follows the code, for its proofs: no public clause speaks of it.
-- What is answered, by what the machine gives.
use Rattle.std.specs.Prelude.{ℕ, ◌≡◌, ◌-◌, List, length, Option, Some, None, Result, Ok, Err, slice_get}
use Rattle.gcx_model.specs.declared.fault.QueryFault.{QueryFault}
use Rattle.gcx_model.specs.declared.fault.QueryFault.TheVariants as faults
use Rattle.gcx_model.specs.declared.fault.What.TheVariants as whats
use Rattle.gcx_model.specs.declared.query.Query.{Query}
use Rattle.gcx_model.specs.Query.{ExprTree, query_trees}
use Rattle.xq_lex.specs.declared.token.Tok.{Tok}
use Rattle.gcx_model.specs.Refusals.{UnlessMemory}
use Rattle.xq_parse.specs.declared.refusal.Why.{Why}
use Rattle.xq_parse.specs.declared.refusal.Why.TheVariants.{Syntax, TagMismatch, Nesting}
use Rattle.xq_parse.specs.declared.refusal.Refusal.{Refusal}
use Rattle.xq_parse.specs.declared.refusal.Refusal.TheVariants.{Memory, At}
use Rattle.xq_parse.specs.Machine.{deepest, Found, start}
use Rattle.xq_parse.specs.Reading.{Stop, a_stop, run}

abbrev pub from_or : ℕ → Option Tok → ℕ
from_or end None = end
from_or end (Some t) = t.from

-- where the token stands with which so many are left
abbrev pub place_at : List Tok → (left end : ℕ) → ℕ
place_at ts left end = from_or end (slice_get ts (length ts - left))

abbrev pub fault_at : Why → ℕ → QueryFault
fault_at Syntax at = faults.Syntax at
fault_at TagMismatch at = faults.TagMismatch at
fault_at Nesting at = faults.TooLarge whats.Nesting deepest

abbrev pub stop_fault : List Tok → ℕ → Stop → QueryFault
stop_fault ts end r = fault_at r.why (place_at ts r.left end)

abbrev pub fault_from : List Tok → ℕ → Refusal → QueryFault
fault_from ts end Memory = faults.Memory
fault_from ts end (At why left) = stop_fault ts end (a_stop why left)

abbrev pub judge_marks : (unknown late : Option ℕ) → List ExprTree → Result (List ExprTree) QueryFault
judge_marks (Some at) late q = Err (faults.UnknownVar at)
judge_marks None (Some at) q = Err (faults.DescendantNotLast at)
judge_marks None None q = Ok q

abbrev pub judge : List Tok → ℕ → Result Found Stop → Result (List ExprTree) QueryFault
judge ts end (Ok f) = judge_marks f.marks.unknown f.marks.late f.parts
judge ts end (Err r) = Err (stop_fault ts end r)

-- The answer is this one, unless it is want of memory.
abbrev pub Answers : Result Query QueryFault → Result (List ExprTree) QueryFault → Type 0
Answers (Ok q) now = now ≡ Ok (query_trees q)
Answers (Err e) now = UnlessMemory (λ f. now ≡ Err f) e

abbrev pub judged : List Tok → ℕ → Result (List ExprTree) QueryFault
judged ts end = judge ts end (run deepest start ts)
