-- From what the machine gives to what is answered of the tokens.
use Rattle.std.proofs.Common.{ℕ, ◌≡◌, List, Result, Ok, Err, ap, ◌∙◌}
use Rattle.gcx_model.specs.declared.fault.QueryFault.{QueryFault}
use Rattle.gcx_model.specs.declared.fault.QueryFault.TheVariants as query_faults
use Rattle.gcx_model.specs.declared.query.Query.{Query}
use Rattle.gcx_model.specs.Query.{ExprTree}
use Rattle.xq_lex.specs.declared.token.Tok.{Tok}
use Rattle.gcx_model.specs.Refusals.{UnlessMemory}
use Rattle.xq_parse.specs.declared.marks.Marks.{Marks}
use Rattle.xq_parse.specs.declared.refusal.Refusal.{Refusal}
use Rattle.xq_parse.specs.declared.refusal.Refusal.TheVariants as refusals
use Rattle.xq_parse.specs.Machine.{start}
use Rattle.xq_parse.specs.Reading.{a_stop, a_found, run, Fails}
use Rattle.xq_parse.specs.Answering.{Answers, fault_from, judge, judge_marks, judged, stop_fault}

unless : (P : QueryFault → Type 0) (f : QueryFault) → P f → UnlessMemory P f
unless P query_faults.Memory p = tt
unless P (query_faults.Utf8 at) p = p
unless P (query_faults.Lex at) p = p
unless P (query_faults.Syntax at) p = p
unless P (query_faults.UnknownVar at) p = p
unless P (query_faults.TagMismatch at) p = p
unless P (query_faults.DescendantNotLast at) p = p
unless P (query_faults.IntegerWide at) p = p
unless P (query_faults.TooLarge what limit) p = p

-- the answer of what was found
pub of_found : (ts : List Tok) (end : ℕ) (m : Marks) (es : List ExprTree) (r : Result Query QueryFault) → run 200 start ts ≡ Ok (a_found m es) → Answers r (judge_marks m.unknown m.late es) → Answers r (judged ts end)
of_found ts end m es (Ok q) e a = ap (judge ts end) e ∙ a
of_found ts end m es (Err f) e a = go f a
  where
    go : (f : QueryFault) → UnlessMemory (λ g. judge_marks m.unknown m.late es ≡ Err g) f → UnlessMemory (λ g. judged ts end ≡ Err g) f
    go query_faults.Memory a = tt
    go (query_faults.Utf8 at) a = ap (judge ts end) e ∙ a
    go (query_faults.Lex at) a = ap (judge ts end) e ∙ a
    go (query_faults.Syntax at) a = ap (judge ts end) e ∙ a
    go (query_faults.UnknownVar at) a = ap (judge ts end) e ∙ a
    go (query_faults.TagMismatch at) a = ap (judge ts end) e ∙ a
    go (query_faults.DescendantNotLast at) a = ap (judge ts end) e ∙ a
    go (query_faults.IntegerWide at) a = ap (judge ts end) e ∙ a
    go (query_faults.TooLarge what limit) a = ap (judge ts end) e ∙ a

-- the answer of a refusal
pub of_refusal : (ts : List Tok) (end : ℕ) (e : Refusal) → Fails e (run 200 start ts) → UnlessMemory (λ f. judged ts end ≡ Err f) (fault_from ts end e)
of_refusal ts end refusals.Memory h = tt
of_refusal ts end (refusals.At why left) h = unless (λ f. judged ts end ≡ Err f) (stop_fault ts end (a_stop why left)) (ap (judge ts end) h)
