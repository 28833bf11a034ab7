-- A query that is run by itself and beside others writes one text.
use Rattle.std.proofs.Common.{◌≡◌, ◌∙◌, ℕ, Bool, false, true, List, sym, ap, subst}
use Rattle.gcx_base.specs.Limits.{full_limits}
use Rattle.gcx_io.specs.Views.{SinkView}
use Rattle.gcx_io.specs.Writing.{Takes, joined}
use Rattle.gcx_model.specs.Normal.{known}
use Rattle.gcx_model.specs.Query.{ExprTree}
use Rattle.gcx_model.specs.Seen.{seen_tree}
use Rattle.gcx_model.specs.Tree.{TreeToken}
use Rattle.doc_laws.proofs.LastTag.{seen_one}
use Rattle.run_words.specs.Ends.{EndsRun, NoMemory, ReadFailed, Refused, RunEnd, Completed, WriteFailed, WritesAll}
use Rattle.run_words.specs.Stops.{Stop, is_end}
use Rattle.run_words.specs.Writing.{Sinks}
use Rattle.many_run.specs.Runs.{EndsOne, alone}
use Rattle.gcx_cmd.specs.ManyAnswers.{WritesSettled}
use Rattle.gcx_cmd.specs.Running.{Settles}
use Rattle.gcx_cmd.specs.Tracing.{IsQueryTrace}

one_text : (x : List ExprTree) (b : List ℕ) (ended : Bool) (v w : List ℕ) → Settles x b ended v → Settles x b ended w → v ≡ w
one_text x b ended v w (ts, seen, is) (us, also, same) =
    is ∙ (ap (λ (z : List TreeToken). known x (seen_tree z)) (seen_one full_limits b ended ts us seen also) ∙ sym same)

module _ (x : List ExprTree) (tracing : Bool) (ps qs : List (List ℕ)) (a b : Sinks) (c d : SinkView) (same : joined ps ≡ joined qs) where
  both_write : (ended : Bool) → WritesAll (Settles x) (IsQueryTrace x) tracing (joined ps) ended a b → WritesAll (Settles x) (IsQueryTrace x) false (joined qs) ended (alone c) (alone d) → (w : List ℕ) × Takes a.out b.out w × Takes c d w
  both_write ended v w = (
    v.settled,
    v.wrote,
    subst (λ (z : List ℕ). Takes c d z) (one_text x (joined qs) ended w.settled v.settled w.is (subst (λ (z : List ℕ). Settles x z ended v.settled) same v.is)) w.wrote,
  )

pub write_as_one : (x : List ExprTree) (tracing : Bool) (end : RunEnd) (ps qs : List (List ℕ)) (stop : Stop) (at i : ℕ) (a b : Sinks) (c d : SinkView) → WritesSettled end → joined ps ≡ joined qs
    → EndsRun (Settles x) (IsQueryTrace x) full_limits tracing end ps stop a b → EndsOne (Settles x) (IsQueryTrace x) full_limits end qs stop at i c d → (w : List ℕ) × Takes a.out b.out w × Takes c d w
write_as_one x tracing Completed ps qs stop at i a b c d writes same one many = both_write x tracing ps qs a b c d same true one.2 many.2
write_as_one x tracing (Refused f) ps qs stop at i a b c d writes same one many = both_write x tracing ps qs a b c d same (is_end stop) one.2 many.2
write_as_one x tracing ReadFailed ps qs stop at i a b c d writes same one many = both_write x tracing ps qs a b c d same false one.2 many.2
write_as_one x tracing WriteFailed ps qs stop at i a b c d writes same one many = absurd writes
write_as_one x tracing NoMemory ps qs stop at i a b c d writes same one many = absurd writes
