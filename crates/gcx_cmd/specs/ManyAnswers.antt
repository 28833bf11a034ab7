-- What `run` writes at Ok, what the OUTs of `many` hold, and that each is what `run` writes (this project's).
use Rattle.std.specs.Prelude.{◌≡◌, ℕ, Bool, List, slice_get, Some, ⊤}
use Rattle.gcx_base.specs.Limits.{full_limits}
use Rattle.gcx_io.specs.Shelf.{IsTelling, Names, content_of}
use Rattle.gcx_io.specs.Views.{SinkView}
use Rattle.gcx_io.specs.Writing.{Takes, joined}
use Rattle.gcx_model.specs.Answer.{answer}
use Rattle.gcx_model.specs.Document.{Nodes}
use Rattle.gcx_model.specs.Query.{ExprTree}
use Rattle.gcx_words.specs.Words.{command_of}
use Rattle.gcx_words.specs.declared.command.Command.TheVariants.{Many, Run}
use Rattle.gcx_words.specs.declared.pairs.Pair.{Pair}
use Rattle.run_words.specs.Ends.{EndsRun, NoMemory, ReadFailed, Refused, RunEnd, Completed, WriteFailed}
use Rattle.run_words.specs.Stops.{Stop}
use Rattle.run_words.specs.Writing.{Sinks}
use Rattle.tree_read.specs.Document.{BytesSpell}
use Rattle.many_run.specs.Runs.{EndsOne}
use Rattle.gcx_cmd.specs.Main.{Accepts}
use Rattle.gcx_cmd.specs.World.{World}
use Rattle.gcx_cmd.specs.Running.{Settles}
use Rattle.gcx_cmd.specs.Tracing.{IsQueryTrace}
use Rattle.gcx_cmd.specs.declared.status.Status.{Status}
use Rattle.gcx_cmd.specs.declared.status.Status.TheVariants as status

-- At Ok of `run` exactly the answer was written, where the shelf tells the bytes of QUERY and DOC.
abbrev pub AnswersRun : List (List ℕ) → Status → Names → (out out_now : SinkView) → Type 0
AnswersRun words s names a b = (trace : Bool) (ahead : ℕ) (query document query_bytes document_bytes : List ℕ)
    → command_of words ≡ Some (Run trace ahead query document) → s ≡ status.Ok
    → content_of names query ≡ Some query_bytes → content_of names document ≡ Some document_bytes
    → (q : List ExprTree) (d : Nodes) → Accepts query_bytes q → BytesSpell document_bytes d → Takes a b (answer q d)

-- At Ok each OUT holds the answer of its QUERY over DOC, where the shelf tells its names before and afterwards.
abbrev pub AnswersMany : List (List ℕ) → Status → World → World → Type 0
AnswersMany words s a b = (document : List ℕ) (pairs : List Pair) → command_of words ≡ Some (Many document pairs) → s ≡ status.Ok
    → IsTelling b.shelf.names → (i : ℕ) (p : Pair) (query_bytes document_bytes : List ℕ) → slice_get pairs i ≡ Some p
    → content_of a.shelf.names p.query ≡ Some query_bytes → content_of a.shelf.names document ≡ Some document_bytes
    → (q : List ExprTree) (d : Nodes) → Accepts query_bytes q → BytesSpell document_bytes d → content_of b.shelf.names p.out ≡ Some (answer q d)

-- all that is settled is written at this end
abbrev pub WritesSettled : RunEnd → Type 0
WritesSettled Completed = ⊤
WritesSettled (Refused f) = ⊤
WritesSettled ReadFailed = ⊤
WritesSettled WriteFailed = ⊥
WritesSettled NoMemory = ⊥

-- Of a query that is run by itself and beside others over the same bytes, with the same end, one text is written.
abbrev pub ManyWriteAsOne : Type 0
ManyWriteAsOne = (x : List ExprTree) (tracing : Bool) (end : RunEnd) (ps qs : List (List ℕ)) (stop : Stop) (at i : ℕ) (a b : Sinks) (c d : SinkView)
    → WritesSettled end → joined ps ≡ joined qs → EndsRun (Settles x) (IsQueryTrace x) full_limits tracing end ps stop a b
    → EndsOne (Settles x) (IsQueryTrace x) full_limits end qs stop at i c d → (w : List ℕ) × Takes a.out b.out w × Takes c d w
