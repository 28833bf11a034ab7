-- Which status must come, where the shelf tells what its names hold and no count rose (this project's).
use Rattle.std.specs.Prelude.{◌≡◌, ◌⊎◌, ℕ, List, ◌∷◌, ◌++◌, true, slice_get, Some, ⊤}
use Rattle.gcx_base.specs.Limits.{full_limits}
use Rattle.gcx_io.specs.Causes.{Rose}
use Rattle.gcx_io.specs.Shelf.{IsTelling, Names, content_of}
use Rattle.gcx_model.specs.Faults.{FaultIs}
use Rattle.gcx_model.specs.declared.fault.DocFault.{DocFault}
use Rattle.gcx_model.specs.declared.fault.QueryFault.{QueryFault}
use Rattle.gcx_words.specs.Words.{command_of}
use Rattle.gcx_words.specs.declared.pairs.Pair.{Pair}
use Rattle.gcx_words.specs.declared.command.Command.{Command}
use Rattle.gcx_words.specs.declared.command.Command.TheVariants.{Run, Whole, Explain, Peak, Gen, Selfrun, Many, Check}
use Rattle.gcx_cmd.specs.Commands.{IsMany, IsTraced, query_of, document_of}
use Rattle.gcx_cmd.specs.Main.{IsQuery, IsDocument, QueryFaultOf}
use Rattle.gcx_cmd.specs.World.{World}
use Rattle.gcx_cmd.specs.declared.status.Status.{Status}
use Rattle.gcx_cmd.specs.declared.status.Status.TheVariants as status

-- no read failed
abbrev pub ReadsWell : World → World → Type 0
ReadsWell a b = Rose a.shelf.faults b.shelf.faults → ⊥

-- no write of the output failed, with a trace none of the trace, and of `many` none of an OUT
pub record WritesWell (c : Command) (a b : World) : Type 0 where
  pub out : Rose a.out.faults b.out.faults → ⊥
  pub err : IsTraced c → Rose a.err.faults b.err.faults → ⊥
  pub outs : IsMany c → Rose a.shelf.write_faults b.shelf.write_faults → ⊥

-- this status, or want of memory
abbrev pub Ends : Status → Status → Type 0
Ends wanted s = (s ≡ wanted) ⊎ (s ≡ status.Memory)

-- the file of this name holds such bytes
abbrev pub HoldsSuch : Names → List ℕ → (List ℕ → Type 0) → Type 0
HoldsSuch names name P = (bytes : List ℕ) × (content_of names name ≡ Some bytes) × P bytes

-- Where QUERY is accepted and DOC has no fault, it ends well.
abbrev pub CompletesWith : Command → (query document : List ℕ) → Status → World → World → Type 0
CompletesWith c query document s a b =
    HoldsSuch a.shelf.names query IsQuery → HoldsSuch a.shelf.names document IsDocument → ReadsWell a b → WritesWell c a b → Ends status.Ok s

-- Where QUERY is accepted, DOC has no fault and TRACE is there, TRACE is judged.
abbrev pub CompletesCheck : (query document trace : List ℕ) → Status → World → World → Type 0
CompletesCheck query document trace s a b =
    HoldsSuch a.shelf.names query IsQuery → HoldsSuch a.shelf.names document IsDocument → HoldsSuch a.shelf.names trace (λ bytes. ⊤)
    → ReadsWell a b → WritesWell (Check query document trace) a b → ((n : ℕ) × (s ≡ status.TraceRefused n)) ⊎ Ends status.Ok s

-- the QUERY of each of these pairs is accepted
abbrev pub AreQueries : Names → List Pair → Type 0
AreQueries names pairs = (i : ℕ) (p : Pair) → slice_get pairs i ≡ Some p → HoldsSuch names p.query IsQuery

-- Where each QUERY is accepted, DOC has no fault and the shelf still tells its names, it ends well.
abbrev pub CompletesMany : (document : List ℕ) → List Pair → Status → World → World → Type 0
CompletesMany document pairs s a b = AreQueries a.shelf.names pairs
    → HoldsSuch a.shelf.names document IsDocument → IsTelling b.shelf.names → ReadsWell a b → WritesWell (Many document pairs) a b → Ends status.Ok s

abbrev pub CompletesWell : Command → Status → World → World → Type 0
CompletesWell (Run trace ahead query document) s a b = CompletesWith (Run trace ahead query document) query document s a b
CompletesWell (Whole query document) s a b = CompletesWith (Whole query document) query document s a b
CompletesWell (Peak query document) s a b = CompletesWith (Peak query document) query document s a b
CompletesWell (Explain query) s a b = HoldsSuch a.shelf.names query IsQuery → ReadsWell a b → WritesWell (Explain query) a b → Ends status.Ok s
CompletesWell (Gen seed count) s a b = WritesWell (Gen seed count) a b → Ends status.Ok s
CompletesWell (Selfrun seed count) s a b = WritesWell (Selfrun seed count) a b → Ends status.Ok s
CompletesWell (Many document pairs) s a b = CompletesMany document pairs s a b
CompletesWell (Check query document trace) s a b = CompletesCheck query document trace s a b

-- Of `many`: the first QUERY that is refused is told. Where each is accepted, DOC is refused and the shelf still tells its names,
-- DOC is.
pub record RefusesIn (d : List ℕ) (ps : List Pair) (s : Status) (a b : World) : Type 0 where
  pub query : (before : List Pair) (p : Pair) (behind : List Pair) (f : QueryFault) → ps ≡ before ++ p ∷ behind → AreQueries a.shelf.names before
      → HoldsSuch a.shelf.names p.query (λ bytes. QueryFaultOf bytes f) → ReadsWell a b → Ends (status.QueryRefused f) s
  pub document : (f : DocFault) → AreQueries a.shelf.names ps → HoldsSuch a.shelf.names d (λ bytes. FaultIs full_limits bytes true (Some f))
      → IsTelling b.shelf.names → ReadsWell a b → WritesWell (Many d ps) a b → Ends (status.DocumentRefused f) s

abbrev pub RefusesMany : Command → Status → World → World → Type 0
RefusesMany (Many document pairs) s a b = RefusesIn document pairs s a b
RefusesMany command s a b = ⊤

-- Of a command: it ends well where nothing is wrong, and a QUERY that is refused is told, or, where QUERY is accepted, a DOC.
pub record CompletesFor (c : Command) (s : Status) (a b : World) : Type 0 where
  pub well : CompletesWell c s a b
  pub refused : (q : List ℕ) (f : QueryFault) → query_of c ≡ Some q → HoldsSuch a.shelf.names q (λ bytes. QueryFaultOf bytes f) → ReadsWell a b
      → Ends (status.QueryRefused f) s
  pub refused_document : (q d : List ℕ) (f : DocFault) → query_of c ≡ Some q → document_of c ≡ Some d → HoldsSuch a.shelf.names q IsQuery
      → HoldsSuch a.shelf.names d (λ bytes. FaultIs full_limits bytes true (Some f)) → ReadsWell a b → WritesWell c a b
      → Ends (status.DocumentRefused f) s
  pub refused_many : RefusesMany c s a b

abbrev pub Completes : List (List ℕ) → Status → World → World → Type 0
Completes words s a b = (c : Command) → command_of words ≡ Some c → CompletesFor c s a b
