-- What `run --trace` wrote is what `check` accepts (this project's).
use Rattle.std.specs.Prelude.{◌≡◌, ◌⊎◌, ℕ, true, List, Some}
use Rattle.gcx_base.specs.Limits.{full_limits}
use Rattle.gcx_io.specs.Shelf.{content_of}
use Rattle.gcx_io.specs.Writing.{Takes, joined}
use Rattle.gcx_model.specs.Seen.{SeenIs}
use Rattle.gcx_model.specs.Tree.{TreeToken}
use Rattle.time_laws.specs.Checking.{Yes, Judges, fitted, line_ends}
use Rattle.gcx_cmd.specs.CheckDoes.{CheckDoes}
use Rattle.gcx_cmd.specs.World.{World}
use Rattle.gcx_cmd.specs.RunDoes.{Runs}
use Rattle.gcx_cmd.specs.Tracing.{trace_text}
use Rattle.gcx_cmd.specs.declared.status.Status.{Status}
use Rattle.gcx_cmd.specs.declared.status.Status.TheVariants as status

-- What a run wrote on the diagnoses at Ok is judged with yes, of the same query and of the tokens seen in the same bytes of DOC.
abbrev pub RunsAreAccepted : Type 0
RunsAreAccepted = (ahead : ℕ) (q d : List ℕ) (a b : World) (r : Runs true ahead q d status.Ok a b) (ts : List TreeToken)
    → SeenIs full_limits (joined r.pieces) true ts
    → (took : List ℕ) × Takes a.err b.err took × Judges (trace_text r.x ts) (Yes (fitted (line_ends took))) took true

-- Ok, or memory ran out, or a call failed
abbrev pub RefusesNothing : Status → Type 0
RefusesNothing s = (s ≡ status.Ok) ⊎ ((s ≡ status.Memory) ⊎ ((s ≡ status.ReadFault) ⊎ (s ≡ status.WriteFault)))

-- What a run wrote on the diagnoses at Ok is a trace with which `check` ends so, where its files hold the same query, the same
-- document and that trace.
abbrev pub ChecksEndWell : Type 0
ChecksEndWell = (ahead : ℕ) (q d : List ℕ) (a b : World) (r : Runs true ahead q d status.Ok a b)
    → (took : List ℕ) × Takes a.err b.err took × ((query document trace : List ℕ) (s : Status) (u v : World) → CheckDoes query document trace s u v
    → content_of u.shelf.names query ≡ Some (joined r.over.query.pieces) → content_of u.shelf.names document ≡ Some (joined r.pieces)
    → content_of u.shelf.names trace ≡ Some took → RefusesNothing s)
