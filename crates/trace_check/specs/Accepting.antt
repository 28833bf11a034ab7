-- What a run with a trace wrote of a whole document is judged with yes (this project's).
use Rattle.std.specs.Prelude.{◌≡◌, ℕ, true, List}
use Rattle.gcx_base.specs.declared.limits.Limits.{Limits}
use Rattle.gcx_model.specs.Core.{PlanTree}
use Rattle.gcx_model.specs.Seen.{SeenIs}
use Rattle.gcx_model.specs.Tree.{TreeToken}
use Rattle.time_laws.specs.Checking.{Yes, Judges, fitted, line_ends}
use Rattle.trace_check.specs.Judging.{trace_of}

-- Where a run's trace is that of the tokens seen in all bytes of a document, a judge of the same plan and bytes says yes.
abbrev pub TracesAreAccepted : Type 0
TracesAreAccepted = (plan : PlanTree) (lim : Limits) (b : List ℕ) (ts us : List TreeToken) (took : List ℕ)
    → SeenIs lim b true ts → took ≡ trace_of plan ts → SeenIs lim b true us
    → Judges (trace_of plan us) (Yes (fitted (line_ends took))) took true
