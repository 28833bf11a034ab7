-- How what is settled, its trace and its peak go on while tokens come.
use Rattle.std.specs.Prelude.{◌≡◌, ℕ, ◌≤◌, List, ◌++◌}
use Rattle.gcx_model.specs.Tree.{Tree, opening}
use Rattle.gcx_model.specs.Query.{ExprTree}
use Rattle.gcx_model.specs.Growth.{Leads}
use Rattle.gcx_model.specs.Normal.{known}
use Rattle.gcx_model.specs.Demand.{trace_text, peak}

-- The bytes that are settled over an open tree are a front of those settled over each that comes from it,
abbrev pub KnownGoesOn : Type 0
KnownGoesOn = (q : List ExprTree) (P Q : Tree) → Leads opening P → Leads P Q → (rest : List ℕ) × (known q Q ≡ known q P ++ rest)

-- so is the trace of the demand run,
abbrev pub TraceGoesOn : Type 0
TraceGoesOn = (q : List ExprTree) (P Q : Tree) → Leads opening P → Leads P Q → (rest : List ℕ) × (trace_text q Q ≡ trace_text q P ++ rest)

-- and its peak never falls.
abbrev pub PeakGoesOn : Type 0
PeakGoesOn = (q : List ExprTree) (P Q : Tree) → Leads opening P → Leads P Q → peak q P ≤ peak q Q
