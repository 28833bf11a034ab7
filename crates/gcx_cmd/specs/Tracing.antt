-- The trace of a query's run (this project's).
use Rattle.std.specs.Prelude.{◌≡◌, ℕ, Bool, List}
use Rattle.gcx_base.specs.Limits.{full_limits}
use Rattle.gcx_model.specs.Demand.{text_of_lines, trace_lines}
use Rattle.gcx_model.specs.Normal.{normal}
use Rattle.gcx_model.specs.Placed.{plan_of}
use Rattle.gcx_model.specs.Query.{ExprTree}
use Rattle.gcx_model.specs.Seen.{SeenIs}
use Rattle.gcx_model.specs.Tree.{TreeToken}

-- the text of the trace of the query over these tokens
abbrev pub trace_text : List ExprTree → List TreeToken → List ℕ
trace_text q ts = text_of_lines (trace_lines (plan_of (normal q)) ts)

-- t is the trace of the tags read in the bytes
abbrev pub IsQueryTrace : List ExprTree → List ℕ → (ended : Bool) → List ℕ → Type 0
IsQueryTrace q bytes ended t = (ts : List TreeToken) × SeenIs full_limits bytes ended ts × (t ≡ trace_text q ts)
