-- Truths and values with the times from which on they are known (this project's).
use Rattle.std.specs.Prelude.{ℕ, Bool, true, nat_lt, max, Option, Some, None}
use Rattle.gcx_model.specs.Tree.{serial_of, Tree}
use Rattle.gcx_model.specs.Paths.{matches, value}
use Rattle.gcx_model.specs.Values as model
use Rattle.gcx_base.specs.declared.steps.Step.{Step}
use Rattle.doc_tree.specs.Rows.{node_at}
use Rattle.time_laws.specs.Times as times
use Rattle.time_laws.specs.Times.{Clock, TimedValue, exists_settled}
use Rattle.std.specs.Prelude.{List}
use Rattle.trace_check.specs.Timing.{clock_in}
use Rattle.trace_check.specs.declared.timed.Timed.{Timed}
use Rattle.trace_check.specs.declared.conditions.Settled.{Settled}
use Rattle.trace_check.specs.declared.values.Value.{Value}
use Rattle.trace_check.specs.declared.values.Value.TheVariants as compared
use Rattle.trace_check.specs.declared.values.TimedValue as code

abbrev pub settled_in : Settled → times.SettledTruth
settled_in s = record { at = s.at; truth = s.truth }

abbrev pub value_in : Value → model.ComparedValue
value_in (compared.Bytes bytes) = model.Bytes bytes.items
value_in (compared.Units units) = model.Units units

abbrev pub timed_in : code.TimedValue → TimedValue
timed_in v = (v.at, value_in v.value)

-- the value of the node with this number, which counts from its closing on
abbrev pub value_at : Timed → ℕ → TimedValue
value_at t i = ((clock_in t).closed i, model.Bytes (value t.tree (node_at t.tree.nodes i)))

-- a time that is sooner than the one that was found
abbrev pub is_sooner : Option ℕ → ℕ → Bool
is_sooner None at = true
is_sooner (Some found) at = nat_lt at found

-- whether the steps have a match from the node with this number, and since when that is known
abbrev pub exists_at : Clock → Tree → ℕ → List Step → times.SettledTruth
exists_at c C n steps =
    exists_settled c (matches C (serial_of (node_at C.nodes n)) steps) (c.closed (serial_of (node_at C.nodes n)))

-- the truth is known no sooner than this
abbrev pub no_sooner : ℕ → times.SettledTruth → times.SettledTruth
no_sooner at s = record { at = max at s.at; truth = s.truth }
