-- What was written of an output and of the trace behind it (this project's).
use Rattle.std.specs.Prelude.{◌≡◌, ◌⊎◌, ℕ, Bool, true, false, List, ◌++◌}
use Rattle.gcx_io.specs.Views.{SinkView}
use Rattle.gcx_io.specs.Writing.{Takes, Owes}

-- where the output goes, and where the trace
pub record Sinks : Type 0 where
  pub out : SinkView
  pub err : SinkView

-- a front of the text was taken, `sure` at least, and no call failed
pub record TakesFront (a b : SinkView) (sure text : List ℕ) : Type 0 where
  pub more : List ℕ
  pub rest : List ℕ
  pub took : Takes a b (sure ++ more)
  pub split : text ≡ sure ++ more ++ rest

-- the trace was taken, where one is asked for; without one nothing went there
abbrev pub Traces : Bool → (a b : SinkView) → (text : List ℕ) → Type 0
Traces true a b text = Takes a b text
Traces false a b text = b ≡ a

-- a front of the trace was
abbrev pub TracesFront : Bool → (a b : SinkView) → (sure text : List ℕ) → Type 0
TracesFront true a b sure text = TakesFront a b sure text
TracesFront false a b sure text = b ≡ a

-- A write failed, the output before the trace. Output and trace are `w` and `t`; before the last thing that was read all of
-- `wrote` and `told` was taken.
abbrev pub StopsAtWrite : Bool → (wrote w told t : List ℕ) → (a b : Sinks) → Type 0
StopsAtWrite tracing wrote w told t a b = (Owes a.out b.out wrote w × Traces tracing a.err b.err told)
    ⊎ ((tracing ≡ true) × Takes a.out b.out w × Owes a.err b.err told t)
