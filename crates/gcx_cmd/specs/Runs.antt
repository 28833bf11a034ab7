-- What is said of the private functions that run a plan over DOC.
use Rattle.std.specs.Prelude.{◌≡◌, ℕ, Bool, true, List, length}
use Rattle.std.specs.declared.result.Result.{Result}
use Rattle.std.specs.declared.result.Result.TheVariants as result
use Rattle.gcx_base.specs.Limits.{full_limits}
use Rattle.gcx_io.specs.Views.{ShelfView, SinkView, SourceView}
use Rattle.gcx_io.specs.Writing.{joined}
use Rattle.gcx_model.specs.Answer.{answer}
use Rattle.gcx_model.specs.Demand.{peak_of}
use Rattle.gcx_model.specs.Held.{sum_given, sum_taken}
use Rattle.gcx_model.specs.Normal.{normal}
use Rattle.gcx_model.specs.Placed.{plan_of}
use Rattle.gcx_model.specs.PlanView.{plan_tree}
use Rattle.gcx_model.specs.Points.{actions}
use Rattle.gcx_model.specs.Query.{ExprTree}
use Rattle.gcx_model.specs.Seen.{SeenIs, seen_tree}
use Rattle.gcx_model.specs.Tree.{TreeToken}
use Rattle.gcx_model.specs.declared.plan.Plan.{Plan}
use Rattle.node_store.specs.Rows.{Rows}
use Rattle.buf_tree.specs.Row.{Row}
use Rattle.run_words.specs.Reading.{SourceGave, ReadsOn}
use Rattle.run_words.specs.Stops.{Stop, IsCalm}
use Rattle.engine.specs.declared.report.Ended.TheVariants as end
use Rattle.engine.specs.declared.report.Report.{Report}
use Rattle.gcx_cmd.specs.DocumentDoes.{DocDoes, HasFault, IsClean, IsCut, OverDoc}
use Rattle.gcx_cmd.specs.World.{World, StoreView, Untouched, both_sinks, sinks_of}
use Rattle.gcx_cmd.specs.RunDoes.{EndsBy, HoldsSeen}
use Rattle.gcx_cmd.specs.Running.{IsPlanOf, UnlessOutOfMemory}
use Rattle.gcx_cmd.specs.SelfInput.{SelfInput}
use Rattle.gcx_cmd.specs.Status.{ended_status}
use Rattle.gcx_cmd.specs.declared.status.Status.{Status}
use Rattle.gcx_cmd.specs.declared.status.Status.TheVariants as status

-- The report has the numbers of these tokens, with every action taken.
pub record NumbersOf (q : List ExprTree) (ts : List TreeToken) (report : Report) : Type 0 where
  pub peak : report.peak ≡ peak_of (plan_of (normal q)) ts
  pub nodes : report.nodes ≡ length (seen_tree ts).nodes
  pub given : report.given ≡ sum_given (plan_of (normal q)) (seen_tree ts)
  pub taken : report.taken ≡ sum_taken (plan_of (normal q)) (seen_tree ts) (actions (plan_of (normal q)) (seen_tree ts))

-- It has those of the whole document in these pieces.
pub record NumbersIn (q : List ExprTree) (pieces : List (List ℕ)) (report : Report) : Type 0 where
  pub tokens : List TreeToken
  pub seen : SeenIs full_limits (joined pieces) true tokens
  pub numbers : NumbersOf q tokens report

-- a store with these rows
abbrev pub stored : Rows Row → ℕ → StoreView
stored rows most = record { rows = rows; most = most }

-- A run of the query over what a source gave.
pub record SourceRuns (tracing : Bool) (ahead : ℕ) (q : List ExprTree) (report : Report) (left now : SourceView) (out_before out_after err_before err_after : SinkView) (store : StoreView) : Type 0 where
  pub pieces : List (List ℕ)
  pub stop : Stop
  pub gave : SourceGave left now pieces stop
  pub reads_on : ReadsOn full_limits pieces stop
  pub ends : EndsBy q tracing (ended_status report.ended) pieces stop (both_sinks out_before err_before) (both_sinks out_after err_after)
  pub holds : UnlessOutOfMemory (ended_status report.ended) (HoldsSeen q ahead pieces stop store)
  pub numbers : ahead ≡ 1 → report.ended ≡ end.Ok → NumbersIn q pieces report

-- a run over DOC, which is opened next
abbrev pub DocumentRuns : Bool → (ahead : ℕ) → List ExprTree → (d : List ℕ) → Status → World → World → Type 0
DocumentRuns tracing ahead q d s a b =
    DocDoes d (λ s pieces stop. EndsBy q tracing s pieces stop (sinks_of a) (sinks_of b) × UnlessOutOfMemory s (HoldsSeen q ahead pieces stop b.store))
    (Untouched a b) s a.shelf b.shelf

-- what a status says of DOC where there is no report
abbrev pub StopsMeasure : List ExprTree → Status → List (List ℕ) → Stop → StoreView → Type 0
StopsMeasure q status.Ok pieces stop store = ⊥
StopsMeasure q status.Usage pieces stop store = ⊥
StopsMeasure q (status.QueryRefused f) pieces stop store = ⊥
StopsMeasure q (status.DocumentRefused f) pieces stop store = HasFault f pieces stop × HoldsSeen q 1 pieces stop store
StopsMeasure q status.ReadFault pieces stop store = IsCut pieces stop × HoldsSeen q 1 pieces stop store
StopsMeasure q status.WriteFault pieces stop store = ⊥
StopsMeasure q status.Memory pieces stop store = IsCalm stop
StopsMeasure q (status.TraceRefused n) pieces stop store = ⊥

-- A run over DOC whose answer isn't written: its report, or the status to end with.
abbrev pub DocumentMeasures : List ExprTree → (d : List ℕ) → Result Report Status → (a b : ShelfView) → (before after : StoreView) → Type 0
DocumentMeasures q d (result.Ok report) a b before after =
    OverDoc d (λ pieces stop. IsClean pieces stop × NumbersIn q pieces report × HoldsSeen q 1 pieces stop after) a b
DocumentMeasures q d (result.Err s) a b before after = DocDoes d (λ t pieces stop. StopsMeasure q t pieces stop after) (after ≡ before) s a b

-- the status of a run that answers its report at Ok
abbrev pub status_in : {T : Type 0} → Result T Status → Status
status_in (result.Ok x) = status.Ok
status_in (result.Err s) = s

-- these are the number of the answer's bytes and the numbers of the run of `selfrun`
abbrev pub SelfRuns : (seed count answer_bytes : ℕ) → Report → Type 0
SelfRuns seed count answer_bytes report =
    (i : SelfInput seed count) × (answer_bytes ≡ length (answer i.query i.nodes)) × NumbersOf i.query i.tokens report

-- a run of a plan over DOC, as of each query whose plan it is
abbrev pub PlanRuns : Bool → (ahead : ℕ) → Plan → (d : List ℕ) → Status → World → World → Type 0
PlanRuns tracing ahead plan d s a b = (q : List ExprTree) → IsPlanOf q (plan_tree plan) → DocumentRuns tracing ahead q d s a b

-- and over what a source gave
abbrev pub PlanRunsOver : {S O E : Type 0} → Bool → (ahead : ℕ) → Plan → Report → (S → SourceView) → (O → SinkView) → (E → SinkView)
    → (source source_now : S) → (out out_now : O) → (err err_now : E) → Rows Row → (most : ℕ) → Type 0
PlanRunsOver tracing ahead plan report given taken told s s1 o o1 e e1 rows most = (q : List ExprTree) → IsPlanOf q (plan_tree plan)
    → SourceRuns tracing ahead q report (given s) (given s1) (taken o) (taken o1) (told e) (told e1) (stored rows most)

-- and one whose answer isn't written
abbrev pub PlanMeasures : Plan → (d : List ℕ) → Result Report Status → (a b : ShelfView) → Rows Row → (most : ℕ) → Rows Row → (most_now : ℕ) → Type 0
PlanMeasures plan d r a b rows most rows1 most1 = (q : List ExprTree) → IsPlanOf q (plan_tree plan)
    → DocumentMeasures q d r a b (stored rows most) (stored rows1 most1)
