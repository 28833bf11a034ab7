-- How `many` ends, and what each end says (this project's).
use Rattle.std.specs.Prelude.{◌≡◌, ◌⊎◌, ◌<◌, ◌≤◌, ℕ, List, [], ◌∷◌, ◌++◌, length, slice_get, Some}
use Rattle.std.specs.declared.result.Result.TheVariants as result
use Rattle.gcx_base.specs.Limits.{full_limits}
use Rattle.gcx_io.specs.Calls.{Attaches, Creates}
use Rattle.gcx_io.specs.Shelf.{Maps}
use Rattle.gcx_io.specs.Views.{ShelfView, SinkView}
use Rattle.gcx_io.specs.Writing.{Takes, joined}
use Rattle.gcx_io.specs.declared.fault.AttachFault.{AttachFault}
use Rattle.gcx_io.specs.declared.fault.AttachFault.TheVariants as fault
use Rattle.gcx_io.specs.declared.shelf.Handle.{Handle}
use Rattle.gcx_model.specs.Answer.{answer}
use Rattle.gcx_model.specs.Document.{Nodes}
use Rattle.gcx_model.specs.Members.{In}
use Rattle.gcx_model.specs.PlanView.{plan_tree}
use Rattle.gcx_model.specs.Query.{ExprTree}
use Rattle.gcx_model.specs.declared.plan.Plan.{Plan}
use Rattle.gcx_words.specs.declared.pairs.Pair.{Pair}
use Rattle.run_words.specs.Ends.{NoMemory, ReadFailed, Refused, RunEnd, Completed, WriteFailed}
use Rattle.run_words.specs.Stops.{Stop}
use Rattle.engine.specs.Runs.{run_end}
use Rattle.engine.specs.declared.report.Ended.{Ended}
use Rattle.many_run.specs.Each.{AtEach}
use Rattle.many_run.specs.Files.{name_of_handle, sink_at}
use Rattle.many_run.specs.Runs.{EachPlanEnds, EndsOne, RunsInto}
use Rattle.gcx_cmd.specs.DocumentDoes.{SpellsOneDocument}
use Rattle.gcx_cmd.specs.Keeps.{KeepsFiles}
use Rattle.gcx_cmd.specs.World.{World, Untouched}
use Rattle.gcx_cmd.specs.QueryDoes.{AcceptsQuery, StopsInQuery}
use Rattle.gcx_cmd.specs.Reads.{CausesFault, KeepsShelf, Opens}
use Rattle.gcx_cmd.specs.Running.{IsPlanOf, Settles}
use Rattle.gcx_cmd.specs.Status.{ended_status}
use Rattle.gcx_cmd.specs.Tracing.{IsQueryTrace}
use Rattle.gcx_cmd.specs.declared.status.Status.{Status}
use Rattle.gcx_cmd.specs.declared.status.Status.TheVariants as status

-- ---- before a run: one file after the other

-- The QUERYs of these pairs were opened and read in order, each behind the one before it, and each is this query and no other.
abbrev pub AcceptsQueries : List Pair → (a b : ShelfView) → List (List ExprTree) → Type 0
AcceptsQueries [] a b [] = b ≡ a
AcceptsQueries [] a b (x ∷ xs) = ⊥
AcceptsQueries (p ∷ ps) a b [] = ⊥
AcceptsQueries (p ∷ ps) a b (x ∷ xs) =
    (m : ShelfView) × Opens 1 a m × AcceptsQuery p.query a m x × KeepsShelf a m × AcceptsQueries ps m b xs

-- OUT was made with this handle, behind those that were given. If the shelf tells what names hold, OUT holds no bytes, and every other
-- name what it held.
abbrev pub MakesOut : List ℕ → (a b : ShelfView) → Handle → Type 0
MakesOut name a b out = Creates name a b (result.Ok out) × Maps a.names b.names name []

-- The OUTs of these pairs were made in order, with these handles.
abbrev pub MakesOuts : List Pair → (a b : ShelfView) → List Handle → Type 0
MakesOuts [] a b [] = b ≡ a
MakesOuts [] a b (o ∷ os) = ⊥
MakesOuts (p ∷ ps) a b [] = ⊥
MakesOuts (p ∷ ps) a b (o ∷ os) = (m : ShelfView) × MakesOut p.out a m o × MakesOuts ps m b os

-- The QUERYs before this one are accepted. This one isn't, for the reason of the status, and none behind it was opened.
pub record StopsAtQuery (ps : List Pair) (s : Status) (a b : ShelfView) : Type 0 where
  pub before : List Pair
  pub pair : Pair
  pub behind : List Pair
  pub split : ps ≡ before ++ pair ∷ behind
  pub xs : List (List ExprTree)
  pub m : ShelfView
  pub accepted : AcceptsQueries before a m xs
  pub stops : StopsInQuery pair.query s m b
  pub keeps : KeepsShelf m b

-- All QUERYs are accepted, and the OUTs of these first pairs were made.
pub record HasMade (ps made : List Pair) (a b : ShelfView) : Type 0 where
  pub xs : List (List ExprTree)
  pub m : ShelfView
  pub outs : List Handle
  pub accepted : AcceptsQueries ps a m xs
  pub makes : MakesOuts made m b outs

-- All QUERYs are accepted, the OUTs before this one were made, and making this one failed.
pub record StopsAtOut (ps : List Pair) (why : AttachFault) (a b : ShelfView) : Type 0 where
  pub before : List Pair
  pub pair : Pair
  pub behind : List Pair
  pub split : ps ≡ before ++ pair ∷ behind
  pub m : ShelfView
  pub made : HasMade ps before a m
  pub fails : Creates pair.out m b (result.Err why)

-- All OUTs were made, and opening DOC failed.
pub record MissesDoc (d : List ℕ) (ps : List Pair) (why : AttachFault) (a b : ShelfView) : Type 0 where
  pub m : ShelfView
  pub made : HasMade ps ps a m
  pub fails : Attaches d m b (result.Err why)

-- Memory ran out behind some of the queries, or behind some of the OUTs.
abbrev pub StopsBetween : List Pair → (a b : ShelfView) → Type 0
StopsBetween ps a b = (before : List Pair) × (behind : List Pair) × (ps ≡ before ++ behind)
    × (((xs : List (List ExprTree)) × AcceptsQueries before a b xs) ⊎ HasMade ps before a b)

-- No run began, and nothing was written. `d` is DOC.
abbrev pub NoneBegun : (d : List ℕ) → List Pair → Status → (a b : ShelfView) → Type 0
NoneBegun d ps status.Ok a b = ⊥
NoneBegun d ps status.Usage a b = ⊥
NoneBegun d ps (status.QueryRefused f) a b = StopsAtQuery ps (status.QueryRefused f) a b
NoneBegun d ps (status.DocumentRefused f) a b = ⊥
NoneBegun d ps status.ReadFault a b = StopsAtQuery ps status.ReadFault a b ⊎ MissesDoc d ps fault.Failed a b
NoneBegun d ps status.WriteFault a b = StopsAtOut ps fault.Failed a b
NoneBegun d ps status.Memory a b =
    StopsAtQuery ps status.Memory a b ⊎ (StopsBetween ps a b ⊎ (StopsAtOut ps fault.Memory a b ⊎ MissesDoc d ps fault.Memory a b))
NoneBegun d ps (status.TraceRefused n) a b = ⊥

-- ---- a run

-- what the end of a run says of the OUT of each query: as of `run` of this query by itself
abbrev pub EachQueryEnds : List (List ExprTree) → RunEnd → List (List ℕ) → Stop → (at i : ℕ) → (a b : SinkView) → Type 0
EachQueryEnds xs end pieces stop at i a b = (x : List ExprTree) → slice_get xs i ≡ Some x
    → EndsOne (Settles x) (IsQueryTrace x) full_limits end pieces stop at i a b

-- All QUERYs were read, then all OUTs made, then DOC was opened and read, once, and each OUT took what this end says of its query.
pub record RunsMany (d : List ℕ) (ps : List Pair) (end : RunEnd) (a b : ShelfView) : Type 0 where
  pub xs : List (List ExprTree)
  pub outs : List Handle
  pub doc : Handle
  pub accepted : ShelfView
  pub made : ShelfView
  pub begun : ShelfView
  pub accepts : AcceptsQueries ps a accepted xs
  pub makes : MakesOuts ps accepted made outs
  pub opens : Attaches d made begun (result.Ok doc)
  pub run : RunsInto (EachQueryEnds xs end) full_limits end doc outs begun b

-- Each OUT took the answer of its query over the one document that these pieces spell.
pub record TakeAnswers (xs : List (List ExprTree)) (outs : List Handle) (pieces : List (List ℕ)) (a b : ShelfView) : Type 0 where
  pub doc : Nodes
  pub spells : SpellsOneDocument (joined pieces) doc
  pub each : (i : ℕ) (o : Handle) (x : List ExprTree) → slice_get outs i ≡ Some o → slice_get xs i ≡ Some x
      → Takes (sink_at o.0 a) (sink_at o.0 b) (answer x doc)

-- how it ends with each status, of the files alone
abbrev pub ManyEnds : (d : List ℕ) → List Pair → Status → (a b : ShelfView) → Type 0
ManyEnds d ps status.Ok a b = (r : RunsMany d ps Completed a b) × TakeAnswers r.xs r.outs r.run.pieces r.begun b
ManyEnds d ps status.Usage a b = ⊥
ManyEnds d ps (status.QueryRefused f) a b = NoneBegun d ps (status.QueryRefused f) a b
ManyEnds d ps (status.DocumentRefused f) a b = RunsMany d ps (Refused f) a b
ManyEnds d ps status.ReadFault a b = NoneBegun d ps status.ReadFault a b ⊎ RunsMany d ps ReadFailed a b
ManyEnds d ps status.WriteFault a b = NoneBegun d ps status.WriteFault a b ⊎ RunsMany d ps WriteFailed a b
ManyEnds d ps status.Memory a b = NoneBegun d ps status.Memory a b ⊎ RunsMany d ps NoMemory a b
ManyEnds d ps (status.TraceRefused n) a b = ⊥

-- Nothing goes to the output, and nothing to the diagnoses before the line of the status; the lent store isn't used.
abbrev pub ManyDoes : (d : List ℕ) → List Pair → Status → World → World → Type 0
ManyDoes d ps s a b = Untouched a b × ManyEnds d ps s a.shelf b.shelf

-- The rest is said of private functions.

-- The files but the OUTs stay, and no count falls.
pub record ManyKeeps (outs : List (List ℕ)) (a b : ShelfView) : Type 0 where
  pub files : KeepsFiles outs a b
  pub names_of : (k : ℕ) → k < length a.given → name_of_handle b.given k ≡ name_of_handle a.given k
  pub more : length a.given ≤ length b.given
  pub faults : a.faults ≤ b.faults
  pub write_faults : a.write_faults ≤ b.write_faults

-- The QUERYs are accepted, and these are their plans.
pub record AcceptsPlans (ps : List Pair) (a b : ShelfView) (plans : List Plan) : Type 0 where
  pub xs : List (List ExprTree)
  pub accepts : AcceptsQueries ps a b xs
  pub plans_are : AtEach (λ x plan. IsPlanOf x (plan_tree plan)) xs plans

-- the status of QUERYs that aren't all accepted
abbrev pub StopsInQueries : List Pair → Status → (a b : ShelfView) → Type 0
StopsInQueries ps status.Ok a b = ⊥
StopsInQueries ps status.Usage a b = ⊥
StopsInQueries ps (status.QueryRefused f) a b = StopsAtQuery ps (status.QueryRefused f) a b
StopsInQueries ps (status.DocumentRefused f) a b = ⊥
StopsInQueries ps status.ReadFault a b = StopsAtQuery ps status.ReadFault a b
StopsInQueries ps status.WriteFault a b = ⊥
StopsInQueries ps status.Memory a b = StopsAtQuery ps status.Memory a b ⊎ StopsBetween ps a b
StopsInQueries ps (status.TraceRefused n) a b = ⊥

-- the OUTs of these first pairs were made
abbrev pub MakesFirst : List Pair → (a b : ShelfView) → Type 0
MakesFirst ps a b = (before : List Pair) × (behind : List Pair) × (outs : List Handle) × (ps ≡ before ++ behind) × MakesOuts before a b outs

-- Making one of them failed.
pub record FailsAtOut (ps : List Pair) (why : AttachFault) (a b : ShelfView) : Type 0 where
  pub before : List Pair
  pub pair : Pair
  pub behind : List Pair
  pub split : ps ≡ before ++ pair ∷ behind
  pub outs : List Handle
  pub m : ShelfView
  pub makes : MakesOuts before a m outs
  pub fails : Creates pair.out m b (result.Err why)

-- the status of OUTs that aren't all made
abbrev pub StopsInOuts : List Pair → Status → (a b : ShelfView) → Type 0
StopsInOuts ps status.Ok a b = ⊥
StopsInOuts ps status.Usage a b = ⊥
StopsInOuts ps (status.QueryRefused f) a b = ⊥
StopsInOuts ps (status.DocumentRefused f) a b = ⊥
StopsInOuts ps status.ReadFault a b = ⊥
StopsInOuts ps status.WriteFault a b = FailsAtOut ps fault.Failed a b
StopsInOuts ps status.Memory a b = FailsAtOut ps fault.Memory a b ⊎ MakesFirst ps a b
StopsInOuts ps (status.TraceRefused n) a b = ⊥

-- why one of them isn't made
abbrev pub create_status : AttachFault → Status
create_status fault.Failed = status.WriteFault
create_status fault.Memory = status.Memory

-- A read fault has a cause: the count of faults rose, or a file of these names isn't there.
abbrev pub CausesAny : List (List ℕ) → (a b : ShelfView) → Type 0
CausesAny names a b = (name : List ℕ) × In name names × CausesFault name a b

-- a run of these plans into these files, or there was no memory to begin
abbrev pub RunsPlans : List Plan → Status → Handle → List Handle → (a b : ShelfView) → Type 0
RunsPlans plans s doc outs a b = (by : Ended) × (s ≡ ended_status by) × RunsInto (EachPlanEnds plans full_limits (run_end by)) full_limits (run_end by) doc outs a b
