-- How `run` ends, and what each end says (this project's).
use Rattle.std.specs.Prelude.{◌≡◌, ◌⊎◌, ℕ, Bool, List, Some}
use Rattle.std.specs.FinMap as map
use Rattle.gcx_base.specs.Limits.{full_limits}
use Rattle.gcx_io.specs.Views.{SinkView}
use Rattle.gcx_io.specs.Writing.{Takes, joined}
use Rattle.gcx_model.specs.Answer.{answer}
use Rattle.gcx_model.specs.Document.{Nodes}
use Rattle.gcx_model.specs.Query.{ExprTree}
use Rattle.gcx_model.specs.Seen.{SeenIs}
use Rattle.gcx_model.specs.Tree.{TreeToken}
use Rattle.run_words.specs.Ends.{EndsRun, Completed, Refused, ReadFailed, WriteFailed, NoMemory}
use Rattle.run_words.specs.Stops.{Stop, is_end}
use Rattle.run_words.specs.Writing.{Sinks}
use Rattle.gcx_cmd.specs.DocumentDoes.{Over, SpellsOneDocument}
use Rattle.gcx_cmd.specs.World.{World, StoreView, sinks_of}
use Rattle.gcx_cmd.specs.QueryDoes.{RefusesQuery, NotBegun}
use Rattle.gcx_cmd.specs.Running.{Settles, Holds, UnlessOutOfMemory}
use Rattle.gcx_cmd.specs.Tracing.{IsQueryTrace}
use Rattle.gcx_cmd.specs.declared.status.Status.{Status}
use Rattle.gcx_cmd.specs.declared.status.Status.TheVariants as status

-- what a status says of a run over DOC of which these pieces were read
abbrev pub EndsBy : List ExprTree → Bool → Status → List (List ℕ) → Stop → (a b : Sinks) → Type 0
EndsBy x tracing status.Ok ps stop a b = EndsRun (Settles x) (IsQueryTrace x) full_limits tracing Completed ps stop a b
EndsBy x tracing status.Usage ps stop a b = ⊥
EndsBy x tracing (status.QueryRefused f) ps stop a b = ⊥
EndsBy x tracing (status.DocumentRefused f) ps stop a b = EndsRun (Settles x) (IsQueryTrace x) full_limits tracing (Refused f) ps stop a b
EndsBy x tracing status.ReadFault ps stop a b = EndsRun (Settles x) (IsQueryTrace x) full_limits tracing ReadFailed ps stop a b
EndsBy x tracing status.WriteFault ps stop a b = EndsRun (Settles x) (IsQueryTrace x) full_limits tracing WriteFailed ps stop a b
EndsBy x tracing status.Memory ps stop a b = EndsRun (Settles x) (IsQueryTrace x) full_limits tracing NoMemory ps stop a b
EndsBy x tracing (status.TraceRefused n) ps stop a b = ⊥

-- The lent store has the rows of exactly the nodes that are held behind the tags read.
pub record HoldsSeen (x : List ExprTree) (ahead : ℕ) (pieces : List (List ℕ)) (stop : Stop) (store : StoreView) : Type 0 where
  pub tokens : List TreeToken
  pub seen : SeenIs full_limits (joined pieces) (is_end stop) tokens
  pub holds : Holds x ahead tokens store.rows store.most

-- A run: of QUERY's one query x over what DOC gave.
pub record Runs (tracing : Bool) (ahead : ℕ) (q d : List ℕ) (s : Status) (a b : World) : Type 0 where
  pub x : List ExprTree
  pub pieces : List (List ℕ)
  pub stop : Stop
  pub over : Over q d a b x pieces stop
  pub ends : EndsBy x tracing s pieces stop (sinks_of a) (sinks_of b)
  pub holds : UnlessOutOfMemory s (HoldsSeen x ahead pieces stop b.store)

-- What was written is the answer of the query over the one document that these pieces spell.
pub record WritesAnswer (x : List ExprTree) (pieces : List (List ℕ)) (a b : SinkView) : Type 0 where
  pub doc : Nodes
  pub spells : SpellsOneDocument (joined pieces) doc
  pub wrote : Takes a b (answer x doc)

abbrev pub RunDoes : Bool → (ahead : ℕ) → (q d : List ℕ) → Status → World → World → Type 0
RunDoes tracing ahead q d status.Ok a b = (r : Runs tracing ahead q d status.Ok a b) × (b.store.rows ≡ map.empty) × WritesAnswer r.x r.pieces a.out b.out
RunDoes tracing ahead q d status.Usage a b = ⊥
RunDoes tracing ahead q d (status.QueryRefused f) a b = RefusesQuery q f a b
RunDoes tracing ahead q d (status.DocumentRefused f) a b = Runs tracing ahead q d (status.DocumentRefused f) a b
RunDoes tracing ahead q d status.ReadFault a b = NotBegun q (Some d) status.ReadFault a b ⊎ Runs tracing ahead q d status.ReadFault a b
RunDoes tracing ahead q d status.WriteFault a b = Runs tracing ahead q d status.WriteFault a b
RunDoes tracing ahead q d status.Memory a b = NotBegun q (Some d) status.Memory a b ⊎ Runs tracing ahead q d status.Memory a b
RunDoes tracing ahead q d (status.TraceRefused n) a b = ⊥
