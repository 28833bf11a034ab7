-- How `peak` ends, and what each end says (this project's).
use Rattle.std.specs.Prelude.{◌≡◌, ◌⊎◌, ℕ, List, [], Some}
use Rattle.std.specs.FinMap as map
use Rattle.gcx_io.specs.Views.{SinkView}
use Rattle.gcx_io.specs.Writing.{Takes, Owes}
use Rattle.gcx_model.specs.Query.{ExprTree}
use Rattle.gcx_model.specs.Tree.{TreeToken}
use Rattle.run_words.specs.Stops.{Stop, IsCalm}
use Rattle.gcx_cmd.specs.DocumentDoes.{Over, HasFault, IsCut, SeesTokens}
use Rattle.gcx_cmd.specs.World.{World}
use Rattle.gcx_cmd.specs.QueryDoes.{RefusesQuery, NotBegun}
use Rattle.gcx_cmd.specs.RunDoes.{HoldsSeen}
use Rattle.gcx_cmd.specs.Running.{UnlessOutOfMemory}
use Rattle.gcx_cmd.specs.Texts.{peak_text}
use Rattle.gcx_cmd.specs.declared.status.Status.{Status}
use Rattle.gcx_cmd.specs.declared.status.Status.TheVariants as status

-- what a status says of DOC, of which these pieces were read, and of the line of the numbers
abbrev pub EndsPeak : List ExprTree → Status → List (List ℕ) → Stop → (a b : SinkView) → Type 0
EndsPeak x status.Ok ps stop a b = (ts : List TreeToken) × SeesTokens ps stop ts × Takes a b (peak_text x ts)
EndsPeak x status.Usage ps stop a b = ⊥
EndsPeak x (status.QueryRefused f) ps stop a b = ⊥
EndsPeak x (status.DocumentRefused f) ps stop a b = HasFault f ps stop × (b ≡ a)
EndsPeak x status.ReadFault ps stop a b = IsCut ps stop × (b ≡ a)
EndsPeak x status.WriteFault ps stop a b = (ts : List TreeToken) × SeesTokens ps stop ts × Owes a b [] (peak_text x ts)
EndsPeak x status.Memory ps stop a b = IsCalm stop × (b ≡ a)
EndsPeak x (status.TraceRefused n) ps stop a b = ⊥

-- The numbers of a run of QUERY's one query x over what DOC gave, a token at a time. No answer is written, and no trace.
pub record Measured (q d : List ℕ) (s : Status) (a b : World) : Type 0 where
  pub x : List ExprTree
  pub pieces : List (List ℕ)
  pub stop : Stop
  pub over : Over q d a b x pieces stop
  pub ends : EndsPeak x s pieces stop a.out b.out
  pub err : b.err ≡ a.err
  pub holds : UnlessOutOfMemory s (HoldsSeen x 1 pieces stop b.store)

abbrev pub PeakDoes : (q d : List ℕ) → Status → World → World → Type 0
PeakDoes q d status.Ok a b = Measured q d status.Ok a b × (b.store.rows ≡ map.empty)
PeakDoes q d status.Usage a b = ⊥
PeakDoes q d (status.QueryRefused f) a b = RefusesQuery q f a b
PeakDoes q d (status.DocumentRefused f) a b = Measured q d (status.DocumentRefused f) a b
PeakDoes q d status.ReadFault a b = NotBegun q (Some d) status.ReadFault a b ⊎ Measured q d status.ReadFault a b
PeakDoes q d status.WriteFault a b = Measured q d status.WriteFault a b
PeakDoes q d status.Memory a b = NotBegun q (Some d) status.Memory a b ⊎ Measured q d status.Memory a b
PeakDoes q d (status.TraceRefused n) a b = ⊥
