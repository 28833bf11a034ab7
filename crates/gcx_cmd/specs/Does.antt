-- What a command line does (this project's).
use Rattle.std.specs.Prelude.{◌≡◌, ◌⊎◌, ℕ, List, []}
use Rattle.std.specs.declared.option.Option.{Option}
use Rattle.std.specs.declared.option.Option.TheVariants.{Some, None}
use Rattle.gcx_io.specs.Views.{ShelfView, SinkView}
use Rattle.gcx_io.specs.Writing.{Takes, Owes}
use Rattle.gcx_words.specs.Words.{command_of}
use Rattle.gcx_words.specs.declared.command.Command.{Command}
use Rattle.gcx_words.specs.declared.command.Command.TheVariants.{Run, Whole, Explain, Peak, Gen, Selfrun, Many, Check}
use Rattle.gcx_cmd.specs.CheckDoes.{CheckDoes}
use Rattle.gcx_cmd.specs.Diagnosis.{line_of}
use Rattle.gcx_cmd.specs.ExplainDoes.{ExplainDoes}
use Rattle.gcx_cmd.specs.GenDoes.{GenDoes}
use Rattle.gcx_cmd.specs.Keeps.{Keeps}
use Rattle.gcx_cmd.specs.ManyDoes.{ManyDoes}
use Rattle.gcx_cmd.specs.World.{World, StoreView, beside}
use Rattle.gcx_cmd.specs.PeakDoes.{PeakDoes}
use Rattle.gcx_cmd.specs.RunDoes.{RunDoes}
use Rattle.gcx_cmd.specs.SelfrunDoes.{SelfrunDoes}
use Rattle.gcx_cmd.specs.WholeDoes.{WholeDoes}
use Rattle.gcx_cmd.specs.declared.status.Status.{Status}
use Rattle.gcx_cmd.specs.declared.status.Status.TheVariants as status

-- the table of the commands
abbrev pub Obeys : Command → Status → World → World → Type 0
Obeys (Run trace ahead query document) s a b = RunDoes trace ahead query document s a b
Obeys (Whole query document) s a b = WholeDoes query document s a b
Obeys (Explain query) s a b = ExplainDoes query s a b
Obeys (Peak query document) s a b = PeakDoes query document s a b
Obeys (Gen seed count) s a b = GenDoes seed count s a b
Obeys (Selfrun seed count) s a b = SelfrunDoes seed count s a b
Obeys (Many document pairs) s a b = ManyDoes document pairs s a b
Obeys (Check query document trace) s a b = CheckDoes query document trace s a b

-- the command was obeyed; where there is none, nothing happened
abbrev pub DoesIf : Option Command → Status → World → World → Type 0
DoesIf None s a b = ((s ≡ status.Usage) ⊎ (s ≡ status.Memory)) × (b ≡ a)
DoesIf (Some c) s a b = Keeps c s a b × Obeys c s a b

-- this command was obeyed
abbrev pub DoesCommand : Command → Status → World → World → Type 0
DoesCommand c s a b = DoesIf (Some c) s a b

-- a command was obeyed that lends files and the output alone, whatever else is outside
abbrev pub DoesBeside : Command → Status → (shelf shelf_now : ShelfView) → (out out_now : SinkView) → Type 0
DoesBeside c s f g o p = (err : SinkView) (store : StoreView) → DoesIf (Some c) s (beside f o err store) (beside g p err store)

-- and one that lends the output alone
abbrev pub DoesOutput : Command → Status → (out out_now : SinkView) → Type 0
DoesOutput c s o p = (files : ShelfView) (err : SinkView) (store : StoreView) → DoesIf (Some c) s (beside files o err store) (beside files p err store)

-- The line of a status was taken, or a prefix of it, and then a write of what comes next of it failed. At Ok there is none, and no
-- call.
abbrev pub Tells : Status → (a b : SinkView) → Type 0
Tells status.Ok a b = b ≡ a
Tells status.Usage a b = Takes a b (line_of status.Usage) ⊎ Owes a b [] (line_of status.Usage)
Tells (status.QueryRefused f) a b = Takes a b (line_of (status.QueryRefused f)) ⊎ Owes a b [] (line_of (status.QueryRefused f))
Tells (status.DocumentRefused f) a b = Takes a b (line_of (status.DocumentRefused f)) ⊎ Owes a b [] (line_of (status.DocumentRefused f))
Tells status.ReadFault a b = Takes a b (line_of status.ReadFault) ⊎ Owes a b [] (line_of status.ReadFault)
Tells status.WriteFault a b = Takes a b (line_of status.WriteFault) ⊎ Owes a b [] (line_of status.WriteFault)
Tells status.Memory a b = Takes a b (line_of status.Memory) ⊎ Owes a b [] (line_of status.Memory)
Tells (status.TraceRefused n) a b = Takes a b (line_of (status.TraceRefused n)) ⊎ Owes a b [] (line_of (status.TraceRefused n))

-- The line of the status went to the diagnoses, and nothing else happened.
pub record Diagnoses (s : Status) (a b : World) : Type 0 where
  pub shelf : b.shelf ≡ a.shelf
  pub out : b.out ≡ a.out
  pub store : b.store ≡ a.store
  pub line : Tells s a.err b.err

-- The command that the words are was obeyed, and then the line of the status was written.
pub record Does (words : List (List ℕ)) (s : Status) (a b : World) : Type 0 where
  pub between : World
  pub done : DoesIf (command_of words) s a between
  pub diagnosed : Diagnoses s between b
