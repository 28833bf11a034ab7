-- What the writing of a text that is there ends with.
use Rattle.std.specs.Prelude.{◌≡◌, ℕ, List, []}
use Rattle.gcx_io.specs.Views.{SinkView}
use Rattle.gcx_io.specs.Writing.{Takes, Owes}
use Rattle.gcx_cmd.specs.declared.status.Status.{Status}
use Rattle.gcx_cmd.specs.declared.status.Status.TheVariants as status

abbrev pub WritesText : Status → (a b : SinkView) → (text : List ℕ) → Type 0
WritesText status.Ok a b text = Takes a b text
WritesText status.Usage a b text = ⊥
WritesText (status.QueryRefused f) a b text = ⊥
WritesText (status.DocumentRefused f) a b text = ⊥
WritesText status.ReadFault a b text = ⊥
WritesText status.WriteFault a b text = Owes a b [] text
WritesText status.Memory a b text = ⊥
WritesText (status.TraceRefused n) a b text = ⊥

-- What the writing of a text ends with for which memory may be wanting.
abbrev pub PrintsText : Status → (a b : SinkView) → (text : List ℕ) → Type 0
PrintsText status.Ok a b text = Takes a b text
PrintsText status.Usage a b text = ⊥
PrintsText (status.QueryRefused f) a b text = ⊥
PrintsText (status.DocumentRefused f) a b text = ⊥
PrintsText status.ReadFault a b text = ⊥
PrintsText status.WriteFault a b text = Owes a b [] text
PrintsText status.Memory a b text = b ≡ a
PrintsText (status.TraceRefused n) a b text = ⊥
