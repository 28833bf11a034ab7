-- The bounds of a command's numbers, and its words that are names of their own (this project's).
use Rattle.std.specs.Prelude.{◌≡◌, ◌≤◌, true, length, ⊤}
use Rattle.gcx_words.specs.declared.command.Command.{Command}
use Rattle.gcx_words.specs.declared.command.Command.TheVariants.{Run, Gen, Selfrun, Many}
use Rattle.gcx_words.specs.Pairs.{are_apart}

abbrev pub IsWithin : Command → Type 0
IsWithin (Run trace ahead query document) = (1 ≤ ahead) × (ahead ≤ 1000) × (trace ≡ true → ahead ≡ 1)
IsWithin (Gen seed count) = (seed ≤ 4294967295) × (1 ≤ count) × (count ≤ 100000)
IsWithin (Selfrun seed count) = (seed ≤ 4294967295) × (1 ≤ count) × (count ≤ 100000)
IsWithin (Many document pairs) = (length pairs ≤ 16) × (are_apart document pairs ≡ true)
IsWithin command = ⊤
