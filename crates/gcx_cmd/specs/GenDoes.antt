-- How `gen` ends, and what each end says (this project's).
use Rattle.std.specs.Prelude.{ℕ, []}
use Rattle.gcx_gen.specs.Generated.{document}
use Rattle.gcx_io.specs.Writing.{Takes, Owes}
use Rattle.run_words.specs.Writing.{TakesFront}
use Rattle.gcx_cmd.specs.World.{World, WritesAlone}
use Rattle.gcx_cmd.specs.declared.status.Status.{Status}
use Rattle.gcx_cmd.specs.declared.status.Status.TheVariants as status

-- the document of the two numbers; a front of it where a write failed or memory ran out
abbrev pub GenDoes : (seed count : ℕ) → Status → World → World → Type 0
GenDoes seed count status.Ok a b = WritesAlone a b × Takes a.out b.out (document seed count)
GenDoes seed count status.Usage a b = ⊥
GenDoes seed count (status.QueryRefused f) a b = ⊥
GenDoes seed count (status.DocumentRefused f) a b = ⊥
GenDoes seed count status.ReadFault a b = ⊥
GenDoes seed count status.WriteFault a b = WritesAlone a b × Owes a.out b.out [] (document seed count)
GenDoes seed count status.Memory a b = WritesAlone a b × TakesFront a.out b.out [] (document seed count)
GenDoes seed count (status.TraceRefused n) a b = ⊥
