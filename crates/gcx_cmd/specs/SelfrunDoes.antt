-- How `selfrun` ends, and what each end says (this project's).
use Rattle.std.specs.Prelude.{◌≡◌, ℕ, List, []}
use Rattle.gcx_io.specs.Writing.{Takes, Owes}
use Rattle.gcx_model.specs.Answer.{answer}
use Rattle.gcx_cmd.specs.World.{World, WritesAlone}
use Rattle.gcx_cmd.specs.SelfInput.{SelfInput}
use Rattle.gcx_cmd.specs.Texts.{selfrun_text}
use Rattle.gcx_cmd.specs.declared.status.Status.{Status}
use Rattle.gcx_cmd.specs.declared.status.Status.TheVariants as status

-- the line of the numbers of that query over that document
abbrev pub selfrun_line : {seed count : ℕ} → SelfInput seed count → List ℕ
selfrun_line i = selfrun_text i.query i.tokens (answer i.query i.nodes)

abbrev pub SelfrunDoes : (seed count : ℕ) → Status → World → World → Type 0
SelfrunDoes seed count status.Ok a b = WritesAlone a b × (i : SelfInput seed count) × Takes a.out b.out (selfrun_line i)
SelfrunDoes seed count status.Usage a b = ⊥
SelfrunDoes seed count (status.QueryRefused f) a b = ⊥
SelfrunDoes seed count (status.DocumentRefused f) a b = ⊥
SelfrunDoes seed count status.ReadFault a b = ⊥
SelfrunDoes seed count status.WriteFault a b = WritesAlone a b × (i : SelfInput seed count) × Owes a.out b.out [] (selfrun_line i)
SelfrunDoes seed count status.Memory a b = b ≡ a
SelfrunDoes seed count (status.TraceRefused n) a b = ⊥
