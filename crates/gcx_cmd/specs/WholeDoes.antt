-- How `whole` ends, and what each end says (this project's).
use Rattle.std.specs.Prelude.{◌≡◌, ◌⊎◌, ℕ, List, [], Some}
use Rattle.gcx_io.specs.Views.{SinkView}
use Rattle.gcx_io.specs.Writing.{Takes, Owes, joined}
use Rattle.gcx_model.specs.Answer.{answer}
use Rattle.gcx_model.specs.Document.{Nodes}
use Rattle.gcx_model.specs.Query.{ExprTree}
use Rattle.run_words.specs.Stops.{Stop, IsCalm}
use Rattle.gcx_cmd.specs.DocumentDoes.{Over, IsClean, HasFault, IsCut, SpellsOneDocument}
use Rattle.gcx_cmd.specs.World.{World}
use Rattle.gcx_cmd.specs.QueryDoes.{RefusesQuery, NotBegun}
use Rattle.gcx_cmd.specs.declared.status.Status.{Status}
use Rattle.gcx_cmd.specs.declared.status.Status.TheVariants as status

-- the whole document was read, and this is the one that its bytes spell
pub record ReadsWhole (pieces : List (List ℕ)) (stop : Stop) (doc : Nodes) : Type 0 where
  pub clean : IsClean pieces stop
  pub spells : SpellsOneDocument (joined pieces) doc

-- what a status says of DOC, of which these pieces were read, and of the output
abbrev pub EndsWhole : List ExprTree → Status → List (List ℕ) → Stop → (a b : SinkView) → Type 0
EndsWhole x status.Ok ps stop a b = (doc : Nodes) × ReadsWhole ps stop doc × Takes a b (answer x doc)
EndsWhole x status.Usage ps stop a b = ⊥
EndsWhole x (status.QueryRefused f) ps stop a b = ⊥
EndsWhole x (status.DocumentRefused f) ps stop a b = HasFault f ps stop × (b ≡ a)
EndsWhole x status.ReadFault ps stop a b = IsCut ps stop × (b ≡ a)
EndsWhole x status.WriteFault ps stop a b = (doc : Nodes) × ReadsWhole ps stop doc × Owes a b [] (answer x doc)
EndsWhole x status.Memory ps stop a b = IsCalm stop × (b ≡ a)
EndsWhole x (status.TraceRefused n) ps stop a b = ⊥

-- The answer of QUERY's one query x over the tree of what DOC gave. Nothing else is written, and the store isn't used.
pub record Answers (q d : List ℕ) (s : Status) (a b : World) : Type 0 where
  pub x : List ExprTree
  pub pieces : List (List ℕ)
  pub stop : Stop
  pub over : Over q d a b x pieces stop
  pub ends : EndsWhole x s pieces stop a.out b.out
  pub err : b.err ≡ a.err
  pub store : b.store ≡ a.store

abbrev pub WholeDoes : (q d : List ℕ) → Status → World → World → Type 0
WholeDoes q d status.Ok a b = Answers q d status.Ok a b
WholeDoes q d status.Usage a b = ⊥
WholeDoes q d (status.QueryRefused f) a b = RefusesQuery q f a b
WholeDoes q d (status.DocumentRefused f) a b = Answers q d (status.DocumentRefused f) a b
WholeDoes q d status.ReadFault a b = NotBegun q (Some d) status.ReadFault a b ⊎ Answers q d status.ReadFault a b
WholeDoes q d status.WriteFault a b = Answers q d status.WriteFault a b
WholeDoes q d status.Memory a b = NotBegun q (Some d) status.Memory a b ⊎ Answers q d status.Memory a b
WholeDoes q d (status.TraceRefused n) a b = ⊥
