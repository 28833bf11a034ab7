-- How `explain` ends, and what each end says (this project's).
use Rattle.std.specs.Prelude.{◌≡◌, ℕ, List, [], None}
use Rattle.gcx_io.specs.Views.{SinkView}
use Rattle.gcx_io.specs.Writing.{Takes, Owes}
use Rattle.gcx_model.specs.Query.{ExprTree}
use Rattle.gcx_cmd.specs.World.{World}
use Rattle.gcx_cmd.specs.QueryDoes.{AcceptsQuery, RefusesQuery, NotBegun}
use Rattle.gcx_cmd.specs.Reads.{Opens}
use Rattle.gcx_cmd.specs.Texts.{explain_text}
use Rattle.gcx_cmd.specs.declared.status.Status.{Status}
use Rattle.gcx_cmd.specs.declared.status.Status.TheVariants as status

-- QUERY is accepted, and this was written of the text of its plan. Nothing else is written, and the store isn't used.
pub record Explains (q : List ℕ) (Writes : (a b : SinkView) → (text : List ℕ) → Type 0) (a b : World) : Type 0 where
  pub one : Opens 1 a.shelf b.shelf
  pub x : List ExprTree
  pub query : AcceptsQuery q a.shelf b.shelf x
  pub wrote : Writes a.out b.out (explain_text x)
  pub err : b.err ≡ a.err
  pub store : b.store ≡ a.store

abbrev pub ExplainDoes : (q : List ℕ) → Status → World → World → Type 0
ExplainDoes q status.Ok a b = Explains q Takes a b
ExplainDoes q status.Usage a b = ⊥
ExplainDoes q (status.QueryRefused f) a b = RefusesQuery q f a b
ExplainDoes q (status.DocumentRefused f) a b = ⊥
ExplainDoes q status.ReadFault a b = NotBegun q None status.ReadFault a b
ExplainDoes q status.WriteFault a b = Explains q (λ c d text. Owes c d [] text) a b
ExplainDoes q status.Memory a b = NotBegun q None status.Memory a b
ExplainDoes q (status.TraceRefused n) a b = ⊥
