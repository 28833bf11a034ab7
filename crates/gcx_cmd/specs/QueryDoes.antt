-- How the reading of QUERY ends, and that no run begins then (this project's).
use Rattle.std.specs.Prelude.{◌≡◌, ◌⊎◌, ℕ, List, length, Option, Some}
use Rattle.gcx_model.specs.Query.{ExprTree}
use Rattle.gcx_model.specs.declared.fault.QueryFault.{QueryFault}
use Rattle.gcx_model.specs.declared.fault.QueryFault.TheVariants.{TooLarge}
use Rattle.gcx_model.specs.declared.fault.What.TheVariants.{Text}
use Rattle.gcx_io.specs.Views.{ShelfView}
use Rattle.gcx_io.specs.Writing.{joined}
use Rattle.run_words.specs.Stops.{Stop, More, EndAnswered, FaultAnswered}
use Rattle.xq_parse.specs.Faults.{HasOnlyQuery}
use Rattle.gcx_cmd.specs.Main.{Accepts, QueryFaultOf}
use Rattle.gcx_cmd.specs.World.{World, Untouched}
use Rattle.gcx_cmd.specs.Reads.{ReadsQuery, Opens, Misses, Within, PassesIn, Calmly, most_of_query}
use Rattle.gcx_cmd.specs.declared.status.Status.{Status}
use Rattle.gcx_cmd.specs.declared.status.Status.TheVariants as status

-- All of QUERY was read, and it is this query and no other. It stays true of each later state.
pub record AcceptsQuery (q : List ℕ) (a b : ShelfView) (x : List ExprTree) : Type 0 where
  pub pieces : List (List ℕ)
  pub reads : ReadsQuery q (length a.given) a b pieces EndAnswered
  pub within : Within pieces
  pub accepts : Accepts (joined pieces) x
  pub only : HasOnlyQuery (joined pieces) x

-- It was read to its end, and this is its text.
pub record ReadsText (q text : List ℕ) (a b : ShelfView) : Type 0 where
  pub pieces : List (List ℕ)
  pub reads : ReadsQuery q (length a.given) a b pieces EndAnswered
  pub within : Within pieces
  pub whole : joined pieces ≡ text

-- QUERY was read to its end and has this fault, or it was read until there was more of it than a query may have.
pub record RefusesText (q : List ℕ) (f : QueryFault) (a b : ShelfView) : Type 0 where
  pub opens : Opens 1 a b
  pub pieces : List (List ℕ)
  pub why : (ReadsQuery q (length a.given) a b pieces EndAnswered × Within pieces × QueryFaultOf (joined pieces) f)
      ⊎ (ReadsQuery q (length a.given) a b pieces More × PassesIn pieces × (f ≡ TooLarge Text most_of_query))

abbrev pub RefusesQuery : List ℕ → QueryFault → World → World → Type 0
RefusesQuery q f a b = Untouched a b × RefusesText q f a.shelf b.shelf

-- QUERY isn't there, or a read of it failed
abbrev pub FailsInText : List ℕ → ShelfView → ShelfView → Type 0
FailsInText q a b = Misses 0 q a b ⊎ (Opens 1 a b × (pieces : List (List ℕ)) × ReadsQuery q (length a.given) a b pieces FaultAnswered × Within pieces)

-- nothing was opened, or QUERY was and its reads stand so
abbrev pub RunsOutInText : List ℕ → ShelfView → ShelfView → Type 0
RunsOutInText q a b = Opens 0 a b
    ⊎ (Opens 1 a b × (pieces : List (List ℕ)) × (stop : Stop) × ReadsQuery q (length a.given) a b pieces stop × Calmly pieces stop)

-- how the reading of a query ends, if it isn't accepted
abbrev pub StopsInQuery : List ℕ → Status → ShelfView → ShelfView → Type 0
StopsInQuery q status.Ok a b = ⊥
StopsInQuery q status.Usage a b = ⊥
StopsInQuery q (status.QueryRefused f) a b = RefusesText q f a b
StopsInQuery q (status.DocumentRefused f) a b = ⊥
StopsInQuery q status.ReadFault a b = FailsInText q a b
StopsInQuery q status.WriteFault a b = ⊥
StopsInQuery q status.Memory a b = RunsOutInText q a b
StopsInQuery q (status.TraceRefused n) a b = ⊥

-- QUERY is accepted, and then DOC, where the command has one, isn't there
abbrev pub MissesDocument : List ℕ → Option (List ℕ) → ShelfView → ShelfView → Type 0
MissesDocument q d a b = (n : List ℕ) × (d ≡ Some n) × Misses 1 n a b × (x : List ExprTree) × AcceptsQuery q a b x

-- No run began, and nothing was written. `d` is None for a command without DOC.
abbrev pub NotBegun : List ℕ → Option (List ℕ) → Status → World → World → Type 0
NotBegun q d status.Ok a b = ⊥
NotBegun q d status.Usage a b = ⊥
NotBegun q d (status.QueryRefused f) a b = ⊥
NotBegun q d (status.DocumentRefused f) a b = ⊥
NotBegun q d status.ReadFault a b = Untouched a b × (FailsInText q a.shelf b.shelf ⊎ MissesDocument q d a.shelf b.shelf)
NotBegun q d status.WriteFault a b = ⊥
NotBegun q d status.Memory a b = Untouched a b × RunsOutInText q a.shelf b.shelf
NotBegun q d (status.TraceRefused n) a b = ⊥
