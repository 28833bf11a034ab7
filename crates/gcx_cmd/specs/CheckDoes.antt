-- How `check` ends, and what each end says (this project's).
use Rattle.std.specs.Prelude.{◌≡◌, ◌⊎◌, ◌+◌, ℕ, true, false, List, [], ◌∷◌, ◌++◌, length, All, Some}
use Rattle.std.specs.declared.result.Result.{Result}
use Rattle.std.specs.declared.result.Result.TheVariants as result
use Rattle.gcx_base.specs.Limits.{full_limits}
use Rattle.gcx_io.specs.Views.{ShelfView, SinkView}
use Rattle.gcx_io.specs.Writing.{Takes, Owes, joined}
use Rattle.gcx_model.specs.Query.{ExprTree}
use Rattle.gcx_model.specs.Tree.{TreeToken}
use Rattle.run_words.specs.Reading.{IsShort, ReadsOn}
use Rattle.run_words.specs.Stops.{Stop, More, EndAnswered, FaultAnswered, IsCalm, is_end}
use Rattle.time_laws.specs.Checking.{Yes, No, ReadFault as Cut, IsFront, Judges, fitted, line_ends}
use Rattle.gcx_cmd.specs.DocumentDoes.{Over, HasFault, IsClean, IsCut, SeesTokens}
use Rattle.gcx_cmd.specs.World.{World, Untouched}
use Rattle.gcx_cmd.specs.QueryDoes.{AcceptsQuery, NotBegun, RefusesQuery}
use Rattle.gcx_cmd.specs.Reads.{Misses, Opens, Reads}
use Rattle.gcx_cmd.specs.Texts.{lines_line}
use Rattle.gcx_cmd.specs.Tracing.{trace_text}
use Rattle.gcx_cmd.specs.declared.status.Status.{Status}
use Rattle.gcx_cmd.specs.declared.status.Status.TheVariants as status

-- No piece came behind the first byte that differs from the text.
abbrev pub StopsInTime : (text : List ℕ) → (pieces : List (List ℕ)) → Type 0
StopsInTime text pieces = (before : List (List ℕ)) (last : List ℕ) → pieces ≡ before ++ last ∷ [] → IsFront (joined before) text

-- QUERY is accepted, DOC is whole and has these tokens, and TRACE was opened behind it and its reads stand so, none longer than a
-- read asks for.
pub record OverTrace (q d t : List ℕ) (a b : World) (x : List ExprTree) (ts : List TreeToken) (pieces : List (List ℕ)) (stop : Stop) : Type 0 where
  pub three : Opens 3 a.shelf b.shelf
  pub query : AcceptsQuery q a.shelf b.shelf x
  pub doc_pieces : List (List ℕ)
  pub doc : Reads d (length a.shelf.given + 1) a.shelf b.shelf doc_pieces EndAnswered
  pub reads_on : ReadsOn full_limits doc_pieces EndAnswered
  pub tokens : SeesTokens doc_pieces EndAnswered ts
  pub trace : Reads t (length a.shelf.given + 2) a.shelf b.shelf pieces stop
  pub short : All IsShort pieces
  pub in_time : StopsInTime (trace_text x ts) pieces

-- All of TRACE was read, and it is this text.
abbrev pub IsText : (text : List ℕ) → (pieces : List (List ℕ)) → Stop → Type 0
IsText text pieces stop = (stop ≡ EndAnswered) × Judges text (Yes (fitted (line_ends text))) (joined pieces) true

-- nothing of TRACE was read
abbrev pub IsUnread : (pieces : List (List ℕ)) → Stop → Type 0
IsUnread pieces stop = (pieces ≡ []) × (stop ≡ More)

-- what a status says of TRACE, of which these pieces were read, and of the line that is written
abbrev pub ChecksBy : (text : List ℕ) → Status → (pieces : List (List ℕ)) → Stop → (a b : SinkView) → Type 0
ChecksBy text status.Ok ps stop a b = IsText text ps stop × Takes a b (lines_line (fitted (line_ends text)))
ChecksBy text status.Usage ps stop a b = ⊥
ChecksBy text (status.QueryRefused f) ps stop a b = ⊥
ChecksBy text (status.DocumentRefused f) ps stop a b = ⊥
ChecksBy text status.ReadFault ps stop a b = (stop ≡ FaultAnswered) × Judges text Cut (joined ps) false × (b ≡ a)
ChecksBy text status.WriteFault ps stop a b = IsText text ps stop × Owes a b [] (lines_line (fitted (line_ends text)))
ChecksBy text status.Memory ps stop a b = (IsUnread ps stop ⊎ IsText text ps stop) × (b ≡ a)
ChecksBy text (status.TraceRefused n) ps stop a b = IsCalm stop × Judges text (No n) (joined ps) (is_end stop) × (b ≡ a)

-- TRACE was judged against the trace of QUERY's one query x over DOC. Nothing else is written, and the store isn't used.
pub record Checks (q d t : List ℕ) (s : Status) (a b : World) : Type 0 where
  pub x : List ExprTree
  pub ts : List TreeToken
  pub pieces : List (List ℕ)
  pub stop : Stop
  pub over : OverTrace q d t a b x ts pieces stop
  pub judged : ChecksBy (trace_text x ts) s pieces stop a.out b.out
  pub err : b.err ≡ a.err
  pub store : b.store ≡ a.store

-- QUERY is accepted, DOC was opened and this holds of its reads. TRACE isn't opened, and nothing is written.
pub record EndsInDocument (q d : List ℕ) (Says : List (List ℕ) → Stop → Type 0) (a b : World) : Type 0 where
  pub untouched : Untouched a b
  pub x : List ExprTree
  pub pieces : List (List ℕ)
  pub stop : Stop
  pub over : Over q d a b x pieces stop
  pub says : Says pieces stop

-- QUERY is accepted and DOC is whole, but TRACE isn't there.
pub record LacksTrace (q d t : List ℕ) (a b : World) : Type 0 where
  pub untouched : Untouched a b
  pub two : Misses 2 t a.shelf b.shelf
  pub x : List ExprTree
  pub query : AcceptsQuery q a.shelf b.shelf x
  pub pieces : List (List ℕ)
  pub doc : Reads d (length a.shelf.given + 1) a.shelf b.shelf pieces EndAnswered
  pub reads_on : ReadsOn full_limits pieces EndAnswered
  pub clean : IsClean pieces EndAnswered

abbrev pub CheckDoes : (q d t : List ℕ) → Status → World → World → Type 0
CheckDoes q d t status.Ok a b = Checks q d t status.Ok a b
CheckDoes q d t status.Usage a b = ⊥
CheckDoes q d t (status.QueryRefused f) a b = RefusesQuery q f a b
CheckDoes q d t (status.DocumentRefused f) a b = EndsInDocument q d (HasFault f) a b
CheckDoes q d t status.ReadFault a b =
    NotBegun q (Some d) status.ReadFault a b ⊎ (EndsInDocument q d IsCut a b ⊎ (LacksTrace q d t a b ⊎ Checks q d t status.ReadFault a b))
CheckDoes q d t status.WriteFault a b = Checks q d t status.WriteFault a b
CheckDoes q d t status.Memory a b =
    NotBegun q (Some d) status.Memory a b ⊎ (EndsInDocument q d (λ pieces stop. IsCalm stop) a b ⊎ Checks q d t status.Memory a b)
CheckDoes q d t (status.TraceRefused n) a b = Checks q d t (status.TraceRefused n) a b

-- The rest is said of a private function.

-- TRACE was opened next, its reads stand so, and this holds of them.
pub record OverText (t text : List ℕ) (Says : List (List ℕ) → Stop → Type 0) (a b : ShelfView) : Type 0 where
  pub pieces : List (List ℕ)
  pub stop : Stop
  pub one : Opens 1 a b
  pub trace : Reads t (length a.given) a b pieces stop
  pub short : All IsShort pieces
  pub in_time : StopsInTime text pieces
  pub says : Says pieces stop

-- how the judging of TRACE ends
abbrev pub TraceDoes : (t text : List ℕ) → Result ℕ Status → (a b : ShelfView) → Type 0
TraceDoes t text (result.Ok lines) a b = OverText t text (λ ps stop. (stop ≡ EndAnswered) × Judges text (Yes lines) (joined ps) true) a b
TraceDoes t text (result.Err status.Ok) a b = ⊥
TraceDoes t text (result.Err status.Usage) a b = ⊥
TraceDoes t text (result.Err (status.QueryRefused f)) a b = ⊥
TraceDoes t text (result.Err (status.DocumentRefused f)) a b = ⊥
TraceDoes t text (result.Err status.ReadFault) a b =
    Misses 0 t a b ⊎ OverText t text (λ ps stop. (stop ≡ FaultAnswered) × Judges text Cut (joined ps) false) a b
TraceDoes t text (result.Err status.WriteFault) a b = ⊥
TraceDoes t text (result.Err status.Memory) a b = Opens 0 a b ⊎ OverText t text IsUnread a b
TraceDoes t text (result.Err (status.TraceRefused n)) a b =
    OverText t text (λ ps stop. IsCalm stop × Judges text (No n) (joined ps) (is_end stop)) a b
