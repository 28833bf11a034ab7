-- QUERY is accepted, and DOC is read (this project's).
use Rattle.std.specs.Prelude.{◌≡◌, ◌⊎◌, ◌+◌, ℕ, List, true, false, length, map, Some, None}
use Rattle.std.specs.Global.{Global}
use Rattle.std.specs.declared.result.Result.{Result}
use Rattle.std.specs.declared.result.Result.TheVariants as result
use Rattle.std.specs.declared.collections.VecDeque.{VecDeque}
use Rattle.gcx_base.specs.Limits.{full_limits}
use Rattle.gcx_io.specs.Writing.{joined}
use Rattle.gcx_io.specs.Views.{ShelfView}
use Rattle.gcx_model.specs.Document.{Nodes}
use Rattle.gcx_model.specs.Faults.{FaultIs}
use Rattle.gcx_model.specs.Query.{ExprTree}
use Rattle.gcx_model.specs.declared.fault.DocFault.{DocFault}
use Rattle.run_words.specs.Reading.{ReadsOn}
use Rattle.run_words.specs.Stops.{Stop, EndAnswered, FaultAnswered, IsCalm, is_end}
use Rattle.gcx_model.specs.Seen.{SeenIs}
use Rattle.gcx_model.specs.Tree.{TreeToken, Tree}
use Rattle.doc_reader.specs.Standing.{said_of, Token as Given}
use Rattle.tree_read.specs.Document.{AreTokens, BytesSpell, IsWhole}
use Rattle.gcx_cmd.specs.World.{World}
use Rattle.gcx_cmd.specs.QueryDoes.{AcceptsQuery}
use Rattle.gcx_cmd.specs.Reads.{Reads, Opens, Misses}
use Rattle.gcx_cmd.specs.declared.status.Status.{Status}
use Rattle.gcx_cmd.specs.declared.status.Status.TheVariants as status

-- QUERY is accepted, DOC was opened behind it and its reads stand so; no read came behind a fault of its bytes.
pub record Over (q d : List ℕ) (a b : World) (x : List ExprTree) (pieces : List (List ℕ)) (stop : Stop) : Type 0 where
  pub two : Opens 2 a.shelf b.shelf
  pub query : AcceptsQuery q a.shelf b.shelf x
  pub doc : Reads d (length a.shelf.given + 1) a.shelf b.shelf pieces stop
  pub reads_on : ReadsOn full_limits pieces stop

-- the whole document was read, and has no fault
pub record IsClean (pieces : List (List ℕ)) (stop : Stop) : Type 0 where
  pub at_end : stop ≡ EndAnswered
  pub clean : FaultIs full_limits (joined pieces) true None

-- what was read has this fault
pub record HasFault (f : DocFault) (pieces : List (List ℕ)) (stop : Stop) : Type 0 where
  pub calm : IsCalm stop
  pub fault : FaultIs full_limits (joined pieces) (is_end stop) (Some f)

-- a read failed, and what was read before has no fault
pub record IsCut (pieces : List (List ℕ)) (stop : Stop) : Type 0 where
  pub at_fault : stop ≡ FaultAnswered
  pub clean : FaultIs full_limits (joined pieces) false None

-- The whole document was read, and these are its tokens.
pub record SeesTokens (pieces : List (List ℕ)) (stop : Stop) (tokens : List TreeToken) : Type 0 where
  pub clean : IsClean pieces stop
  pub seen : SeenIs full_limits (joined pieces) true tokens

-- The bytes spell this document and no other one.
pub record SpellsOneDocument (bytes : List ℕ) (doc : Nodes) : Type 0 where
  pub spells : BytesSpell bytes doc
  pub only : (d : Nodes) → BytesSpell bytes d → d ≡ doc

-- The rest is said of private functions.

-- DOC was opened next, its reads stand so, and this holds of them.
pub record OverDoc (d : List ℕ) (Says : List (List ℕ) → Stop → Type 0) (a b : ShelfView) : Type 0 where
  pub pieces : List (List ℕ)
  pub stop : Stop
  pub one : Opens 1 a b
  pub doc : Reads d (length a.given) a b pieces stop
  pub reads_on : ReadsOn full_limits pieces stop
  pub says : Says pieces stop

-- What each status says of DOC, where it isn't opened or this holds of its reads. `Before` holds where it isn't.
abbrev pub DocDoes : (d : List ℕ) → (Status → List (List ℕ) → Stop → Type 0) → (Before : Type 0) → Status → (a b : ShelfView) → Type 0
DocDoes d Says Before status.Ok a b = OverDoc d (Says status.Ok) a b
DocDoes d Says Before status.Usage a b = ⊥
DocDoes d Says Before (status.QueryRefused f) a b = ⊥
DocDoes d Says Before (status.DocumentRefused f) a b = OverDoc d (Says (status.DocumentRefused f)) a b
DocDoes d Says Before status.ReadFault a b = (Before × Misses 0 d a b) ⊎ OverDoc d (Says status.ReadFault) a b
DocDoes d Says Before status.WriteFault a b = OverDoc d (Says status.WriteFault) a b
DocDoes d Says Before status.Memory a b = (Before × Opens 0 a b) ⊎ OverDoc d (Says status.Memory) a b
DocDoes d Says Before (status.TraceRefused n) a b = ⊥

-- all of DOC was read, and this is its tree
pub record ReadsTree (tree : Tree) (pieces : List (List ℕ)) (stop : Stop) : Type 0 where
  pub at_end : stop ≡ EndAnswered
  pub whole : IsWhole (joined pieces) tree

-- all of DOC was read, and these are its tokens
pub record ReadsAll (tokens : List TreeToken) (pieces : List (List ℕ)) (stop : Stop) : Type 0 where
  pub at_end : stop ≡ EndAnswered
  pub are : AreTokens (joined pieces) tokens

-- how the reading of DOC ends; at Ok this holds of what is made of it
abbrev pub ReadsDoes : {T : Type 0} → (T → List (List ℕ) → Stop → Type 0) → (d : List ℕ) → Result T Status → (a b : ShelfView) → Type 0
ReadsDoes Says d (result.Ok x) a b = OverDoc d (Says x) a b
ReadsDoes Says d (result.Err status.Ok) a b = ⊥
ReadsDoes Says d (result.Err status.Usage) a b = ⊥
ReadsDoes Says d (result.Err (status.QueryRefused f)) a b = ⊥
ReadsDoes Says d (result.Err (status.DocumentRefused f)) a b = OverDoc d (HasFault f) a b
ReadsDoes Says d (result.Err status.ReadFault) a b = Misses 0 d a b ⊎ OverDoc d IsCut a b
ReadsDoes Says d (result.Err status.WriteFault) a b = ⊥
ReadsDoes Says d (result.Err status.Memory) a b = Opens 0 a b ⊎ OverDoc d (λ pieces stop. IsCalm stop) a b
ReadsDoes Says d (result.Err (status.TraceRefused n)) a b = ⊥

-- so DOC's tree is read,
abbrev pub TreeDoes : (d : List ℕ) → Result Tree Status → (a b : ShelfView) → Type 0
TreeDoes d r a b = ReadsDoes ReadsTree d r a b

-- and so are its tokens
abbrev pub TokensDoes : (d : List ℕ) → Result (VecDeque Given Global) Status → (a b : ShelfView) → Type 0
TokensDoes d r a b = ReadsDoes (λ tokens. ReadsAll (map said_of tokens.items)) d r a b
