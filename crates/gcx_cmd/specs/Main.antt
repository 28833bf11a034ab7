-- What QUERY's and DOC's bytes are, and what a status says of them (this project's).
use Rattle.std.specs.Prelude.{◌≡◌, ◌≢◌, ◌⊎◌, ℕ, List, true, ⊤}
use Rattle.std.specs.declared.option.Option.TheVariants as option
use Rattle.gcx_base.specs.Limits.{full_limits}
use Rattle.gcx_model.specs.Query.{ExprTree}
use Rattle.gcx_model.specs.Sound.{is_sound}
use Rattle.gcx_model.specs.Normal.{normal}
use Rattle.gcx_model.specs.Faults.{FaultIs}
use Rattle.gcx_model.specs.declared.fault.DocFault.TheVariants as doc_fault
use Rattle.gcx_model.specs.declared.fault.QueryFault.{QueryFault}
use Rattle.gcx_model.specs.declared.fault.QueryFault.TheVariants as query_fault
use Rattle.xq_parse.specs.Spelling.{QuerySpells}
use Rattle.xq_parse.specs.Faults.{TextFaultOf, HasOnlyQuery, HasOnlyRefusal}
use Rattle.signoff_place.specs.Refused.{refusal_of}
use Rattle.gcx_cmd.specs.declared.status.Status.{Status}
use Rattle.gcx_cmd.specs.declared.status.Status.TheVariants as statuses

-- The bytes spell the query, which is sound, and its core passes no limit.
pub record Accepts (bytes : List ℕ) (q : List ExprTree) : Type 0 where
  pub spells : QuerySpells bytes q
  pub sound : is_sound q ≡ true
  pub within : refusal_of (normal q) ≡ option.None

-- The bytes spell this query and no other one, and it is sound.
pub record SpellsOne (bytes : List ℕ) (q : List ExprTree) : Type 0 where
  pub spells : QuerySpells bytes q
  pub sound : is_sound q ≡ true
  pub only : HasOnlyQuery bytes q

-- the bytes are an accepted query
abbrev pub IsQuery : List ℕ → Type 0
IsQuery bytes = (q : List ExprTree) × Accepts bytes q

-- The bytes are an accepted query, they spell no other one, and nothing is wrong with them.
abbrev pub IsOneQuery : List ℕ → Type 0
IsOneQuery bytes = (q : List ExprTree) × Accepts bytes q × HasOnlyQuery bytes q

-- Something is wrong with the text: this, and nothing else.
abbrev pub HasTextFault : List ℕ → QueryFault → Type 0
HasTextFault bytes f = TextFaultOf bytes f × HasOnlyRefusal bytes f

-- The bytes spell one sound query, and this is the first limit that its core passes.
pub record PassesLimit (bytes : List ℕ) (f : QueryFault) : Type 0 where
  pub query : List ExprTree
  pub spells : QuerySpells bytes query
  pub sound : is_sound query ≡ true
  pub only : HasOnlyQuery bytes query
  pub limit : refusal_of (normal query) ≡ option.Some f

-- QueryFaultOf: why the bytes are no accepted query
abbrev pub QueryFaultOf : List ℕ → QueryFault → Type 0
QueryFaultOf bytes f = HasTextFault bytes f ⊎ PassesLimit bytes f

-- the whole bytes have no fault: they spell a document within the limits
abbrev pub IsDocument : List ℕ → Type 0
IsDocument bytes = FaultIs full_limits bytes true option.None

-- what each status says of the query's bytes
abbrev pub SaysOfQuery : Status → List ℕ → Type 0
SaysOfQuery statuses.Ok query = IsOneQuery query
SaysOfQuery statuses.Usage query = ⊥
SaysOfQuery (statuses.QueryRefused f) query = QueryFaultOf query f
SaysOfQuery (statuses.DocumentRefused f) query = IsOneQuery query
SaysOfQuery statuses.ReadFault query = ⊤
SaysOfQuery statuses.WriteFault query = IsOneQuery query
SaysOfQuery statuses.Memory query = ⊤
SaysOfQuery (statuses.TraceRefused n) query = IsOneQuery query

-- what each status says of the document's bytes
abbrev pub SaysOfDocument : Status → List ℕ → Type 0
SaysOfDocument statuses.Ok document = IsDocument document
SaysOfDocument statuses.Usage document = ⊤
SaysOfDocument (statuses.QueryRefused f) document = ⊤
SaysOfDocument (statuses.DocumentRefused f) document = FaultIs full_limits document true (option.Some f)
SaysOfDocument statuses.ReadFault document = ⊤
SaysOfDocument statuses.WriteFault document = ⊤
SaysOfDocument statuses.Memory document = ⊤
SaysOfDocument (statuses.TraceRefused n) document = IsDocument document

-- want of memory stands in no refusal
abbrev pub HasNoMemory : Status → Type 0
HasNoMemory (statuses.QueryRefused f) = f ≢ query_fault.Memory
HasNoMemory (statuses.DocumentRefused f) = f ≢ doc_fault.Memory
HasNoMemory status = ⊤
