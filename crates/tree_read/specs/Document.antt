-- A document's bytes and its tree, and what is read of it.
use Rattle.std.specs.Prelude.{◌≡◌, ℕ, Bool, true, false, List, [], ◌∷◌, ◌++◌, map, Some, None, Result, ⊤}
use Rattle.std.specs.declared.result.Result.TheVariants.{Ok, Err}
use Rattle.std.specs.Global.{Global}
use Rattle.std.specs.declared.collections.VecDeque.{VecDeque}
use lib.Utf8.{scalars, encodes}
use Rattle.gcx_base.specs.Limits.{full_limits}
use Rattle.gcx_io.specs.Views.{SourceView}
use Rattle.gcx_io.specs.Writing.{joined}
use Rattle.gcx_model.specs.Document.{Nodes, tree_of, tokens}
use Rattle.gcx_model.specs.Tree.{Tree, TreeToken as Said, End as said_end, opening, grow_all}
use Rattle.gcx_model.specs.Grammar.{SpellsDocument}
use Rattle.gcx_model.specs.Faults.{FaultIs}
use Rattle.gcx_model.specs.Seen.{SeenIs}
use Rattle.gcx_model.specs.declared.fault.DocFault.{DocFault}
use Rattle.gcx_model.specs.declared.fault.DocFault.TheVariants as fault
use Rattle.run_words.specs.Reading.{SourceGave, ReadsOn}
use Rattle.run_words.specs.Stops.{Stop, EndAnswered, FaultAnswered, IsCalm, is_end}
use Rattle.doc_reader.specs.Standing.{ReaderView, Stands, waiting, said_of, Token}
use Rattle.tree_read.specs.declared.reading.DocumentEnd.{DocumentEnd}
use Rattle.tree_read.specs.declared.reading.DocumentEnd.TheVariants as end

-- the bytes, in UTF-8, spell the document
pub record BytesSpell (bytes : List ℕ) (d : Nodes) : Type 0 where
  pub chars : List ℕ
  pub characters : scalars chars ≡ true
  pub encoded : bytes ≡ encodes chars
  pub spells : SpellsDocument chars d

-- The bytes spell one document, and this is its tree; no fault comes in them.
pub record IsWhole (bytes : List ℕ) (tree : Tree) : Type 0 where
  pub document : Nodes
  pub spells : BytesSpell bytes document
  pub only : (d : Nodes) → BytesSpell bytes d → d ≡ document
  pub tree_is : tree ≡ tree_of document
  pub no_fault : FaultIs full_limits bytes true None

-- The bytes spell one document, and these are its tokens, those that are seen in them; no fault comes in them.
pub record AreTokens (bytes : List ℕ) (ts : List Said) : Type 0 where
  pub document : Nodes
  pub spells : BytesSpell bytes document
  pub only : (d : Nodes) → BytesSpell bytes d → d ≡ document
  pub tokens_are : ts ≡ tokens document ++ said_end ∷ []
  pub seen : SeenIs full_limits bytes true ts
  pub no_fault : FaultIs full_limits bytes true None

-- The reader was fed these bytes, which have no fault, and gave these tokens; none waits.
pub record HasGiven (reader : ReaderView) (given : List Token) (bytes : List ℕ) : Type 0 where
  pub stands : Stands reader full_limits bytes false given
  pub nothing_waits : waiting reader ≡ []
  pub no_fault : FaultIs full_limits bytes false None

-- The reader was fed these bytes, which have no fault, and its tokens grew the tree; none waits.
pub record HasGrown (reader : ReaderView) (tree : Tree) (bytes : List ℕ) : Type 0 where
  pub given : List Token
  pub stands : Stands reader full_limits bytes false given
  pub nothing_waits : waiting reader ≡ []
  pub tree_is : tree ≡ grow_all (map said_of given) opening
  pub no_fault : FaultIs full_limits bytes false None

-- how a call ends: at Ok this holds, and a refusal is the fault of the bytes
abbrev pub EndsBy : {T : Type 0} → (ended : Bool) → List ℕ → Result T DocumentEnd → Type 0 → Type 0
EndsBy ended bytes (Ok x) P = P
EndsBy ended bytes (Err (end.Refused f)) P = FaultIs full_limits bytes ended (Some f)
EndsBy ended bytes (Err end.Fault) P = ⊤
EndsBy ended bytes (Err end.Memory) P = ⊤

-- what is found in the pieces that a document's source gave, by how the reading stopped; `Is` ties what is made to all bytes
abbrev pub Finds : {T : Type 0} → (List ℕ → T → Type 0) → Result T DocumentEnd → List (List ℕ) → Stop → Type 0
Finds Is (Ok x) pieces stop = (stop ≡ EndAnswered) × Is (joined pieces) x
Finds Is (Err (end.Refused f)) pieces stop = IsCalm stop × FaultIs full_limits (joined pieces) (is_end stop) (Some f)
Finds Is (Err end.Fault) pieces stop = (stop ≡ FaultAnswered) × FaultIs full_limits (joined pieces) false None
Finds Is (Err end.Memory) pieces stop = IsCalm stop

-- The source gave these pieces, and this is found in them.
pub record ReadsBy {T : Type 0} (Is : List ℕ → T → Type 0) (a b : SourceView) (result : Result T DocumentEnd) : Type 0 where
  pub pieces : List (List ℕ)
  pub stop : Stop
  pub gave : SourceGave a b pieces stop
  pub reads_on : ReadsOn full_limits pieces stop
  pub finds : Finds Is result pieces stop

-- so a document's tree is read,
abbrev pub ReadsDocument : SourceView → SourceView → Result Tree DocumentEnd → Type 0
ReadsDocument a b result = ReadsBy IsWhole a b result

-- and so are its tokens
abbrev pub ReadsTokens : SourceView → SourceView → Result (VecDeque Token Global) DocumentEnd → Type 0
ReadsTokens a b result = ReadsBy (λ bytes ts. AreTokens bytes (map said_of ts.items)) a b result

-- want of memory is an end of its own, not a refusal
abbrev pub IsRefusal : DocFault → Type 0
IsRefusal fault.Memory = ⊥
IsRefusal f = ⊤

abbrev pub SaysWhy : DocumentEnd → Type 0
SaysWhy (end.Refused f) = IsRefusal f
SaysWhy end.Fault = ⊤
SaysWhy end.Memory = ⊤

abbrev pub end_of : DocFault → DocumentEnd
end_of fault.Memory = end.Memory
end_of f = end.Refused f
