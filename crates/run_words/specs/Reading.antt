-- What a source gave in a call, and how far a document is read (this project's).
use Rattle.std.specs.Prelude.{◌≡◌, ◌≤◌, ◌+◌, ℕ, List, [], ◌∷◌, ◌++◌, length, map, All, false, None}
use Rattle.std.specs.Io.KnownBytes.{Consumes, IsAtEnd}
use Rattle.gcx_base.specs.declared.limits.Limits.{Limits}
use Rattle.gcx_io.specs.Causes.{Rose}
use Rattle.gcx_io.specs.Views.{Gave, SourceView}
use Rattle.gcx_io.specs.Writing.{IsSomeBytes, joined}
use Rattle.gcx_model.specs.Faults.{FaultIs}
use Rattle.run_words.specs.Stops.{Stop, More, EndAnswered, FaultAnswered, last_call}

-- the count of faults rose where a read failed, and else it stayed
abbrev pub CountsFault : Stop → ℕ → ℕ → Type 0
CountsFault More before after = after ≡ before
CountsFault EndAnswered before after = after ≡ before
CountsFault FaultAnswered before after = Rose before after

-- The source gave these pieces, none empty, to reads that asked for 65,536 bytes each, and stopped so. No call came after the end
-- or a fault.
pub record SourceGave (a b : SourceView) (pieces : List (List ℕ)) (stop : Stop) : Type 0 where
  pub some : All IsSomeBytes pieces
  pub calls : b.calls ≡ a.calls ++ map (Gave 65536) pieces ++ last_call 65536 stop
  pub told : Consumes a.left b.left (joined pieces)
  pub at_end : stop ≡ EndAnswered → IsAtEnd b.left
  pub faults : CountsFault stop a.faults b.faults

-- a read asks for no more
abbrev pub IsShort : List ℕ → Type 0
IsShort piece = length piece ≤ 65536

-- A document was read so far: no read came after a fault of its bytes.
pub record ReadsOn (lim : Limits) (pieces : List (List ℕ)) (stop : Stop) : Type 0 where
  pub short : All IsShort pieces
  pub earlier : (before : List (List ℕ)) (last : List ℕ) → pieces ≡ before ++ last ∷ [] → FaultIs lim (joined before) false None
  pub unfaulted : (stop ≡ More → ⊥) → FaultIs lim (joined pieces) false None
  pub bound : length (joined pieces) ≤ lim.bytes + 65536

-- Nothing is wrong with the pieces so far, and none is longer than a read asks for.
pub record AreClean (lim : Limits) (pieces : List (List ℕ)) : Type 0 where
  pub short : All IsShort pieces
  pub earlier : (before : List (List ℕ)) (last : List ℕ) → pieces ≡ before ++ last ∷ [] → FaultIs lim (joined before) false None
  pub clean : FaultIs lim (joined pieces) false None
