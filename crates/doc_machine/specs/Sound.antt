-- These definitions follow the code; no public clause speaks of them.
-- What holds of each state that the machine is in (this project's).
use Rattle.std.specs.Prelude.{◌≡◌, []}
use Rattle.gcx_base.specs.Name.{IsNameBytes}
use Rattle.doc_laws.specs.Machine.{State, MachineMode, StartName, StartSpace, AttributeName, AttributeSpace, Equals, InValue, InValueReference, ValueEnd, Slash}

-- The name of a tag or of an attribute that was begun is one, no run is read in a tag outside its values, and the tokens of a
-- tag wait in that tag alone.
abbrev pub IsSoundIn : MachineMode → State → Type 0
IsSoundIn StartName s = IsNameBytes s.name × (s.pending ≡ [])
IsSoundIn StartSpace s = s.run ≡ []
IsSoundIn AttributeName s = IsNameBytes s.attr
IsSoundIn AttributeSpace s = IsNameBytes s.attr
IsSoundIn Equals s = IsNameBytes s.attr
IsSoundIn (InValue q) s = IsNameBytes s.attr
IsSoundIn (InValueReference q r) s = IsNameBytes s.attr
IsSoundIn ValueEnd s = s.run ≡ []
IsSoundIn Slash s = s.run ≡ []
IsSoundIn other s = s.pending ≡ []

abbrev pub IsSound : State → Type 0
IsSound s = IsSoundIn s.mode s
