-- These definitions follow the code; no public clause speaks of them.
-- Names that are looked up in a set.
use Rattle.std.specs.Prelude.{ℕ, ◌≡◌, not, List}
use Rattle.std.specs.BTreeSet.{BTreeSet, contains_by}
use Rattle.std.specs.Cmp.Lexicographic.{slice_cmp}
use Rattle.std.specs.Ordering.{nat_cmp}
use Rattle.std.specs.Global.{Vec}
use Rattle.gcx_model.specs.Attributes.{is_fresh}

-- the set has these names and no others
abbrev pub IsLookedUp : List (List ℕ) → BTreeSet (Vec ℕ) → Type 0
IsLookedUp names set = (name : List ℕ) → contains_by (λ (key : Vec ℕ). slice_cmp nat_cmp name key.items) set ≡ not (is_fresh name names)
