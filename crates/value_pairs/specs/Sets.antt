-- Sets of values (this project's).
use Rattle.std.specs.Prelude.{◌≡◌, ◌↔◌, ◌⊎◌, ℕ, List, map}
use Rattle.std.specs.BTreeSet.{BTreeSet}
use Rattle.std.specs.Global.{Vec}
use Rattle.gcx_model.specs.Members.{In}

-- the values of a set
abbrev pub values_in : BTreeSet (Vec ℕ) → List (List ℕ)
values_in set = map (λ (key : Vec ℕ). key.items) set.keys

-- the set has w, and nothing else that it hadn't
abbrev pub AddsValue : List ℕ → (before now : BTreeSet (Vec ℕ)) → Type 0
AddsValue w before now = (v : List ℕ) → In v (values_in now) ↔ ((w ≡ v) ⊎ In v (values_in before))
