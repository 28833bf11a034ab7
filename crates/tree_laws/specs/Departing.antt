-- Departed nodes.
use Rattle.std.specs.Prelude.{◌≡◌}
use Rattle.std.specs.Prelude.{ℕ}
use Rattle.std.specs.Prelude.{◌<◌}
use Rattle.std.specs.Prelude.{List}
use Rattle.std.specs.Prelude.{[]}
use Rattle.std.specs.Prelude.{◌∷◌}
use Rattle.std.specs.Prelude.{◌↔◌}
use Rattle.gcx_model.specs.Tree.{Node}
use Rattle.gcx_model.specs.Tree.{serial_of}
use Rattle.gcx_model.specs.Tree.{Tree}
use Rattle.gcx_model.specs.Members.{In}
use Rattle.gcx_model.specs.Nodes.{Rising}
use Rattle.gcx_model.specs.Nodes.{Grown}
use Rattle.gcx_model.specs.Held.{departed}

-- each number is above the later ones
abbrev pub Falling : List ℕ → Type 0
Falling [] = Unit {0}
Falling (s ∷ ss) = ((j : ℕ) → In j ss → j < s) × Falling ss

-- Departed are the serials of the nodes that were there and aren't there any more, by falling serial.
abbrev pub DepartedAreGone : Type 0
DepartedAreGone = (P : Tree) → Grown P → (before now : List Node) → Rising before → ((n : Node) → In n before → In n P.nodes) → ((n : Node) → In n now → In n P.nodes)
    → Falling (departed before now) × ((s : ℕ) → In s (departed before now) ↔ ((n : Node) × (serial_of n ≡ s) × (In n before × (In n now → ⊥))))
