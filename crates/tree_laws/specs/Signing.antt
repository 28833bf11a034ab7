-- Signed nodes.
use Rattle.std.specs.Prelude.{◌≡◌}
use Rattle.std.specs.Prelude.{true}
use Rattle.std.specs.Prelude.{List}
use Rattle.std.specs.Prelude.{◌↔◌}
use Rattle.gcx_model.specs.Tree.{Node}
use Rattle.gcx_model.specs.Tree.{serial_of}
use Rattle.gcx_model.specs.Members.{In}
use Rattle.gcx_model.specs.Core.{OffTree}
use Rattle.gcx_model.specs.Run.{Action}
use Rattle.gcx_model.specs.Run.{Offed}
use Rattle.gcx_model.specs.Held.{signed}

-- A node is signed for a statement where the actions have the Off of both.
abbrev pub SignedIsOff : Type 0
SignedIsOff = (A : List Action) (s : OffTree) (m : Node) → (signed A s m ≡ true) ↔ In (Offed s (serial_of m)) A
