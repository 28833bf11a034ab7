-- Held and signed roles as two words of bits and two lists. This follows the code: only private functions and the model of
-- `NodeRoles` speak of it. All definitions here are this project's.
use Rattle.std.specs.Prelude.{ℕ, Option, Some, None, List, []}
use Rattle.std.specs.Global.{Box}
use Rattle.role_set.specs.declared.high_roles.HighRoles.{HighRoles}
use Rattle.role_set.specs.Words.{HighOnce, roles_of}
use Rattle.role_set.specs.NodeRoles.{NodeSets}

abbrev pub held_numbers : Option (Box HighRoles) → List ℕ
held_numbers None = []
held_numbers (Some high) = high.value.held.items

abbrev pub signed_numbers : Option (Box HighRoles) → List ℕ
signed_numbers None = []
signed_numbers (Some high) = high.value.signed.items

pub record IsHigh (high : Option (Box HighRoles)) : Type 0 where
  pub held : HighOnce (held_numbers high)
  pub signed : HighOnce (signed_numbers high)

abbrev pub sets_of : ℕ → ℕ → Option (Box HighRoles) → NodeSets
sets_of held signed high =
    record { held = roles_of held (held_numbers high); signed = roles_of signed (signed_numbers high) }
