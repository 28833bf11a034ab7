-- Held and signed roles in one record.
use Rattle.std.proofs.Common.{◌≡◌}
use Rattle.role_set.specs.NodeRoles.{NodeSets}

pub same_sets : (v w : NodeSets) → v.held ≡ w.held → v.signed ≡ w.signed → v ≡ w
same_sets v w held signed = λ i. record { held = held i; signed = signed i }
