-- The room that the walks of a statement need. This follows the code: private functions alone speak of it.
use Rattle.std.specs.Prelude.{◌+◌, ◌≤◌, length, vec_capacity}
use Rattle.gcx_model.specs.declared.item.Off.{Off}
use Rattle.buf_tree.specs.declared.trail.Trail.{Trail}

abbrev pub HasTrailRoom : Off → Trail → Type 0
HasTrailRoom off trail =
    (length off.tail + 1 ≤ vec_capacity trail.tails) × (length off.rel + 1 ≤ vec_capacity trail.rels) × (length off.tail + 1 ≤ vec_capacity trail.again)
