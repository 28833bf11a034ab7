-- Which core is refused, and for which limit (this project's).
use Rattle.std.specs.Prelude.{Option, Some, None}
use Rattle.gcx_model.specs.declared.fault.QueryFault.{QueryFault}
use Rattle.gcx_model.specs.Core.{BodyTree}
use Rattle.proj_tree.specs.Depths.{roles_refusal}
use Rattle.xq_normal.specs.Sums.{refusal}

abbrev pub first_of_two : Option QueryFault → Option QueryFault → Option QueryFault
first_of_two None later = later
first_of_two (Some fault) later = Some fault

-- the first limit that the core passes: those of the normal form come before those of the roles
abbrev pub refusal_of : BodyTree → Option QueryFault
refusal_of core = first_of_two (refusal core) (roles_refusal core)
