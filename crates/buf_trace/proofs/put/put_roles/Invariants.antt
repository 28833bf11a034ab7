use Rattle.std.proofs.Common.{◌≡◌, ◌++◌, map, take}
use Rattle.std.specs.List.{flat_map}
use Rattle.gcx_model.specs.Demand.{number_text}
use Rattle.buf_trace.proofs.Roles.{Small}
use Rattle.buf_trace.proofs.put.put_roles.Given as goal

abbrev pub invariant-loop-role : goal.invariant-loop-role
invariant-loop-role l = record {
  text : l.out.items ≡ l.initial.out.items ++ flat_map number_text (map (λ r. r.0) (take l.role-index l.roles));
  held : Small (take l.role-index l.roles);
}
