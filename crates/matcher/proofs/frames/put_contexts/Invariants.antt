use Rattle.std.proofs.Common.{◌≡◌, ◌+◌, ◌≤◌, ◌++◌, map, take, vec_len, vec_capacity}
use Rattle.matcher.specs.Parts.{open_context}
use Rattle.matcher.proofs.frames.put_contexts.Given as goal

abbrev pub invariant-loop-role : goal.invariant-loop-role
invariant-loop-role l = record {
  items : l.contexts.items ≡ l.fn.contexts.items ++ map open_context (take l.role-index l.roles);
  len : vec_len l.contexts ≡ vec_len l.fn.contexts + l.role-index;
  capacity : vec_capacity l.fn.contexts ≤ vec_capacity l.contexts;
}
