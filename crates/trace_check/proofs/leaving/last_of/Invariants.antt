use Rattle.std.proofs.Common.{◌≡◌, ◌≤◌, List, map, take}
use Rattle.gcx_model.specs.Run.{Action}
use Rattle.trace_check.specs.Acting.{action_shown, what_shown}
use Rattle.trace_check.proofs.Entries.{HasLast}
use Rattle.trace_check.proofs.leaving.last_of.Given as goal

abbrev pub invariant-loop-act : goal.invariant-loop-act
invariant-loop-act l = record {
  last : (all : List Action) → map what_shown l.acts ≡ map action_shown all → HasLast l.tree (take l.act-index all) l.number l.last.items;
  few : l.number ≤ l.act-index;
}
