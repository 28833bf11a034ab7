use Rattle.std.proofs.Common.{◌≡◌, map, drop}
use Rattle.gcx_model.specs.CondView.{core_cond_tree, core_conds_of}
use Rattle.time_laws.specs.Times.{settled_all, settled_any}
use Rattle.trace_check.specs.Memoing.{IsMemo}
use Rattle.trace_check.specs.Scopes.{env_of}
use Rattle.trace_check.specs.Settling.{no_sooner}
use Rattle.trace_check.specs.Timing.{clock_in}
use Rattle.trace_check.proofs.conditions.+settle.Given as goal

abbrev pub invariant-loop-inner : goal.invariant-loop-inner
invariant-loop-inner l = record {
  memo : IsMemo l.timed l.memo;
  known : no_sooner l.at (settled_all (clock_in l.timed) l.timed.tree (core_conds_of (map core_cond_tree (drop l.inner-index l.inner-items))) (env_of l.timed.tree l.scope))
      ≡ settled_all (clock_in l.timed) l.timed.tree (core_conds_of (map core_cond_tree l.inner-items)) (env_of l.timed.tree l.scope);
}

abbrev pub invariant-loop-inner-2 : goal.invariant-loop-inner-2
invariant-loop-inner-2 l = record {
  memo : IsMemo l.timed l.memo;
  known : no_sooner l.since (settled_any (clock_in l.timed) l.timed.tree (core_conds_of (map core_cond_tree (drop l.inner-index l.inner-items))) (env_of l.timed.tree l.scope))
      ≡ settled_any (clock_in l.timed) l.timed.tree (core_conds_of (map core_cond_tree l.inner-items)) (env_of l.timed.tree l.scope);
}
