use Rattle.std.proofs.Common.{◌≡◌, suc, map, take}
use Rattle.gcx_model.specs.ItemView.{body_of, body_tree, item_tree}
use Rattle.doc_tree.specs.Rows.{node_at}
use Rattle.time_laws.specs.Times.{course}
use Rattle.trace_check.specs.Acting.{Adds, body_rounds}
use Rattle.trace_check.specs.Memoing.{IsMemo}
use Rattle.trace_check.specs.Scopes.{env_of}
use Rattle.trace_check.specs.Timing.{clock_in}
use Rattle.trace_check.proofs.Weights.{weight, weights}
use Rattle.trace_check.proofs.acts.Acts.+runs.Given as goal

abbrev pub decreases-run_turns : goal.decreases-run_turns
decreases-run_turns l = suc (weights (body_tree l.body.now))

abbrev pub decreases-run_item : goal.decreases-run_item
decreases-run_item l = weight (item_tree l.item.now)

abbrev pub decreases-run : goal.decreases-run
decreases-run l = weights (body_tree l.body.now)

abbrev pub invariant-run_turns-loop-node : goal.invariant-run_turns-loop-node
invariant-run_turns-loop-node l = record {
  scope : l.walk.scope.items ≡ l.fn.walk.scope.items;
  memo : IsMemo l.timed l.walk.memo;
  acts : Adds l.fn.self.acts.items l.self.acts.items
      (body_rounds (clock_in l.timed) l.timed.tree l.var.0 (body_tree l.body) (env_of l.timed.tree l.fn.walk.scope.items) (map (node_at l.timed.tree.nodes) (take l.node-index l.nodes)) l.now)
      l.done;
}

abbrev pub invariant-run-loop-item : goal.invariant-run-loop-item
invariant-run-loop-item l = record {
  scope : l.walk.scope.items ≡ l.fn.walk.scope.items;
  memo : IsMemo l.timed l.walk.memo;
  acts : Adds l.fn.self.acts.items l.self.acts.items
      (course (clock_in l.timed) l.timed.tree (body_of (map item_tree (take l.item-index l.item-items))) (env_of l.timed.tree l.fn.walk.scope.items) l.now)
      l.done;
}
