use Rattle.std.proofs.Common.{◌≡◌, ◌≤◌, false, List, drop, length}
use Rattle.gcx_model.specs.Core.{PlanTree}
use Rattle.gcx_model.specs.Tree.{TreeToken}
use Rattle.outside.specs.Places.{Few}
use Rattle.run_part.specs.Flows.{OnlyAt, flow_at}
use Rattle.run_part.specs.Late.{AmongLate, MayFeedAll, said_lent}
use Rattle.run_part.proofs.pace.Work.feed_lent.Given as goal

abbrev pub invariant-loop-token : goal.invariant-loop-token
invariant-loop-token g l = record {
  among : (plan : PlanTree) (ts : List TreeToken) → MayFeedAll g.C.Conds.stands plan l.groups.ahead l.fn.self.actors ts (said_lent l.bytes l.tokens)
      → AmongLate l.bytes g.C.Conds.stands plan l.groups.ahead l.fn.self.actors l.self.actors ts (said_lent l.bytes l.tokens) (said_lent l.bytes (drop l.token-index l.tokens))
      (flow_at (g.O.Outside.sinks l.fn.to) l.groups.place l.fn.self.out.items) (flow_at (g.O.Outside.sinks l.to) l.groups.place l.self.out.items) l.group.left l.group.quiet;
  some : 1 ≤ l.group.left;
  few : Few (g.O.Outside.most l.to false) (length l.self.out.items);
  others : OnlyAt l.groups.place (g.O.Outside.sinks l.fn.to) (g.O.Outside.sinks l.to);
  ahead : l.self.ahead ≡ l.fn.self.ahead;
  loans : l.self.actors.buffer.loans ≡ l.fn.self.actors.buffer.loans;
  writes : g.O.Outside.writes l.fn.to l.to;
}
