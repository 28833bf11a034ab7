use Rattle.std.proofs.Common.{◌≡◌, List, Some, true, false}
use Rattle.gcx_model.specs.Core.{PlanTree}
use Rattle.gcx_model.specs.Tree.{TreeToken}
use Rattle.run_part.specs.Flows.{FewBoth, LeavesTaking, OnlyBoth, trace_seen}
use Rattle.run_part.specs.Late.{MayFeedAll, said_lent}
use Rattle.run_part.proofs.OrderedTokens.{OrderedTo}
use Rattle.run_part.proofs.pace.TraceLinesPace.take.Given as goal

abbrev pub invariant-loop-token : goal.invariant-loop-token
invariant-loop-token g l = record {
  among : (plan : PlanTree) (ts : List TreeToken) → MayFeedAll g.C.Conds.stands plan l.fn.work.ahead l.fn.work.actors ts (said_lent l.bytes l.tokens)
      → OrderedTo g.C.Conds.stands g.O.Outside.sinks (g.O.Outside.most l.fn.to true ≡ Some 0) plan l.bytes l.fn.work l.fn.self l.fn.to ts l.tokens l.work l.self l.to l.token-index;
  few : FewBoth (g.O.Outside.most l.to false) l.work.out.items (trace_seen l.self);
  others : OnlyBoth (trace_seen l.fn.self) (g.O.Outside.sinks l.fn.to) (g.O.Outside.sinks l.to);
  leaves : LeavesTaking l.fn.work l.work (trace_seen l.fn.self) (trace_seen l.self);
  writes : g.O.Outside.writes l.fn.to l.to;
}
