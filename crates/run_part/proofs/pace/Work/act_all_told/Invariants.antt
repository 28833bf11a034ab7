use Rattle.std.proofs.Common.{◌≡◌, ℕ, Some, true, false}
use Rattle.gcx_model.specs.Core.{PlanTree}
use Rattle.gcx_model.specs.Tree.{Tree}
use Rattle.run_part.specs.Actors.{StandAt}
use Rattle.run_part.specs.Flows.{FewBoth, LeavesWork, OnlyBoth, flows}
use Rattle.run_part.specs.Order.{KeepsOrder}
use Rattle.run_part.specs.Telling.{lines_to}
use Rattle.run_part.proofs.FlowingActs.{ReachedFrom}
use Rattle.run_part.proofs.pace.Work.act_all_told.Given as goal

abbrev pub invariant-actions : goal.invariant-actions
invariant-actions g l = record {
  reached : ReachedFrom g.C.Conds.stands g.L.Lines.wanted (flows g.L.Lines.seen g.O.Outside.sinks (l.fn.self, l.fn.lines, l.fn.to)) (flows g.L.Lines.seen g.O.Outside.sinks (l.self, l.lines, l.to));
  order : g.O.Outside.most l.fn.to true ≡ Some 0 → g.L.Lines.wanted ≡ true → (plan : PlanTree) (P : Tree) (k : ℕ) → (h : StandAt g.C.Conds.stands plan l.fn.self.actors P k)
      → KeepsOrder g.L.Lines.seen g.O.Outside.sinks (l.fn.self, l.fn.lines, l.fn.to) (l.self, l.lines, l.to) (lines_to plan P k (reached plan P k h).reached.taken);
  few : FewBoth (g.O.Outside.most l.to false) l.self.out.items (g.L.Lines.seen l.lines);
  others : OnlyBoth (g.L.Lines.seen l.fn.lines) (g.O.Outside.sinks l.fn.to) (g.O.Outside.sinks l.to);
  leaves : LeavesWork l.fn.self l.self (g.L.Lines.seen l.fn.lines) (g.L.Lines.seen l.lines);
  writes : g.O.Outside.writes l.fn.to l.to;
}
