use Rattle.std.proofs.Common.{ℕ, inl, inr, sym, subst}
use Rattle.path_states.specs.Active.{Tells, child_edges_of}
use Rattle.path_states.proofs.Gaining.{in_more, from_all}
use Rattle.path_states.proofs.active.have_no_child_edges.Goals as goal

pub loop-number-preserved : goal.loop-number-preserved
loop-number-preserved c = λ r f. elim (in_more c.args.active.now c.loop-number.number-index 0 f.of c.loop-number-test.true f.member) [
  | inl m ↦ c.loop-number.invariant r (record { of = f.of; member = m; is = f.is })
  | inr e ↦ c.has_no_child_edges.ensures c.if-not-has_no_child_edges.false r (subst (λ (z : ℕ). Tells child_edges_of c.args.tree.now z r) (sym e) f.is)
]

pub returns : goal.returns
returns c = λ h r f. c.loop-number.invariant r (from_all c.args.active.now (Tells child_edges_of c.args.tree.now) c.loop-number.number-index r c.loop-number-test.false f)
