use Rattle.std.proofs.Common.{arith, sym, ◌∙◌, ◌-◌}
use Rattle.buf_tree.proofs.Keeping.{length_serials}
use Rattle.buf_tree.proofs.SpreadSweeps.{taken_longer, ready_taken, spread_cleared}
use Rattle.buf_tree.proofs.Withdrawing.{swept_cleared}
use Rattle.buf_tree.proofs.statements.withdraw.Goals as goal

pub take-taken-requires-clause-shape : goal.take-taken-requires-clause-shape
take-taken-requires-clause-shape g c = c.requires.kept.1.shape

pub take-taken-requires-clause-nested : goal.take-taken-requires-clause-nested
take-taken-requires-clause-nested g c = c.requires.kept.1.ordered.nested

pub take-taken-requires-clause-tidy : goal.take-taken-requires-clause-tidy
take-taken-requires-clause-tidy g c = c.requires.kept.1.tidy

pub take-taken-requires-clause-departures : goal.take-taken-requires-clause-departures
take-taken-requires-clause-departures g c = omega (arith, c.requires.kept.1.held, c.requires.kept.1.room, c.args.gone.now.ok.0, length_serials c.args.gone.now.items)

pub overflow_sub-left : goal.overflow_sub-left
overflow_sub-left g c =
    let l = taken_longer _ _ _ _ _ _ _ _ _ c.requires.taking c.take-taken.ensures.swept c.take-taken.ensures.spread in
    omega (arith, l, c.len.ensures, c.len-before.ensures, c.args.gone.now.ok.0, c.take-taken.new.gone.ok.0, length_serials c.args.gone.now.items, length_serials c.take-taken.new.gone.items)

pub overflow_sub-left-2 : goal.overflow_sub-left-2
overflow_sub-left-2 g c = omega (arith, c.requires.kept.1.held, c.take-taken.ensures.count, c.len.ensures, c.len-before.ensures)

pub settle-rest-requires : goal.settle-rest-requires
settle-rest-requires g c = (
  c.requires.kept.0,
  ready_taken _ _ _ _ _ _ _ _ _ c.requires.taking c.take-taken.ensures.swept c.take-taken.ensures.spread _ _ _ _ _ c.requires.kept.1
      (omega (arith, c.take-taken.ensures.count, c.args.gone.now.ok.0, c.take-taken.new.gone.ok.0, length_serials c.args.gone.now.items, length_serials c.take-taken.new.gone.items))
      c.take-taken.ensures.capacity
      (λ t. c.args.held.now - ((c.len.ensures ∙ c.take-taken.new.gone.ok.0 ∙ sym (length_serials c.take-taken.new.gone.items)) t - (c.len-before.ensures ∙ c.args.gone.now.ok.0 ∙ sym (length_serials c.args.gone.now.items)) t)),
)

pub returns-clause-kept : goal.returns-clause-kept
returns-clause-kept g c n kept = c.settle-rest.ensures.kept n
    (ready_taken _ _ _ _ _ _ _ _ _ c.requires.taking c.take-taken.ensures.swept c.take-taken.ensures.spread _ _ _ _ _ kept
    (omega (arith, c.take-taken.ensures.count, c.args.gone.now.ok.0, c.take-taken.new.gone.ok.0, length_serials c.args.gone.now.items, length_serials c.take-taken.new.gone.items))
    c.take-taken.ensures.capacity
    (λ t. c.args.held.now - ((c.len.ensures ∙ c.take-taken.new.gone.ok.0 ∙ sym (length_serials c.take-taken.new.gone.items)) t - (c.len-before.ensures ∙ c.args.gone.now.ok.0 ∙ sym (length_serials c.args.gone.now.items)) t)))

pub returns-clause-withdrawn : goal.returns-clause-withdrawn
returns-clause-withdrawn g c plain t =
    let swept = c.take-taken.ensures.swept plain t in
    record { left = swept_cleared _ _ _ _ _ _ _ _ _ _ swept c.settle-rest.ensures.cleared; taken = swept.taken }

pub returns-clause-spread : goal.returns-clause-spread
returns-clause-spread g c top is_for t = spread_cleared _ _ _ _ _ _ _ _ _ (c.take-taken.ensures.spread top is_for t) _ _ c.settle-rest.ensures.cleared

pub returns-clause-most : goal.returns-clause-most
returns-clause-most g c = c.settle-rest.ensures.most ∙ c.take-taken.ensures.most

pub returns-clause-loans : goal.returns-clause-loans
returns-clause-loans g c = c.settle-rest.ensures.loans ∙ c.take-taken.ensures.loans
