use Rattle.std.proofs.Common.{arith, refl, ◌∙◌}
use Rattle.buf_tree.proofs.Kin.{row_of_place}
use Rattle.buf_tree.proofs.Sweeps.{sweeps_start, sweeps_nested, sweeps_used, base_used, turned, turn_count, turn_on, turn_less, turned_last, sweeps_end}
use Rattle.buf_tree.proofs.sweep.sweep.Goals as goal

pub back-init : goal.back-init
back-init g c =
    let d = row_of_place _ _ c.requires.shape _ c.requires.there in
    record {
      sweep = sweeps_start _ c.requires.shape c.requires.nested c.args.off.now c.args.others _ _ c.requires.tidy d.0 d.1 d.2 _ (c.last_below-at.ensures d.0 d.1 d.2);
      count = refl;
      capacity = omega arith;
      tails = omega arith;
      rels = omega arith;
      again = omega arith;
      most = refl;
      loans = refl;
    }

pub withdraw-taken-requires-clause-nested : goal.withdraw-taken-requires-clause-nested
withdraw-taken-requires-clause-nested g c = sweeps_nested _ c.requires.shape c.requires.nested _ _ _ _ _ _ _ _ c.back.invariant.sweep

pub withdraw-taken-requires-clause-there : goal.withdraw-taken-requires-clause-there
withdraw-taken-requires-clause-there g c = sweeps_used _ c.requires.shape c.requires.nested _ _ _ _ _ _ _ _ (rw c.in-Some.is at c.back.invariant.sweep)

pub overflow_add-taken : goal.overflow_add-taken
overflow_add-taken g c =
    let s = rw c.in-Some.is at c.back.invariant.sweep in
    let w = turned _ c.requires.shape c.requires.nested _ _ _ _ _ _ _ _ _ c.withdraw-taken.ensures.few _ c.withdraw-taken.ensures.rows c.withdraw-taken.ensures.taken s in
    omega (arith, w.few, c.requires.departures)

pub before_below-at-requires : goal.before_below-at-requires
before_below-at-requires g c =
    let s = rw c.in-Some.is at c.back.invariant.sweep in
    let w = turned _ c.requires.shape c.requires.nested _ _ _ _ _ _ _ _ _ c.withdraw-taken.ensures.few _ c.withdraw-taken.ensures.rows c.withdraw-taken.ensures.taken s in
    record { shape = w.shape; nested = w.nested; there = w.used }

pub drop_spare-requires : goal.drop_spare-requires
drop_spare-requires g c =
    let s = rw c.in-Some.is at c.back.invariant.sweep in
    let w = turned _ c.requires.shape c.requires.nested _ _ _ _ _ _ _ _ _ c.withdraw-taken.ensures.few _ c.withdraw-taken.ensures.rows c.withdraw-taken.ensures.taken s in
    record { there = w.used; room = omega (arith, w.some, w.many, c.requires.departures, c.back.invariant.count, c.back.invariant.capacity) }

pub back-smaller : goal.back-smaller
back-smaller g c =
    let s = rw c.in-Some.is at c.back.invariant.sweep in
    rw c.in-Some.is
    (turn_less _ c.requires.shape c.requires.nested _ _ _ _ _ _ _ _ _ c.withdraw-taken.ensures.few _ c.withdraw-taken.ensures.rows c.withdraw-taken.ensures.taken s _ _ _ _ c.drop_spare.ensures.dropped _ c.before_below-at.ensures)

pub back-preserved : goal.back-preserved
back-preserved g c =
    let s = rw c.in-Some.is at c.back.invariant.sweep in
    record {
      sweep = turn_on _ c.requires.shape c.requires.nested _ _ _ _ _ _ _ _ _ c.withdraw-taken.ensures.few _ c.withdraw-taken.ensures.rows c.withdraw-taken.ensures.taken s _ _ _ _ c.drop_spare.ensures.dropped _ c.before_below-at.ensures;
      count = (
          let e = turn_count _ c.requires.shape c.requires.nested _ _ _ _ _ _ _ _ _ c.withdraw-taken.ensures.few _ c.withdraw-taken.ensures.rows c.withdraw-taken.ensures.taken s _ _ _ _ c.drop_spare.ensures.dropped in
          e ∙ c.back.invariant.count);
      capacity = omega (arith, c.drop_spare.ensures.capacity, c.back.invariant.capacity);
      tails = omega (arith, c.withdraw-taken.ensures.tails, c.back.invariant.tails);
      rels = omega (arith, c.withdraw-taken.ensures.rels, c.back.invariant.rels);
      again = omega (arith, c.withdraw-taken.ensures.again, c.back.invariant.again);
      most = c.drop_spare.ensures.most ∙ c.withdraw-taken.ensures.most ∙ c.back.invariant.most;
      loans = c.drop_spare.ensures.loans ∙ c.withdraw-taken.ensures.loans ∙ c.back.invariant.loans;
    }

pub withdraw-requires-clause-nested : goal.withdraw-requires-clause-nested
withdraw-requires-clause-nested g c = sweeps_nested _ c.requires.shape c.requires.nested _ _ _ _ _ _ _ _ c.back.invariant.sweep

pub withdraw-requires-clause-there : goal.withdraw-requires-clause-there
withdraw-requires-clause-there g c = base_used _ c.requires.shape c.requires.nested _ _ _ _ _ _ _ (rw c.in_default.is at c.back.invariant.sweep)

pub overflow_add-result : goal.overflow_add-result
overflow_add-result g c =
    let s = rw c.in_default.is at c.back.invariant.sweep in
    let w = turned_last _ c.requires.shape c.requires.nested _ _ _ _ _ _ _ _ c.withdraw.ensures.few _ c.withdraw.ensures.rows c.withdraw.ensures.taken s in
    omega (arith, w.few, c.requires.departures)

pub returns-clause-swept : goal.returns-clause-swept
returns-clause-swept g c =
    let s = rw c.in_default.is at c.back.invariant.sweep in
    sweeps_end _ c.requires.shape c.requires.nested _ _ _ _ _ _ _ _ c.withdraw.ensures.few _ c.withdraw.ensures.rows c.withdraw.ensures.taken s

pub returns-clause-count : goal.returns-clause-count
returns-clause-count g c =
    let s = rw c.in_default.is at c.back.invariant.sweep in
    let w = turned_last _ c.requires.shape c.requires.nested _ _ _ _ _ _ _ _ c.withdraw.ensures.few _ c.withdraw.ensures.rows c.withdraw.ensures.taken s in
    omega (arith, w.many, c.back.invariant.count)

pub returns-clause-few : goal.returns-clause-few
returns-clause-few g c =
    let s = rw c.in_default.is at c.back.invariant.sweep in
    let w = turned_last _ c.requires.shape c.requires.nested _ _ _ _ _ _ _ _ c.withdraw.ensures.few _ c.withdraw.ensures.rows c.withdraw.ensures.taken s in
    w.few
