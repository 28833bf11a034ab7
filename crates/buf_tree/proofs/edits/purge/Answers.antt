use Rattle.std.proofs.Common.{rules, arith, refl, ◌∙◌, ap, length}
use Rattle.std.specs.Prelude.{IsTrue}
use Rattle.buf_tree.specs.Shape.{cells}
use Rattle.buf_tree.specs.Rows.{IsSpare}
use Rattle.buf_tree.proofs.Purging.{climb_start, climb_step, climb_stop, climb_end, length_less, some_entry, count_left}
use Rattle.buf_tree.proofs.edits.purge.Goals as goal

pub up-init : goal.up-init
up-init g c = record {
  climb = climb_start _ _ _ c.requires.shape c.requires.there c.requires.tidy;
  count = refl;
  capacity = omega arith;
  most = refl;
  loans = refl;
}

pub drop_row-at-requires-clause-spare : goal.drop_row-at-requires-clause-spare
drop_row-at-requires-clause-spare g c =
    let climb = rw c.in-Some.is at c.up.invariant.climb in
    let r = some_entry _ (climb.there _ refl) in
    (r.0, r.1, (c.is_spare.ensures r.0 r.1).0 (search rules))

pub up-smaller : goal.up-smaller
up-smaller g c =
    let climb = rw c.in-Some.is at c.up.invariant.climb in
    let r = some_entry _ (climb.there _ refl) in
    let less = length_less _ climb.shape _ r.0 r.1 ((c.is_spare.ensures r.0 r.1).0 (search rules)) in
    let same = ap (λ m. length (cells m)) c.drop_row-at.ensures.rows in
    omega (arith, less, same)

pub up-preserved : goal.up-preserved
up-preserved g c =
    let climb = rw c.in-Some.is at c.up.invariant.climb in
    let r = some_entry _ (climb.there _ refl) in
    let spare : IsSpare r.0 = (c.is_spare.ensures r.0 r.1).0 (search rules) in
    let less = length_less _ climb.shape _ r.0 r.1 spare in
    let same = ap (λ m. length (cells m)) c.drop_row-at.ensures.rows in
    let items = c.drop_row-at.ensures.gone r.0 r.1 in
    record {
      climb = rw (c.drop_row-at.ensures.up, c.drop_row-at.ensures.rows) (climb_step _ _ _ _ _ r.0 r.1 c.requires.shape climb spare _ items);
      count = count_left _ _ _ _ _ _ less same c.drop_row-at.ensures.len c.up.invariant.count;
      capacity = omega (arith, c.drop_row-at.ensures.capacity, c.up.invariant.capacity);
      most = c.drop_row-at.ensures.most ∙ c.up.invariant.most;
      loans = c.drop_row-at.ensures.loans ∙ c.up.invariant.loans;
    }

pub returns-then-not-is_spare-clause-cleared : goal.returns-then-not-is_spare-clause-cleared
returns-then-not-is_spare-clause-cleared g c =
    let climb = rw c.in-Some.is at c.up.invariant.climb in
    let r = some_entry _ (climb.there _ refl) in
    climb_stop _ _ _ _ _ r.0 r.1 c.requires.shape climb (λ spare. let is : IsTrue c.is_spare.result = (c.is_spare.ensures r.0 r.1).1 spare in search rules)

pub returns-in_default-clause-cleared : goal.returns-in_default-clause-cleared
returns-in_default-clause-cleared g c = climb_end _ _ _ _ (rw c.in_default.is at c.up.invariant.climb)
