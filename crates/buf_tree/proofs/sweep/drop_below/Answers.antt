use Rattle.std.proofs.Common.{arith, refl, ◌∙◌}
use Rattle.buf_tree.proofs.Dropping.{drops_start, drops_nested, drops_used, drops_shaped, drop_count, drop_on, drop_less, drops_end}
use Rattle.buf_tree.proofs.Kin.{row_of_place}
use Rattle.buf_tree.proofs.Taking.{some_member}
use Rattle.buf_tree.proofs.sweep.drop_below.Goals as goal

pub back-init : goal.back-init
back-init g c =
    let d = row_of_place _ _ c.requires.shape _ c.requires.there in
    record {
      drops = drops_start _ c.requires.shape c.requires.nested _ _ c.requires.tidy d.0 d.1 d.2 _ (c.last_below-at.ensures d.0 d.1 d.2);
      count = refl;
      capacity = omega arith;
      most = refl;
      loans = refl;
    }

pub before_below-at-requires : goal.before_below-at-requires
before_below-at-requires g c =
    let s = rw c.in-Some.is at c.back.invariant.drops in
    record {
      shape = drops_shaped _ c.requires.shape c.requires.nested _ _ _ _ _ s;
      nested = drops_nested _ c.requires.shape c.requires.nested _ _ _ _ _ s;
      there = drops_used _ c.requires.shape c.requires.nested _ _ _ _ _ s;
    }

pub drop_spare-requires : goal.drop_spare-requires
drop_spare-requires g c =
    let s = rw c.in-Some.is at c.back.invariant.drops in
    record {
      there = drops_used _ c.requires.shape c.requires.nested _ _ _ _ _ s;
      room = (let a = some_member s.walk.0 _ s.walk.1 in omega (arith, a, c.requires.departures, c.back.invariant.count, c.back.invariant.capacity));
    }

pub back-smaller : goal.back-smaller
back-smaller g c =
    let s = rw c.in-Some.is at c.back.invariant.drops in
    rw c.in-Some.is (drop_less _ c.requires.shape c.requires.nested _ _ _ _ _ s _ _ _ _ c.drop_spare.ensures.dropped _ c.before_below-at.ensures)

pub back-preserved : goal.back-preserved
back-preserved g c =
    let s = rw c.in-Some.is at c.back.invariant.drops in
    record {
      drops = drop_on _ c.requires.shape c.requires.nested _ _ _ _ _ s _ _ _ _ c.drop_spare.ensures.dropped _ c.before_below-at.ensures;
      count = drop_count _ c.requires.shape c.requires.nested _ _ _ _ _ s _ _ _ _ c.drop_spare.ensures.dropped ∙ c.back.invariant.count;
      capacity = omega (arith, c.drop_spare.ensures.capacity, c.back.invariant.capacity);
      most = c.drop_spare.ensures.most ∙ c.back.invariant.most;
      loans = c.drop_spare.ensures.loans ∙ c.back.invariant.loans;
    }

pub returns-clause-dropped : goal.returns-clause-dropped
returns-clause-dropped g c = drops_end _ c.requires.shape c.requires.nested _ _ _ _ (rw c.in_default.is at c.back.invariant.drops)
