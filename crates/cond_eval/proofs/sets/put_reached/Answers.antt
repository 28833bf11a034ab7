use Rattle.cond_eval.proofs.Searches.{starts_from}
use Rattle.cond_eval.proofs.Nexts.{puts_start, puts_way, puts_on, puts_less, puts_end}
use Rattle.cond_eval.proofs.sets.put_reached.Goals as goal

pub match_behind-at-requires : goal.match_behind-at-requires
match_behind-at-requires g c = starts_from _ _ c.args.step.now c.requires

pub matches-init : goal.matches-init
matches-init g c = puts_start _ _ _ _ _ c.requires c.match_behind-at.ensures.found c.match_behind-at.ensures.serial

pub new-requires : goal.new-requires
new-requires g c = (puts_way _ _ c.args.step.now _ _ c.in-Some.here (rw c.in-Some.is at c.matches.invariant)).from

pub match_behind-at-requires-in-Some : goal.match_behind-at-requires-in-Some
match_behind-at-requires-in-Some g c = puts_way _ _ c.args.step.now _ _ c.in-Some.here (rw c.in-Some.is at c.matches.invariant)

pub matches-smaller : goal.matches-smaller
matches-smaller g c = rw c.in-Some.is (puts_less _ _ c.args.step.now _ _ c.in-Some.here _ (rw c.in-Some.is at c.matches.invariant) c.match_behind-at-in-Some.ensures.found c.match_behind-at-in-Some.ensures.serial)

pub matches-preserved : goal.matches-preserved
matches-preserved g c = puts_on _ _ c.args.step.now _ _ _ c.in-Some.here _ _ (rw c.in-Some.is at c.matches.invariant) c.new.ensures.member c.new.ensures.place c.in_ok-push.ensures.items c.match_behind-at-in-Some.ensures.found c.match_behind-at-in-Some.ensures.serial

pub returns : goal.returns
returns g c = puts_end _ _ c.args.step.now _ _ (rw c.in_default.is at c.matches.invariant)
