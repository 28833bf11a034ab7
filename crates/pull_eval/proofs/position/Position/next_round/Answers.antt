use Rattle.std.proofs.Common.{◌≡◌, true, [], Some, None, sym, subst}
use Rattle.pull_eval.specs.declared.position.Position.{Position}
use Rattle.pull_eval.proofs.Turning.{moved_on}
use Rattle.pull_eval.proofs.position.Position.next_round.Goals as goal

pub turn_at-requires-clause-over : goal.turn_at-requires-clause-over
turn_at-requires-clause-over g c = subst (λ (z : Position). z.top.rest.now ≡ []) (sym c.in_ok-next.ensures.frame) c.requires.over

pub turn_at-requires-clause-no_copy : goal.turn_at-requires-clause-no_copy
turn_at-requires-clause-no_copy g c = subst (λ (z : Position). z.copying ≡ None) (sym c.in_ok-next.ensures.frame) c.requires.no_copy

pub turn_at-requires-clause-round : goal.turn_at-requires-clause-round
turn_at-requires-clause-round g c = subst (λ (z : Position). z.top.round ≡ Some c.args.round) (sym c.in_ok-next.ensures.frame) c.requires.round

pub turn_at-requires-clause-begun : goal.turn_at-requires-clause-begun
turn_at-requires-clause-begun g c = subst (λ (z : Position). z.is_begun ≡ true) (sym c.in_ok-next.ensures.frame) c.requires.begun

pub turn_at-requires-clause-turns : goal.turn_at-requires-clause-turns
turn_at-requires-clause-turns g c = let q = c.requires.beside in let h = c.in_ok-next.ensures.turns q.0 q.1 q.2 in (q.0, q.1, h.0, h.1)

pub returns-clause-moved : goal.returns-clause-moved
returns-clause-moved g c = λ past k out b.
    (let h = c.in_ok-next.ensures.turns past k b in
    moved_on c.args.self.now c.next_there.new.self c.turn_at.new.self past k c.args.buffer.now c.args.buffer.now out out c.in_ok-acted.acted c.in_ok-next.ensures.frame (c.in_ok-acted.ensures.moved past k out h.0 h.1))
