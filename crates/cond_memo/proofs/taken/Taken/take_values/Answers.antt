use Rattle.std.proofs.Common.{sym, ◌∙◌, ap, subst}
use Rattle.cond_memo.specs.Waiting.{Fits}
use Rattle.cond_memo.specs.declared.taken.Taken.{Taken}
use Rattle.cond_memo.proofs.PairSides.{side_ends, side_goes, side_meets, side_starts}
use Rattle.cond_memo.proofs.Takings.{may_found, may_later, takes_less}
use Rattle.cond_memo.proofs.UntakenRows.{at_used}
use Rattle.cond_memo.proofs.taken.Taken.take_values.Goals as goal

pub matches-init : goal.matches-init
matches-init g c = record {
  frame = c.in_ok-next.ensures.frame;
  may = may_found c.args.buffer.now c.args.self.now c.next.new.self c.args.end.node.0 (ap (λ (x : Taken). x.steps) c.in_ok-next.ensures.frame) c.requires.may c.in_ok-next.next c.in_ok-next.ensures.next;
  goes = side_starts c.args.buffer.now c.args.self.now c.next.new.self c.args.end.node.0 c.args.end.hand c.args.compared.now c.in_ok-next.next c.in_ok-next.ensures.next;
}

pub value-requires : goal.value-requires
value-requires g c = at_used c.args.buffer.now c.matches.self c.args.end.node.0 c.in-Some.place.0 (rw c.in-Some.is at c.matches.invariant.may)

pub returns-then-found-clause-values : goal.returns-then-found-clause-values
returns-then-found-clause-values g c =
    side_meets c.args.buffer.now c.args.self.now c.matches.self c.args.end.node.0 c.args.end.hand c.args.compared.now c.matches.compared c.take.new.self c.in-Some.place (rw c.in-Some.is at c.matches.invariant.goes)
    c.in_ok-bytes.bytes.now c.in_ok-bytes.ensures.value c.in_ok-take.ensures (rw c.if-found.true at c.found.ensures)

pub take-requires-in-Some-clause-may : goal.take-requires-in-Some-clause-may
take-requires-in-Some-clause-may g c = rw c.in-Some.is at c.matches.invariant.may

pub take-requires-in-Some-clause-fits : goal.take-requires-in-Some-clause-fits
take-requires-in-Some-clause-fits g c = subst (λ (x : Taken). Fits x.steps x.last) (sym c.matches.invariant.frame) c.requires.fits

pub matches-smaller : goal.matches-smaller
matches-smaller g c = rw c.in-Some.is (takes_less c.args.buffer.now c.matches.self c.take-in-Some.new.self c.args.end.node.0 c.in-Some.place (rw c.in-Some.is at c.matches.invariant.may) c.in_ok-next-2.next c.in_ok-next-2.ensures.next)

pub matches-preserved : goal.matches-preserved
matches-preserved g c =
    let frame = c.in_ok-next-2.ensures.frame in
    record {
      frame = frame ∙ ap (λ (x : Taken). record x { below = c.take-in-Some.new.self.below; waiting = c.take-in-Some.new.self.waiting }) c.matches.invariant.frame;
      may = may_later c.args.buffer.now c.matches.self c.take-in-Some.new.self c.args.end.node.0 (ap (λ (x : Taken). x.steps) frame) c.in-Some.place (rw c.in-Some.is at c.matches.invariant.may) c.in_ok-next-2.next c.in_ok-next-2.ensures.next;
      goes = side_goes c.args.buffer.now c.args.self.now c.matches.self c.args.end.node.0 c.args.end.hand c.args.compared.now c.matches.compared c.take.new.self c.in-Some.place (rw c.in-Some.is at c.matches.invariant.goes)
          c.in_ok-bytes.bytes.now c.in_ok-bytes.ensures.value c.in_ok-take.ensures (rw c.if-found.false at c.found.ensures) (ap (λ (x : Taken). x.steps) c.matches.invariant.frame) c.take-in-Some.new.self c.in_ok-next-2.next c.in_ok-next-2.ensures.next;
    }

pub returns-clause-values : goal.returns-clause-values
returns-clause-values g c = side_ends c.args.buffer.now c.args.self.now c.matches.self c.args.end.node.0 c.args.end.hand c.args.compared.now c.matches.compared (rw c.in_default.is at c.matches.invariant.goes)
