use Rattle.std.proofs.Common.{sym, ◌∙◌, ap, subst}
use Rattle.std.proofs.lemmas.Bool.{false≢true}
use Rattle.cond_memo.specs.Waiting.{Fits}
use Rattle.cond_memo.specs.declared.taken.Taken.{Taken}
use Rattle.cond_memo.proofs.UntakenRows.{at_used}
use Rattle.cond_memo.proofs.Takings.{may_found, may_later, takes_less, takes_on, takes_start}
use Rattle.join_index.specs.Index.{NoneListed}
use Rattle.join_index.proofs.Looking.{looks_found, looks_over, none_more}
use Rattle.join_index.proofs.equality.look_up.Goals as goal

pub matches-init : goal.matches-init
matches-init g c =
    let v = c.args.buffer.now in
    let k = c.args.seen.now in
    let l = c.next.new.self in
    record {
      rest = c.in_ok-next.ensures.frame;
      may = may_found v k l c.args.node.0 (ap (λ (s : Taken). s.steps) c.in_ok-next.ensures.frame) c.requires.may c.in_ok-next.next c.in_ok-next.ensures.next;
      looks = takes_start v k l c.args.node.0 (λ vs. NoneListed vs c.args.values.now) c.in_ok-next.next c.in_ok-next.ensures.next;
    }

pub value-requires : goal.value-requires
value-requires g c = at_used c.args.buffer.now c.matches.seen c.args.node.0 c.in-Some.place.0 (rw c.in-Some.is at c.matches.invariant.may)

pub returns-then-contains-clause-told : goal.returns-then-contains-clause-told
returns-then-contains-clause-told g c =
    looks_found c.args.buffer.now c.args.node.0 c.args.values.now c.args.seen.now c.matches.seen c.in-Some.place (rw c.in-Some.is at c.matches.invariant.looks) c.in_ok-bytes.bytes.now c.in_ok-bytes.ensures.value
    (c.contains.ensures.found.0 c.if-contains.true)

pub take-requires-clause-may : goal.take-requires-clause-may
take-requires-clause-may g c = rw c.in-Some.is at c.matches.invariant.may

pub take-requires-clause-fits : goal.take-requires-clause-fits
take-requires-clause-fits g c = subst (λ (s : Taken). Fits s.steps s.last) (sym c.matches.invariant.rest) c.requires.fits

pub matches-smaller : goal.matches-smaller
matches-smaller g c =
    rw c.in-Some.is (takes_less c.args.buffer.now c.matches.seen c.take.new.self c.args.node.0 c.in-Some.place (rw c.in-Some.is at c.matches.invariant.may) c.in_ok-next-2.next c.in_ok-next-2.ensures.next)

pub matches-preserved : goal.matches-preserved
matches-preserved g c =
    let v = c.args.buffer.now in
    let p = c.args.node.0 in
    let list = c.args.values.now in
    let k = c.matches.seen in
    let l = c.take.new.self in
    let q = c.in-Some.place in
    let next = c.in_ok-next-2.next in
    let rest = c.matches.invariant.rest in
    let frame = c.in_ok-next-2.ensures.frame in
    let w = c.in_ok-bytes.bytes.now in
    record {
      rest = frame ∙ ap (λ (s : Taken). record s { below = l.below; waiting = l.waiting }) rest;
      may = may_later v k l p (ap (λ (s : Taken). s.steps) frame) q (rw c.in-Some.is at c.matches.invariant.may) next c.in_ok-next-2.ensures.next;
      looks = takes_on v c.args.seen.now k p (λ vs. NoneListed vs list) (λ vs. NoneListed vs list) q (rw c.in-Some.is at c.matches.invariant.looks) w c.in_ok-bytes.ensures.value (ap (λ (s : Taken). s.steps) rest) l next
          c.in_ok-next-2.ensures.next (λ vs. NoneListed vs list) (none_more list w (λ i. false≢true (sym c.if-contains.false ∙ c.contains.ensures.found.1 i)));
    }

pub returns-clause-told : goal.returns-clause-told
returns-clause-told g c = looks_over c.args.buffer.now c.args.node.0 c.args.values.now c.args.seen.now c.matches.seen (rw c.in_default.is at c.matches.invariant.looks)
