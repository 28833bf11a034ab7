use Rattle.std.proofs.Common.{◌≡◌, ◌∙◌, ◌<◌, ◌≤◌, length, slice_get, rules, sym, subst, arith}
use Rattle.run_part.specs.Late.{said_lent}
use Rattle.run_part.proofs.Acting.{on_err}
use Rattle.run_part.proofs.Nowhere.{may_nowhere, some_nowhere, takes_nowhere}
use Rattle.run_part.specs.Part.{PartTakesSome, PartTakes}
use Rattle.run_part.specs.View.{PartView}
use Rattle.many_run.proofs.Breaking.{some_of_all, some_of_none}
use Rattle.many_run.proofs.Walking.{some_is, stopped, there_is, walked_all, walked_none, walked_on}
use native.Mathlib.Numerals.{unary_clauses}
use Rattle.many_run.proofs.many.feed_parts.Goals as goal

pub parts-init : goal.parts-init
parts-init g c = walked_none c.args.parts.now.items (λ p q. PartTakes g.C.Conds.stands p q (said_lent c.args.bytes.now c.args.tokens.now))

pub take-requires-clause-may : goal.take-requires-clause-may
take-requires-clause-may g c =
    let k = c.parts.index in
    let x = c.index_mut.result.now in
    let t = c.parts-test.true in
    let n : c.len.result ≡ length c.parts.parts.items = search rules in
    let l : k < length c.parts.parts.items = omega (arith, t, n) in
    let here = there_is c.parts.parts.items k x l c.index_mut.ensures.value in
    may_nowhere g.C.Conds.stands x (said_lent c.args.bytes.now c.args.tokens.now) (c.requires.may k x (sym (c.parts.invariant.others k (omega arith)) ∙ here))

pub take-requires-clause-places : goal.take-requires-clause-places
take-requires-clause-places g c = λ i p e. tt

pub take-requires-clause-few : goal.take-requires-clause-few
take-requires-clause-few g c = (tt, tt)

pub returns-in_err-take-clause-breaks : goal.returns-in_err-take-clause-breaks
returns-in_err-take-clause-breaks g c =
    let said = said_lent c.args.bytes.now c.args.tokens.now in
    let k = c.parts.index in
    let x = c.index_mut.result.now in
    let t = c.parts-test.true in
    let n : c.len.result ≡ length c.parts.parts.items = search rules in
    let l : k < length c.parts.parts.items = omega (arith, t, n) in
    let here = there_is c.parts.parts.items k x l c.index_mut.ensures.value in
    let before = sym (c.parts.invariant.others k (omega arith)) ∙ here in
    on_err _ _
    (stopped c.args.parts.now.items c.parts.parts.items k c.take.new.self l (λ p q. PartTakes g.C.Conds.stands p q said) (λ p q. PartTakesSome g.C.Conds.stands p q said) c.parts.invariant (some_of_all g.C.Conds.stands said) (some_of_none g.C.Conds.stands said)
    (λ p is_p. subst (λ (z : PartView g.row.C.Denot). PartTakesSome g.C.Conds.stands z c.take.new.self said) (some_is (slice_get c.args.parts.now.items k) x p before is_p) (some_nowhere g.C.Conds.stands said c.take.ensures.leaves c.in_err-take.ensures.part)))

pub parts-preserved : goal.parts-preserved
parts-preserved g c =
    let said = said_lent c.args.bytes.now c.args.tokens.now in
    let k = c.parts.index in
    let x = c.index_mut.result.now in
    let t = c.parts-test.true in
    let n : c.len.result ≡ length c.parts.parts.items = search rules in
    let l : k < length c.parts.parts.items = omega (arith, t, n) in
    let here = there_is c.parts.parts.items k x l c.index_mut.ensures.value in
    let before = sym (c.parts.invariant.others k (omega arith)) ∙ here in
    simp unary_clauses (walked_on c.args.parts.now.items c.parts.parts.items k c.take.new.self l (λ p q. PartTakes g.C.Conds.stands p q said) c.parts.invariant
    (λ p is_p. subst (λ (z : PartView g.row.C.Denot). PartTakes g.C.Conds.stands z c.take.new.self said) (some_is (slice_get c.args.parts.now.items k) x p before is_p) (takes_nowhere g.C.Conds.stands said c.take.ensures.leaves c.in_ok-take.ensures.takes)))

pub returns-clause-feeds : goal.returns-clause-feeds
returns-clause-feeds g c =
    let t = c.parts-test.false in
    let n : c.len.result ≡ length c.parts.parts.items = search rules in
    let past : length c.parts.parts.items ≤ c.parts.index = omega (arith, t, n) in
    walked_all c.args.parts.now.items (λ p q. PartTakes g.C.Conds.stands p q (said_lent c.args.bytes.now c.args.tokens.now)) c.parts.parts.items c.parts.index c.parts.invariant past
