use Rattle.std.proofs.Common.{◌+◌, ◌∙◌, List, drop, get_or, refl, subst, sym}
use Rattle.std.proofs.lemmas.List.{drop_all}
use Rattle.buf_tree.specs.View.{View}
use Rattle.projector.specs.declared.passed.PassedName.{PassedName}
use Rattle.projector.specs.Late.{MakesSome, passed_in, passed_of}
use Rattle.projector.proofs.LateRows.{Making, err_holds, make_behind, making_all, making_may, making_more, making_next, making_none, making_some, next_among}
use Rattle.projector.proofs.late.make_rows.Goals as goal

pub loop-element-init : goal.loop-element-init
loop-element-init g c = (making_none (passed_in c.args.bytes.now c.args.passed.now) c.args.buffer.now c.args.at.now c.requires.place c.requires.depth, refl)

pub make_row-requires-clause-place : goal.make_row-requires-clause-place
make_row-requires-clause-place g c = c.loop-element.invariant.0.place

pub make_row-requires-clause-name : goal.make_row-requires-clause-name
make_row-requires-clause-name g c = c.requires.names _ (next_among c.args.passed.now c.loop-element.element-index c.loop-element-test.true)

pub make_row-requires-clause-may : goal.make_row-requires-clause-may
make_row-requires-clause-may g c =
    let b = c.args.bytes.now in
    let xs = c.args.passed.now in
    let k = c.loop-element.element-index in
    making_may (passed_in b xs) (passed_of b (get_or xs k (record { from = 0; to = 0; serial = 0 }))) (passed_in b (drop (k + 1) xs)) c.args.buffer.now c.loop-element.buffer c.loop-element.at c.requires.stands.0 c.requires.stands.1
    (making_next b xs k c.args.buffer.now c.loop-element.buffer c.loop-element.at c.loop-element-test.true c.loop-element.invariant.0)

pub loop-element-preserved : goal.loop-element-preserved
loop-element-preserved g c =
    let b = c.args.bytes.now in
    let xs = c.args.passed.now in
    let k = c.loop-element.element-index in
    let x : PassedName = get_or xs k (record { from = 0; to = 0; serial = 0 }) in
    let m = making_next b xs k c.args.buffer.now c.loop-element.buffer c.loop-element.at c.loop-element-test.true c.loop-element.invariant.0 in
    let may = making_may (passed_in b xs) (passed_of b x) (passed_in b (drop (k + 1) xs)) c.args.buffer.now c.loop-element.buffer c.loop-element.at c.requires.stands.0 c.requires.stands.1 m in (
      making_more (passed_in b xs) (passed_of b x) (passed_in b (drop (k + 1) xs)) c.args.buffer.now c.loop-element.buffer c.make_row.new.buffer c.loop-element.at c.in_ok-place.place m (make_behind c.loop-element.buffer (passed_of b x) may) c.in_ok-place.ensures.opened
          c.in_ok-place.ensures.rests,
      c.make_row.ensures.loans ∙ c.loop-element.invariant.1,
    )

pub returns-in_err-place-clause-err : goal.returns-in_err-place-clause-err
returns-in_err-place-clause-err g c =
    err_holds c.from_residual.result
    (subst (λ (w : View). MakesSome (passed_in c.args.bytes.now c.args.passed.now) c.args.buffer.now w) (sym c.in_err-place.ensures.err)
    (making_some (passed_in c.args.bytes.now c.args.passed.now) (passed_in c.args.bytes.now (drop c.loop-element.element-index c.args.passed.now)) c.args.buffer.now c.loop-element.buffer c.loop-element.at c.loop-element.invariant.0))

pub returns-in_err-place-clause-loans : goal.returns-in_err-place-clause-loans
returns-in_err-place-clause-loans g c = c.make_row.ensures.loans ∙ c.loop-element.invariant.1

pub returns-clause-makes : goal.returns-clause-makes
returns-clause-makes g c =
    making_all (passed_in c.args.bytes.now c.args.passed.now) c.args.buffer.now c.loop-element.buffer c.loop-element.at
    (subst (λ (xs : List PassedName). Making (passed_in c.args.bytes.now c.args.passed.now) (passed_in c.args.bytes.now xs) c.args.buffer.now c.loop-element.buffer c.loop-element.at) (drop_all c.loop-element.element-index c.args.passed.now c.loop-element-test.false) c.loop-element.invariant.0)

pub returns-clause-place : goal.returns-clause-place
returns-clause-place g c = c.loop-element.invariant.0.place

pub returns-clause-loans : goal.returns-clause-loans
returns-clause-loans g c = c.loop-element.invariant.1
