use Rattle.std.proofs.Common.{◌≡◌, ◌+◌, ◌≤◌, [], ◌∷◌, ◌++◌, get_or, length, map, take, refl, sym, ◌∙◌, arith, rules}
use Rattle.std.proofs.lemmas.List.{append-nil, take_more}
use Rattle.gcx_model.specs.PlanView.{plan_tree}
use Rattle.gcx_model.specs.Turning.{turned}
use Rattle.doc_reader.specs.Standing.{said_of}
use Rattle.engine.specs.Turns.{turns_of, written}
use Rattle.engine.specs.declared.turns.Turn.{Turn as CodeTurn}
use Rattle.engine.specs.declared.turns.Turn.TheVariants as code
use Rattle.engine.proofs.CallsOfTurns.{on_err_any}
use Rattle.engine.proofs.Reporting.{few_in_tree}
use Rattle.engine.proofs.TurnsFed.{turns_on, turns_reach, turns_within}
use Rattle.engine.proofs.turns.interleave.Goals as goal

pub returns-in_err-course-clause-err : goal.returns-in_err-course-clause-err
returns-in_err-course-clause-err g c =
    let w = written (plan_tree c.args.plan.now) (map said_of c.args.tokens.items) c.args.turns.now in
    on_err_any c.from_residual.result ([], w, refl, sym (append-nil c.args.out.now.items))

pub returns-in_err-turn-clause-err : goal.returns-in_err-turn-clause-err
returns-in_err-turn-clause-err g c =
    let h = c.loop-turn.invariant.turned in
    let f = turns_within (plan_tree c.args.plan.now) (map said_of c.args.tokens.items) c.requires.tokens c.args.turns.now c.loop-turn.turn-index c.args.out.now.items c.loop-turn.out.items h.goes in
    on_err_any c.from_residual-in_err-turn.result (f.0, f.1, f.2, c.in_err-turn.ensures.err ∙ f.3)

pub loop-turn-preserved : goal.loop-turn-preserved
loop-turn-preserved g c =
    let plan = plan_tree c.args.plan.now in
    let ts = map said_of c.args.tokens.items in
    let us = c.args.turns.now in
    let k = c.loop-turn.turn-index in
    let h = c.loop-turn.invariant.turned in
    let t : CodeTurn = get_or us k code.Feed in
    let more : take (k + 1) us ≡ take k us ++ t ∷ [] = take_more us k code.Feed c.loop-turn-test.true in
    let few = c.loop-turn.invariant.few in
    let one = c.in_ok-turn.ensures.acted in
    record {
      turned = turns_on plan ts c.requires.tokens us k g.C.Conds.stands c.loop-turn.course c.turn.new.self c.args.out.now.items c.loop-turn.out.items c.turn.new.out.items t more h
          (c.in_ok-turn.ensures.turns plan ts (turned plan ts (turns_of (take k us))) h.reaches);
      few = omega arith;
    }

pub returns-clause-reached : goal.returns-clause-reached
returns-clause-reached g c =
    let h = c.loop-turn.invariant.turned in
    let l : length c.args.turns.now ≤ c.loop-turn.turn-index = search rules in
    c.reached.ensures (plan_tree c.args.plan.now) (map said_of c.args.tokens.items) (turned (plan_tree c.args.plan.now) (map said_of c.args.tokens.items) (turns_of c.args.turns.now))
    (few_in_tree c.args.plan.now c.few_roles.ensures)
    (turns_reach (plan_tree c.args.plan.now) (map said_of c.args.tokens.items) c.requires.tokens c.args.turns.now c.loop-turn.turn-index g.C.Conds.stands c.loop-turn.course l h.reaches)
