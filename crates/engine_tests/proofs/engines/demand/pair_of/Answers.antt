use Rattle.std.proofs.Common.{[]}
use Rattle.gcx_model.specs.Past.{opening_past}
use Rattle.gcx_model.specs.PlanView.{plan_tree}
use Rattle.run_part.proofs.Making.{actors_begin}
use Rattle.engine_tests.proofs.Demand.{Always}
use Rattle.engine_tests.proofs.engines.demand.pair_of.Goals as goal

pub new_spread-requires-clause-given : goal.new_spread-requires-clause-given
new_spread-requires-clause-given c =
    let q = c.requires.placed in
    c.in_ok-given.ensures (opening_past (plan_tree c.args.plan.now)) (c.in_ok-projector.ensures.stands q.0 q.1 q.2)

pub returns : goal.returns
returns c =
    let plan = plan_tree c.args.plan.now in
    let q = c.requires.placed in
    let p = c.in_ok-projector.projector in
    let v = c.in_ok-buffer.buffer in
    let started = c.in_ok-buffer.ensures.started in
    let stands = c.in_ok-buffer.ensures.stands in
    record {
      plan = plan;
      fed = [];
      taken = 0;
      stand = actors_begin plan Always p c.in_ok-machine.machine.position v c.in_ok-given.given (c.in_ok-projector.ensures.stands q.0 q.1 q.2) (c.in_ok-projector.ensures.place v c.in_ok-given.given started) started stands
          (c.in_ok-machine.ensures.stands v stands) tt;
      may = c.in_ok-tokens.ensures.comes;
      within = c.in_ok-tokens.ensures.within;
    }
