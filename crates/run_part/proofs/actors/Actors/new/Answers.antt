use Rattle.std.proofs.Common.{◌≡◌, ◌<◌, ◌^◌, length, ap, refl, rules, subst, sym, ◌∙◌}
use Rattle.gcx_model.specs.Tree.{Root, opening}
use Rattle.gcx_model.specs.PlanView.{plan_tree}
use Rattle.gcx_model.specs.Held.{roles_given}
use Rattle.gcx_model.specs.Past.{opening_past}
use Rattle.buf_tree.specs.Calls.{numbers}
use Rattle.projector.specs.Projector.{Projects}
use Rattle.run_part.proofs.Making.{actors_begin, given_begin}
use Rattle.run_part.proofs.actors.Actors.new.Goals as goal

pub new_spread-requires-clause-given : goal.new_spread-requires-clause-given
new_spread-requires-clause-given g c =
    let q = c.requires.placed in
    c.requires.given (opening_past (plan_tree c.args.plan.now)) (c.requires.projector.stands q.0 q.1 q.2)

pub returns-clause-begins : goal.returns-clause-begins
returns-clause-begins g c =
    let plan = plan_tree c.args.plan.now in
    let p = c.args.projector in
    let given = c.args.given in
    let v = c.in_ok-buffer.buffer in
    let m = c.in_ok-machine.machine in
    let q = c.requires.placed in
    let projects : Projects p (opening_past plan) = c.requires.projector.stands q.0 q.1 q.2 in
    let roles : numbers given ≡ roles_given plan opening Root = c.requires.given (opening_past plan) projects in
    let started = c.in_ok-buffer.ensures.started in
    let stands = c.in_ok-buffer.ensures.stands in
    let on : g.C.Conds.stands m.conds opening = subst (λ (z : g.row.C.Denot). g.C.Conds.stands z opening) (sym c.in_ok-machine.ensures.conds) c.requires.conds in
    let few : length given < 2 ^ 64 = search rules in
    record {
      at = actors_begin plan (g.C.Conds.stands m.conds) p m.position v given projects (c.requires.projector.place v given started) started stands (c.in_ok-machine.ensures.stands v stands) on;
      peak = refl;
      given = ap length c.items.ensures.same ∙ given_begin plan given few roles;
    }
