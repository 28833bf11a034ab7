use Rattle.std.proofs.Common.{◌≡◌, ◌∙◌, Bool, true, false, ap, refl, rules, subst}
use Rattle.run_part.specs.Actors.{ActsOneFrom}
use Rattle.run_part.specs.Flows.{ActsSomeFlows, Flows, SameOutlets, flows}
use Rattle.run_part.specs.Telling.{TellsAction, lines_to}
use Rattle.run_part.specs.declared.pace.Work.{Work}
use Rattle.run_part.proofs.Acting.{on_err, some_reached}
use Rattle.run_part.proofs.Flowing.{act_flows, act_stays, action_flows, action_stays, front_flows, leaves_on, leaves_spilled, may_moves, others_on, places_on, places_same, some_flows}
use Rattle.run_part.proofs.FlowingActs.{acts_broke, acts_ended, acts_spent, few_still}
use Rattle.run_part.proofs.KeepingOrder.{keeps_acted, keeps_left, keeps_waiting}
use Rattle.run_part.proofs.TellingActs.{told_none, told_on, told_there}
use Rattle.run_part.proofs.pace.Work.act_all_told.Goals as goal

-- ---- what the calls ask

pub act_told-requires-clause-some : goal.act_told-requires-clause-some
act_told-requires-clause-some g c =
    let m = c.requires.some in
    let x : Flows g.row.C.Denot = flows g.L.Lines.seen g.O.Outside.sinks (c.args.self.now, c.args.lines.now, c.args.to.now) in
    let w : Flows g.row.C.Denot = flows g.L.Lines.seen g.O.Outside.sinks (c.actions.self, c.actions.lines, c.actions.to) in
    some_reached g.C.Conds.stands x.actors w.actors x.out w.out m (c.actions.invariant.reached m.plan m.tree m.taken m.of).reached

pub act_told-requires-clause-few : goal.act_told-requires-clause-few
act_told-requires-clause-few g c = c.actions.invariant.few

pub spill-requires : goal.spill-requires
spill-requires g c =
    let inv = c.actions.invariant in
    let l = g.L.Lines.seen c.args.lines.now in
    let m = g.L.Lines.seen c.actions.lines in
    let n = g.L.Lines.seen c.act_told.new.lines in
    may_moves g.O.Outside.may g.met.O.Outside.keeps_may g.met.O.Outside.writes_keeps c.args.to.now c.actions.to l n (places_on l m n inv.leaves.places c.act_told.ensures.places) inv.writes c.requires.places

-- ---- the loop

pub actions-init : goal.actions-init
actions-init g c =
    let old = c.args.self.now in
    let l = c.args.lines.now in
    let t = c.args.to.now in
    let x : Flows g.row.C.Denot = flows g.L.Lines.seen g.O.Outside.sinks (old, l, t) in
    record {
      reached = λ plan P k h. told_none g.C.Conds.stands plan g.L.Lines.wanted x.actors P k x.out x.trace h;
      order = λ none wanted plan P k h. keeps_waiting g.L.Lines.seen g.O.Outside.sinks old l t old l (lines_to plan P k k) (places_same (g.L.Lines.seen l));
      few = c.requires.few;
      others = λ k far off. refl;
      leaves = record { actors = record { projector = refl; counts = refl; most = refl; loans = refl }; ahead_is = refl; places = places_same (g.L.Lines.seen l) };
      writes = g.met.O.Outside.writes_same t;
    }

pub actions-preserved : goal.actions-preserved
actions-preserved g c =
    let inv = c.actions.invariant in
    let s = c.spill.ensures in
    let stands = g.C.Conds.stands in
    let seen = g.L.Lines.seen in
    let sinks = g.O.Outside.sinks in
    let old = c.args.self.now in
    let l0 = c.args.lines.now in
    let t0 = c.args.to.now in
    let mid = c.actions.self in
    let l1 = c.actions.lines in
    let t1 = c.actions.to in
    let one : Work g.row.N.Denot g.row.C.Denot = record { actors = c.act_told.new.self; out = c.act_told.new.out; ahead = mid.ahead } in
    let l2 = c.act_told.new.lines in
    let new = c.spill.new.self in
    let l3 = c.spill.new.lines in
    let t3 = c.spill.new.to in
    let x : Flows g.row.C.Denot = flows seen sinks (old, l0, t0) in
    let w : Flows g.row.C.Denot = flows seen sinks (mid, l1, t1) in
    let y : Flows g.row.C.Denot = flows seen sinks (one, l2, t1) in
    let z : Flows g.row.C.Denot = flows seen sinks (new, l3, t3) in
    let same : SameOutlets (seen l1) (seen l2) = c.act_told.ensures.places in
    let more : c.in_ok-act_told.field-0 ≡ true = search rules in
    let acted : ActsOneFrom stands w.actors y.actors w.out y.out true = act_flows stands seen sinks mid l1 t1 one l2 same true
    (subst (λ (b : Bool). ActsOneFrom stands mid.actors one.actors mid.out.items one.out.items b) more c.in_ok-act_told.ensures.acts) in
    let told : g.L.Lines.wanted ≡ true → TellsAction stands w.actors w.trace y.trace true = λ e. action_flows stands seen sinks mid l1 t1 one l2 same true
    (subst (λ (b : Bool). TellsAction stands mid.actors (seen l1).waits (seen l2).waits b) more (c.in_ok-act_told.ensures.told e)) in
    let is : z.actors ≡ y.actors = ap (λ (q : Work g.row.N.Denot g.row.C.Denot). q.actors) s.rest in
    record {
      reached = λ plan P k h.
          let r = inv.reached plan P k h in
          told_on stands plan g.L.Lines.wanted w.actors P k x.out w.out x.trace w.trace r z.actors z.out z.trace
          (act_stays stands w y z s.flows is true acted plan P r.reached.taken r.reached.actors)
          (λ e. action_stays stands w y z s.flows true (told e) plan P r.reached.taken r.reached.actors);
      order = λ none wanted plan P k h.
          let r = inv.reached plan P k h in
          let j = r.reached.taken in
          let u = told_on stands plan g.L.Lines.wanted w.actors P k x.out w.out x.trace w.trace r y.actors y.out y.trace (acted plan P j r.reached.actors) (λ e. told e plan P j r.reached.actors) in
          let still = g.met.O.Outside.keeps_most t0 t1 true (g.met.O.Outside.writes_keeps t0 t1 inv.writes) in
          keeps_acted seen sinks plan P k j r.behind old l0 t0 mid l1 t1 (inv.order none wanted plan P k h) one l2 same u.reached.goes (u.told wanted) new l3 t3 (s.order (still ∙ none));
      few = s.few;
      others = others_on (seen l0) (seen l2) (sinks t0) (sinks t1) (sinks t3) (places_on (seen l0) (seen l1) (seen l2) inv.leaves.places same) inv.others s.others;
      leaves = leaves_on old one new (seen l0) (seen l2) (seen l3)
          (leaves_on old mid one (seen l0) (seen l1) (seen l2) inv.leaves (record { actors = c.act_told.ensures.alone; ahead_is = refl; places = same }))
          (leaves_spilled one new (seen l2) (seen l3) s.rest s.places);
      writes = g.met.O.Outside.writes_on t0 t1 t3 inv.writes s.writes;
    }

-- ---- no action is left

pub returns-then-not-branch-clause-acts : goal.returns-then-not-branch-clause-acts
returns-then-not-branch-clause-acts g c =
    let stands = g.C.Conds.stands in
    let seen = g.L.Lines.seen in
    let sinks = g.O.Outside.sinks in
    let mid = c.actions.self in
    let l1 = c.actions.lines in
    let t1 = c.actions.to in
    let one : Work g.row.N.Denot g.row.C.Denot = record { actors = c.act_told.new.self; out = c.act_told.new.out; ahead = mid.ahead } in
    let l2 = c.act_told.new.lines in
    let x : Flows g.row.C.Denot = flows seen sinks (c.args.self.now, c.args.lines.now, c.args.to.now) in
    let w : Flows g.row.C.Denot = flows seen sinks (mid, l1, t1) in
    let y : Flows g.row.C.Denot = flows seen sinks (one, l2, t1) in
    let same : SameOutlets (seen l1) (seen l2) = c.act_told.ensures.places in
    let none : c.in_ok-act_told.field-0 ≡ false = search rules in
    acts_ended stands g.L.Lines.wanted x w c.actions.invariant.reached y
    (act_flows stands seen sinks mid l1 t1 one l2 same false (subst (λ (b : Bool). ActsOneFrom stands mid.actors one.actors mid.out.items one.out.items b) none c.in_ok-act_told.ensures.acts))
    (λ e. action_flows stands seen sinks mid l1 t1 one l2 same false (subst (λ (b : Bool). TellsAction stands mid.actors (seen l1).waits (seen l2).waits b) none (c.in_ok-act_told.ensures.told e)))

pub returns-then-not-branch-clause-few : goal.returns-then-not-branch-clause-few
returns-then-not-branch-clause-few g c =
    let stands = g.C.Conds.stands in
    let seen = g.L.Lines.seen in
    let inv = c.actions.invariant in
    let mid = c.actions.self in
    let l1 = c.actions.lines in
    let out = c.act_told.new.out.items in
    let d = c.act_told.new.self in
    let l2 = c.act_told.new.lines in
    let m = c.requires.some in
    let r = (inv.reached m.plan m.tree m.taken m.of).reached in
    let none : c.in_ok-act_told.field-0 ≡ false = search rules in
    let one : ActsOneFrom stands mid.actors d mid.out.items out false = subst (λ (b : Bool). ActsOneFrom stands mid.actors d mid.out.items out b) none c.in_ok-act_told.ensures.acts in
    let told : g.L.Lines.wanted ≡ true → TellsAction stands mid.actors (seen l1).waits (seen l2).waits false
    = λ e. subst (λ (b : Bool). TellsAction stands mid.actors (seen l1).waits (seen l2).waits b) none (c.in_ok-act_told.ensures.told e) in
    few_still (g.O.Outside.most c.actions.to false) g.L.Lines.wanted mid.out.items out (seen l1) (seen l2)
    (one m.plan m.tree r.taken r.actors).2
    (λ e. told e m.plan m.tree r.taken r.actors) (g.met.L.Lines.none_wait l1) (g.met.L.Lines.none_wait l2) inv.few

pub returns-then-not-branch-clause-order : goal.returns-then-not-branch-clause-order
returns-then-not-branch-clause-order g c = λ none wanted plan P k h.
    let stands = g.C.Conds.stands in
    let seen = g.L.Lines.seen in
    let sinks = g.O.Outside.sinks in
    let inv = c.actions.invariant in
    let old = c.args.self.now in
    let mid = c.actions.self in
    let one : Work g.row.N.Denot g.row.C.Denot = record { actors = c.act_told.new.self; out = c.act_told.new.out; ahead = mid.ahead } in
    let x : Flows g.row.C.Denot = flows seen sinks (old, c.args.lines.now, c.args.to.now) in
    let w : Flows g.row.C.Denot = flows seen sinks (mid, c.actions.lines, c.actions.to) in
    let r = inv.reached plan P k h in
    keeps_left seen sinks plan P k r.reached.taken r.behind old c.args.lines.now c.args.to.now mid c.actions.lines c.actions.to (inv.order none wanted plan P k h)
    (told_there stands plan g.L.Lines.wanted w.actors P k x.out w.out x.trace w.trace r) one c.act_told.new.lines c.act_told.ensures.places

pub returns-then-not-branch-clause-leaves : goal.returns-then-not-branch-clause-leaves
returns-then-not-branch-clause-leaves g c =
    let seen = g.L.Lines.seen in
    let mid = c.actions.self in
    let one : Work g.row.N.Denot g.row.C.Denot = record { actors = c.act_told.new.self; out = c.act_told.new.out; ahead = mid.ahead } in
    leaves_on c.args.self.now mid one (seen c.args.lines.now) (seen c.actions.lines) (seen c.act_told.new.lines) c.actions.invariant.leaves
    (record { actors = c.act_told.ensures.alone; ahead_is = refl; places = c.act_told.ensures.places })

-- ---- memory ran out in an action

pub returns-in_err-act_told-clause-some : goal.returns-in_err-act_told-clause-some
returns-in_err-act_told-clause-some g c =
    let stands = g.C.Conds.stands in
    let seen = g.L.Lines.seen in
    let sinks = g.O.Outside.sinks in
    let mid = c.actions.self in
    let l1 = c.actions.lines in
    let t1 = c.actions.to in
    let one : Work g.row.N.Denot g.row.C.Denot = record { actors = c.act_told.new.self; out = c.act_told.new.out; ahead = mid.ahead } in
    let l2 = c.act_told.new.lines in
    let x : Flows g.row.C.Denot = flows seen sinks (c.args.self.now, c.args.lines.now, c.args.to.now) in
    let w : Flows g.row.C.Denot = flows seen sinks (mid, l1, t1) in
    let y : Flows g.row.C.Denot = flows seen sinks (one, l2, t1) in
    let same : SameOutlets (seen l1) (seen l2) = c.act_told.ensures.places in
    let h : ActsSomeFlows stands g.L.Lines.wanted x y = acts_broke stands g.L.Lines.wanted x w c.actions.invariant.reached y
    (some_flows stands seen sinks mid l1 t1 one l2 same c.in_err-act_told.ensures.some)
    (λ e. front_flows stands seen sinks mid l1 t1 one l2 same (c.in_err-act_told.ensures.part e)) in
    on_err _ _ h

pub returns-in_err-act_told-clause-order : goal.returns-in_err-act_told-clause-order
returns-in_err-act_told-clause-order g c = λ none wanted plan P k h.
    let stands = g.C.Conds.stands in
    let seen = g.L.Lines.seen in
    let sinks = g.O.Outside.sinks in
    let inv = c.actions.invariant in
    let old = c.args.self.now in
    let mid = c.actions.self in
    let one : Work g.row.N.Denot g.row.C.Denot = record { actors = c.act_told.new.self; out = c.act_told.new.out; ahead = mid.ahead } in
    let x : Flows g.row.C.Denot = flows seen sinks (old, c.args.lines.now, c.args.to.now) in
    let w : Flows g.row.C.Denot = flows seen sinks (mid, c.actions.lines, c.actions.to) in
    let r = inv.reached plan P k h in
    keeps_left seen sinks plan P k r.reached.taken r.behind old c.args.lines.now c.args.to.now mid c.actions.lines c.actions.to (inv.order none wanted plan P k h)
    (told_there stands plan g.L.Lines.wanted w.actors P k x.out w.out x.trace w.trace r) one c.act_told.new.lines c.act_told.ensures.places

pub returns-in_err-act_told-clause-leaves : goal.returns-in_err-act_told-clause-leaves
returns-in_err-act_told-clause-leaves g c =
    let seen = g.L.Lines.seen in
    let mid = c.actions.self in
    let one : Work g.row.N.Denot g.row.C.Denot = record { actors = c.act_told.new.self; out = c.act_told.new.out; ahead = mid.ahead } in
    leaves_on c.args.self.now mid one (seen c.args.lines.now) (seen c.actions.lines) (seen c.act_told.new.lines) c.actions.invariant.leaves
    (record { actors = c.act_told.ensures.alone; ahead_is = refl; places = c.act_told.ensures.places })

-- ---- no more turns are left

pub returns-clause-some : goal.returns-clause-some
returns-clause-some g c =
    let x : Flows g.row.C.Denot = flows g.L.Lines.seen g.O.Outside.sinks (c.args.self.now, c.args.lines.now, c.args.to.now) in
    let w : Flows g.row.C.Denot = flows g.L.Lines.seen g.O.Outside.sinks (c.actions.self, c.actions.lines, c.actions.to) in
    acts_spent g.C.Conds.stands g.L.Lines.wanted x w c.actions.invariant.reached

pub returns-clause-order : goal.returns-clause-order
returns-clause-order g c = λ none wanted plan P k h.
    let stands = g.C.Conds.stands in
    let seen = g.L.Lines.seen in
    let sinks = g.O.Outside.sinks in
    let inv = c.actions.invariant in
    let old = c.args.self.now in
    let mid = c.actions.self in
    let x : Flows g.row.C.Denot = flows seen sinks (old, c.args.lines.now, c.args.to.now) in
    let w : Flows g.row.C.Denot = flows seen sinks (mid, c.actions.lines, c.actions.to) in
    let r = inv.reached plan P k h in
    keeps_left seen sinks plan P k r.reached.taken r.behind old c.args.lines.now c.args.to.now mid c.actions.lines c.actions.to (inv.order none wanted plan P k h)
    (told_there stands plan g.L.Lines.wanted w.actors P k x.out w.out x.trace w.trace r) mid c.actions.lines (places_same (seen c.actions.lines))
