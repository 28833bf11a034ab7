use Rattle.std.proofs.Common.{◌∙◌, ◌++◌, false, length, refl}
use Rattle.gcx_model.specs.Seen.{seen_tree}
use Rattle.outside.specs.Places.{Few}
use Rattle.run_part.specs.Actors.{all_of}
use Rattle.run_part.specs.FlowLaws.{none_apart}
use Rattle.run_part.specs.Flows.{ActsFlows, ActsSomeFlows, FewBoth, flow_at, none_seen}
use Rattle.run_part.specs.Late.{BreaksGroupLate, EndsGroupLate}
use Rattle.run_part.specs.declared.pace.Work.{Work}
use Rattle.run_part.proofs.Acting.{on_err}
use Rattle.run_part.proofs.LateGroups.{broke_first, group_acted, group_actors, group_broke, group_late, group_quiet}
use Rattle.run_part.proofs.Results.{err_map, ok_map}
use Rattle.run_part.proofs.WithoutLines.{acts_alone, alone, few_none, may_alone, some_alone}
use Rattle.run_part.proofs.pace.Work.end_group.Goals as goal

-- ---- they were quiet

pub returns-then-quiet-clause-ends : goal.returns-then-quiet-clause-ends
returns-then-quiet-clause-ends g c = λ plan ahead at ts us may come f.
    group_quiet c.args.bytes.now g.C.Conds.stands plan ahead at c.args.self.now.actors ts us c.args.quiet may come f c.if-quiet.true (flow_at (g.O.Outside.sinks c.args.to.now) c.args.place c.args.self.now.out.items)

pub returns-then-quiet-clause-few : goal.returns-then-quiet-clause-few
returns-then-quiet-clause-few g c = c.requires.few

pub returns-then-quiet-clause-others : goal.returns-then-quiet-clause-others
returns-then-quiet-clause-others g c = λ k far. refl

pub returns-then-quiet-clause-writes : goal.returns-then-quiet-clause-writes
returns-then-quiet-clause-writes g c = g.met.O.Outside.writes_same c.args.to.now

-- ---- the rows are made

pub settle-requires : goal.settle-requires
settle-requires g c =
    let s = c.requires.some in
    group_late c.args.bytes.now g.C.Conds.stands s.plan s.ahead s.at c.args.self.now.actors s.given s.group c.args.quiet s.may s.come s.fed

pub returns-in_err-settle-clause-breaks : goal.returns-in_err-settle-clause-breaks
returns-in_err-settle-clause-breaks g c =
    let w = flow_at (g.O.Outside.sinks c.args.to.now) c.args.place c.args.self.now.out.items in
    let d = c.settle.new.self in
    let h : BreaksGroupLate c.args.bytes.now g.C.Conds.stands c.args.self.now.actors d c.args.quiet w w = λ plan ahead at ts us may come f.
    broke_first c.args.bytes.now g.C.Conds.stands plan ahead d ts us w may (c.in_err-settle.ensures.balance plan (seen_tree (ts ++ us)) (all_of plan (seen_tree ts)) f.actors f.counts.given) in
    on_err _ _ h

pub returns-in_err-settle-clause-others : goal.returns-in_err-settle-clause-others
returns-in_err-settle-clause-others g c = λ k far. refl

pub returns-in_err-settle-clause-writes : goal.returns-in_err-settle-clause-writes
returns-in_err-settle-clause-writes g c = g.met.O.Outside.writes_same c.args.to.now

-- ---- every action is taken, or some of them

pub act_all_told-requires-clause-some : goal.act_all_told-requires-clause-some
act_all_told-requires-clause-some g c =
    let s = c.requires.some in
    group_actors c.args.bytes.now g.C.Conds.stands s.plan s.ahead s.at c.args.self.now.actors s.given s.group c.args.quiet s.may s.come s.fed c.settle.new.self c.in_ok-settle.ensures.settles c.settle.ensures.counts

pub act_all_told-requires-clause-places : goal.act_all_told-requires-clause-places
act_all_told-requires-clause-places g c = may_alone g.O.Outside.may c.args.to.now c.args.place c.requires.place

pub act_all_told-requires-clause-few : goal.act_all_told-requires-clause-few
act_all_told-requires-clause-few g c = (c.requires.few, few_none (g.O.Outside.most c.args.to.now false))

pub returns-clause-ends : goal.returns-clause-ends
returns-clause-ends g c =
    let sinks = g.O.Outside.sinks in
    let v = c.args.to.now in
    let z = c.act_all_told.new.to in
    let p = c.args.place in
    let now = c.act_all_told.new.lines.place in
    let old = c.args.self.now in
    let s = c.settle.new.self in
    let mid : Work g.row.N.Denot g.row.C.Denot = record { actors = s; out = old.out; ahead = old.ahead } in
    let n = c.act_all_told.new.self in
    let u = flow_at (sinks v) p old.out.items in
    let w = flow_at (sinks z) p n.out.items in
    let leaves = c.act_all_told.ensures.leaves in
    let from : ActsFlows g.C.Conds.stands false (alone sinks p mid v) (alone sinks now n z) → EndsGroupLate c.args.bytes.now g.C.Conds.stands old.actors n.actors c.args.quiet u w = λ acts plan ahead at ts us may come f.
    group_acted c.args.bytes.now g.C.Conds.stands plan ahead at old.actors ts us c.args.quiet may come f s c.in_ok-settle.ensures.settles c.settle.ensures.counts n.actors u w leaves.actors.counts leaves.actors.most
    (acts_alone g.C.Conds.stands sinks mid n v z p now leaves.places.output_is acts) in
    ok_map c.act_all_told.result from c.act_all_told.ensures.acts

pub returns-clause-breaks : goal.returns-clause-breaks
returns-clause-breaks g c =
    let sinks = g.O.Outside.sinks in
    let v = c.args.to.now in
    let z = c.act_all_told.new.to in
    let p = c.args.place in
    let now = c.act_all_told.new.lines.place in
    let old = c.args.self.now in
    let s = c.settle.new.self in
    let mid : Work g.row.N.Denot g.row.C.Denot = record { actors = s; out = old.out; ahead = old.ahead } in
    let n = c.act_all_told.new.self in
    let u = flow_at (sinks v) p old.out.items in
    let w = flow_at (sinks z) p n.out.items in
    let leaves = c.act_all_told.ensures.leaves in
    let from : ActsSomeFlows g.C.Conds.stands false (alone sinks p mid v) (alone sinks now n z) → BreaksGroupLate c.args.bytes.now g.C.Conds.stands old.actors n.actors c.args.quiet u w = λ acts plan ahead at ts us may come f.
    group_broke c.args.bytes.now g.C.Conds.stands plan ahead at old.actors ts us c.args.quiet may come f s c.in_ok-settle.ensures.settles c.settle.ensures.counts n.actors u w leaves.actors.counts
    (some_alone g.C.Conds.stands sinks mid n v z p now leaves.places.output_is acts) in
    err_map c.act_all_told.result from c.act_all_told.ensures.some

pub returns-clause-few : goal.returns-clause-few
returns-clause-few g c =
    let most = g.O.Outside.most c.act_all_told.new.to false in
    let out = c.act_all_told.new.self.out.items in
    let from : FewBoth most out (none_seen c.act_all_told.new.lines.place) → Few most (length out) = λ few. few.0 in
    ok_map c.act_all_told.result from c.act_all_told.ensures.few

pub returns-clause-others : goal.returns-clause-others
returns-clause-others g c = λ k far. c.act_all_told.ensures.others k far (none_apart k)

pub returns-clause-ahead : goal.returns-clause-ahead
returns-clause-ahead g c = c.act_all_told.ensures.leaves.ahead_is

pub returns-clause-loans : goal.returns-clause-loans
returns-clause-loans g c = c.act_all_told.ensures.leaves.actors.loans ∙ c.settle.ensures.loans
