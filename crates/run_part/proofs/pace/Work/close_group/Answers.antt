use Rattle.std.proofs.Common.{refl}
use Rattle.run_part.specs.Flows.{flow_at}
use Rattle.run_part.specs.Late.{BreaksAmong}
use Rattle.run_part.proofs.Acting.{on_err}
use Rattle.run_part.proofs.LateGroups.{among_breaks, among_closed, among_ended, among_some}
use Rattle.run_part.proofs.pace.Work.close_group.Goals as goal

pub end_group-requires-clause-some : goal.end_group-requires-clause-some
end_group-requires-clause-some g c =
    let s = c.requires.some in
    let v = flow_at (g.O.Outside.sinks c.args.to.now) c.args.groups.place c.args.self.now.out.items in
    among_some c.args.bytes.now g.C.Conds.stands s.plan c.args.groups.ahead s.first c.args.self.now.actors s.given s.all s.rest s.before v c.args.group.left c.args.group.quiet s.may s.come s.of

pub returns-in_err-end_group-clause-breaks : goal.returns-in_err-end_group-clause-breaks
returns-in_err-end_group-clause-breaks g c =
    let v = flow_at (g.O.Outside.sinks c.args.to.now) c.args.groups.place c.args.self.now.out.items in
    let w = flow_at (g.O.Outside.sinks c.end_group.new.to) c.args.groups.place c.end_group.new.self.out.items in
    let d = c.end_group.new.self.actors in
    let h : BreaksAmong c.args.bytes.now g.C.Conds.stands c.args.groups.ahead c.args.self.now.actors d c.args.group.left c.args.group.quiet v w = λ plan first ts all rest before may come a.
    among_breaks c.args.bytes.now g.C.Conds.stands plan c.args.groups.ahead first c.args.self.now.actors ts all rest before v c.args.group.left c.args.group.quiet may come a d w c.in_err-end_group.ensures.breaks in
    on_err _ _ h

-- ---- the next group begins

pub returns-then-group-eq0-clause-keeps : goal.returns-then-group-eq0-clause-keeps
returns-then-group-eq0-clause-keeps g c = λ plan first ts all rest before may come a.
    let v = flow_at (g.O.Outside.sinks c.args.to.now) c.args.groups.place c.args.self.now.out.items in
    let w = flow_at (g.O.Outside.sinks c.end_group.new.to) c.args.groups.place c.end_group.new.self.out.items in
    let d = c.end_group.new.self.actors in
    among_closed c.args.bytes.now g.C.Conds.stands plan c.args.groups.ahead first c.args.self.now.actors ts all rest before v c.args.group.left c.args.group.quiet may come a d w
    (among_ended c.args.bytes.now g.C.Conds.stands plan c.args.groups.ahead first c.args.self.now.actors ts all rest before v c.args.group.left c.args.group.quiet may come a d w c.in_ok-end_group.ensures.ends)

pub returns-then-group-eq0-clause-few : goal.returns-then-group-eq0-clause-few
returns-then-group-eq0-clause-few g c = c.in_ok-end_group.ensures.few

-- ---- or it goes on

pub returns-clause-keeps : goal.returns-clause-keeps
returns-clause-keeps g c = λ plan first ts all rest before may come a. a

pub returns-clause-few : goal.returns-clause-few
returns-clause-few g c = c.requires.few

pub returns-clause-others : goal.returns-clause-others
returns-clause-others g c = λ k far. refl

pub returns-clause-writes : goal.returns-clause-writes
returns-clause-writes g c = g.met.O.Outside.writes_same c.args.to.now
