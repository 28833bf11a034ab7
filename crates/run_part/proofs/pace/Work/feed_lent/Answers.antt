use Rattle.std.proofs.Common.{◌≡◌, ◌∙◌, ◌+◌, [], length, drop, ap, refl}
use Rattle.std.proofs.lemmas.List.{drop_all}
use Rattle.doc_reader.proofs.Owning.{part_at}
use Rattle.run_part.specs.Flows.{flow_at}
use Rattle.run_part.specs.Late.{BalancesLate, BreaksLent, FeedsLent, SettlesFrom, said_lent}
use Rattle.run_part.proofs.Acting.{on_err}
use Rattle.run_part.proofs.LateGroups.{among_breaks, among_done, among_ended, among_none, among_some, slice_failed, slice_may, slice_on, whole_broke, whole_late, whole_settled}
use Rattle.run_part.proofs.Results.{err_map, ok_map, on_ok}
use Rattle.run_part.proofs.pace.Work.feed_lent.Goals as goal

pub loop-token-init : goal.loop-token-init
loop-token-init g c = record {
  among = λ plan ts m.
      among_none c.args.bytes.now g.C.Conds.stands plan c.args.groups.ahead c.args.self.now.actors ts (said_lent c.args.bytes.now c.args.tokens.now) (flow_at (g.O.Outside.sinks c.args.to.now) c.args.groups.place c.args.self.now.out.items) m;
  some = c.requires.ahead;
  few = c.requires.few;
  others = λ k far. refl;
  ahead = refl;
  loans = refl;
  writes = g.met.O.Outside.writes_same c.args.to.now;
}

pub feed_late-requires-clause-part : goal.feed_late-requires-clause-part
feed_late-requires-clause-part g c = part_at (length c.args.bytes.now) c.args.bytes.now c.args.tokens.now c.loop-token.token-index _ c.requires.parts c.loop-token-test.true

pub feed_late-requires-clause-may : goal.feed_late-requires-clause-may
feed_late-requires-clause-may g c =
    let bytes = c.args.bytes.now in
    let lent = c.args.tokens.now in
    let i = c.loop-token.token-index in
    let n = c.args.groups.ahead in
    let a = c.args.self.now.actors in
    let b = c.loop-token.self.actors in
    let u = flow_at (g.O.Outside.sinks c.args.to.now) c.args.groups.place c.args.self.now.out.items in
    let v = flow_at (g.O.Outside.sinks c.loop-token.to) c.args.groups.place c.loop-token.self.out.items in
    let left = c.loop-token.group.left in
    let quiet = c.loop-token.group.quiet in
    let m = c.requires.may in
    slice_may bytes g.C.Conds.stands m.plan n a b m.given lent i _ u v left quiet c.loop-token-test.true m.of.may m.of.come (c.loop-token.invariant.among m.plan m.given m.of)

-- ---- memory ran out at a token

pub returns-in_err-still-clause-breaks : goal.returns-in_err-still-clause-breaks
returns-in_err-still-clause-breaks g c =
    let bytes = c.args.bytes.now in
    let lent = c.args.tokens.now in
    let all = said_lent c.args.bytes.now c.args.tokens.now in
    let i = c.loop-token.token-index in
    let n = c.args.groups.ahead in
    let a = c.args.self.now.actors in
    let b = c.loop-token.self.actors in
    let u = flow_at (g.O.Outside.sinks c.args.to.now) c.args.groups.place c.args.self.now.out.items in
    let v = flow_at (g.O.Outside.sinks c.loop-token.to) c.args.groups.place c.loop-token.self.out.items in
    let left = c.loop-token.group.left in
    let quiet = c.loop-token.group.quiet in
    let d = c.feed_late.new.self in
    let h : BreaksLent g.C.Conds.stands n a d all u v = λ plan ts m.
    slice_failed bytes g.C.Conds.stands plan n a b ts lent i _ u v left quiet c.loop-token-test.true m.may m.come (c.loop-token.invariant.among plan ts m) d c.in_err-still.ensures.balance in
    on_err _ _ h

pub returns-in_err-still-clause-loans : goal.returns-in_err-still-clause-loans
returns-in_err-still-clause-loans g c = c.feed_late.ensures.loans ∙ c.loop-token.invariant.loans

-- ---- it was fed

pub grown-fed-requires : goal.grown-fed-requires
grown-fed-requires g c = c.loop-token.invariant.some

pub close_group-requires-clause-some : goal.close_group-requires-clause-some
close_group-requires-clause-some g c =
    let bytes = c.args.bytes.now in
    let lent = c.args.tokens.now in
    let all = said_lent c.args.bytes.now c.args.tokens.now in
    let i = c.loop-token.token-index in
    let n = c.args.groups.ahead in
    let a = c.args.self.now.actors in
    let b = c.loop-token.self.actors in
    let u = flow_at (g.O.Outside.sinks c.args.to.now) c.args.groups.place c.args.self.now.out.items in
    let v = flow_at (g.O.Outside.sinks c.loop-token.to) c.args.groups.place c.loop-token.self.out.items in
    let left = c.loop-token.group.left in
    let quiet = c.loop-token.group.quiet in
    let others = said_lent c.args.bytes.now (drop (c.loop-token.token-index + 1) c.args.tokens.now) in
    let m = c.requires.may in
    record {
      plan = m.plan;
      first = a;
      given = m.given;
      all = all;
      rest = others;
      before = u;
      may = m.of.may;
      come = m.of.come;
      of = slice_on bytes g.C.Conds.stands m.plan n a b m.given lent i _ u v left quiet c.loop-token-test.true m.of.may m.of.come (c.loop-token.invariant.among m.plan m.given m.of)
          c.feed_late.new.self c.in_ok-still.still c.grown-fed.result.quiet c.grown-fed.result.left c.grown-fed.ensures.left c.grown-fed.ensures.quiet c.in_ok-still.ensures.feeds c.in_ok-still.ensures.quiet;
    }

pub close_group-requires-clause-place : goal.close_group-requires-clause-place
close_group-requires-clause-place g c = g.met.O.Outside.keeps_may c.args.to.now c.loop-token.to c.args.groups.place (g.met.O.Outside.writes_keeps c.args.to.now c.loop-token.to c.loop-token.invariant.writes) c.requires.place

pub close_group-requires-clause-few : goal.close_group-requires-clause-few
close_group-requires-clause-few g c = c.loop-token.invariant.few

pub loop-token-preserved : goal.loop-token-preserved
loop-token-preserved g c =
    let bytes = c.args.bytes.now in
    let lent = c.args.tokens.now in
    let all = said_lent c.args.bytes.now c.args.tokens.now in
    let i = c.loop-token.token-index in
    let n = c.args.groups.ahead in
    let a = c.args.self.now.actors in
    let b = c.loop-token.self.actors in
    let u = flow_at (g.O.Outside.sinks c.args.to.now) c.args.groups.place c.args.self.now.out.items in
    let v = flow_at (g.O.Outside.sinks c.loop-token.to) c.args.groups.place c.loop-token.self.out.items in
    let left = c.loop-token.group.left in
    let quiet = c.loop-token.group.quiet in
    let others = said_lent c.args.bytes.now (drop (c.loop-token.token-index + 1) c.args.tokens.now) in
    record {
      among = λ plan ts m.
          c.in_ok-next.ensures.keeps plan a ts all others u m.may m.come
          (slice_on bytes g.C.Conds.stands plan n a b ts lent i _ u v left quiet c.loop-token-test.true m.may m.come (c.loop-token.invariant.among plan ts m)
          c.feed_late.new.self c.in_ok-still.still c.grown-fed.result.quiet c.grown-fed.result.left c.grown-fed.ensures.left c.grown-fed.ensures.quiet c.in_ok-still.ensures.feeds c.in_ok-still.ensures.quiet);
      some = c.in_ok-next.ensures.some;
      few = c.in_ok-next.ensures.few;
      others = λ k far. c.close_group.ensures.others k far ∙ c.loop-token.invariant.others k far;
      ahead = c.close_group.ensures.ahead ∙ c.loop-token.invariant.ahead;
      loans = c.close_group.ensures.loans ∙ (c.feed_late.ensures.loans ∙ c.loop-token.invariant.loans);
      writes = g.met.O.Outside.writes_on c.args.to.now c.loop-token.to c.close_group.new.to c.loop-token.invariant.writes c.close_group.ensures.writes;
    }

-- ---- memory ran out where its group ended

pub returns-in_err-next-clause-breaks : goal.returns-in_err-next-clause-breaks
returns-in_err-next-clause-breaks g c =
    let bytes = c.args.bytes.now in
    let lent = c.args.tokens.now in
    let all = said_lent c.args.bytes.now c.args.tokens.now in
    let i = c.loop-token.token-index in
    let n = c.args.groups.ahead in
    let a = c.args.self.now.actors in
    let b = c.loop-token.self.actors in
    let u = flow_at (g.O.Outside.sinks c.args.to.now) c.args.groups.place c.args.self.now.out.items in
    let v = flow_at (g.O.Outside.sinks c.loop-token.to) c.args.groups.place c.loop-token.self.out.items in
    let left = c.loop-token.group.left in
    let quiet = c.loop-token.group.quiet in
    let others = said_lent c.args.bytes.now (drop (c.loop-token.token-index + 1) c.args.tokens.now) in
    let d = c.close_group.new.self.actors in
    let w = flow_at (g.O.Outside.sinks c.close_group.new.to) c.args.groups.place c.close_group.new.self.out.items in
    let h : BreaksLent g.C.Conds.stands n a d all u w = λ plan ts m.
    c.in_err-next.ensures.breaks plan a ts all others u m.may m.come
    (slice_on bytes g.C.Conds.stands plan n a b ts lent i _ u v left quiet c.loop-token-test.true m.may m.come (c.loop-token.invariant.among plan ts m)
    c.feed_late.new.self c.in_ok-still.still c.grown-fed.result.quiet c.grown-fed.result.left c.grown-fed.ensures.left c.grown-fed.ensures.quiet c.in_ok-still.ensures.feeds c.in_ok-still.ensures.quiet) in
    on_err _ _ h

pub returns-in_err-next-clause-others : goal.returns-in_err-next-clause-others
returns-in_err-next-clause-others g c = λ k far. c.close_group.ensures.others k far ∙ c.loop-token.invariant.others k far

pub returns-in_err-next-clause-ahead : goal.returns-in_err-next-clause-ahead
returns-in_err-next-clause-ahead g c = c.close_group.ensures.ahead ∙ c.loop-token.invariant.ahead

pub returns-in_err-next-clause-loans : goal.returns-in_err-next-clause-loans
returns-in_err-next-clause-loans g c = c.close_group.ensures.loans ∙ (c.feed_late.ensures.loans ∙ c.loop-token.invariant.loans)

pub returns-in_err-next-clause-writes : goal.returns-in_err-next-clause-writes
returns-in_err-next-clause-writes g c = g.met.O.Outside.writes_on c.args.to.now c.loop-token.to c.close_group.new.to c.loop-token.invariant.writes c.close_group.ensures.writes

-- ---- the last group ends

pub end_group-requires-clause-some : goal.end_group-requires-clause-some
end_group-requires-clause-some g c =
    let bytes = c.args.bytes.now in
    let all = said_lent c.args.bytes.now c.args.tokens.now in
    let n = c.args.groups.ahead in
    let a = c.args.self.now.actors in
    let b = c.loop-token.self.actors in
    let u = flow_at (g.O.Outside.sinks c.args.to.now) c.args.groups.place c.args.self.now.out.items in
    let v = flow_at (g.O.Outside.sinks c.loop-token.to) c.args.groups.place c.loop-token.self.out.items in
    let left = c.loop-token.group.left in
    let quiet = c.loop-token.group.quiet in
    let rest = said_lent c.args.bytes.now (drop c.loop-token.token-index c.args.tokens.now) in
    let m = c.requires.may in
    among_some bytes g.C.Conds.stands m.plan n a b m.given all rest u v left quiet m.of.may m.of.come (c.loop-token.invariant.among m.plan m.given m.of)

pub end_group-requires-clause-place : goal.end_group-requires-clause-place
end_group-requires-clause-place g c = g.met.O.Outside.keeps_may c.args.to.now c.loop-token.to c.args.groups.place (g.met.O.Outside.writes_keeps c.args.to.now c.loop-token.to c.loop-token.invariant.writes) c.requires.place

pub end_group-requires-clause-few : goal.end_group-requires-clause-few
end_group-requires-clause-few g c = c.loop-token.invariant.few

pub returns-in_err-end_group-clause-breaks : goal.returns-in_err-end_group-clause-breaks
returns-in_err-end_group-clause-breaks g c =
    let bytes = c.args.bytes.now in
    let all = said_lent c.args.bytes.now c.args.tokens.now in
    let n = c.args.groups.ahead in
    let a = c.args.self.now.actors in
    let b = c.loop-token.self.actors in
    let u = flow_at (g.O.Outside.sinks c.args.to.now) c.args.groups.place c.args.self.now.out.items in
    let v = flow_at (g.O.Outside.sinks c.loop-token.to) c.args.groups.place c.loop-token.self.out.items in
    let left = c.loop-token.group.left in
    let quiet = c.loop-token.group.quiet in
    let rest = said_lent c.args.bytes.now (drop c.loop-token.token-index c.args.tokens.now) in
    let e = c.end_group.new.self.actors in
    let w = flow_at (g.O.Outside.sinks c.end_group.new.to) c.args.groups.place c.end_group.new.self.out.items in
    let h : BreaksLent g.C.Conds.stands n a e all u w = λ plan ts m.
    among_breaks bytes g.C.Conds.stands plan n a b ts all rest u v left quiet m.may m.come (c.loop-token.invariant.among plan ts m) e w c.in_err-end_group.ensures.breaks in
    on_err _ _ h

pub returns-in_err-end_group-clause-others : goal.returns-in_err-end_group-clause-others
returns-in_err-end_group-clause-others g c = λ k far. c.end_group.ensures.others k far ∙ c.loop-token.invariant.others k far

pub returns-in_err-end_group-clause-ahead : goal.returns-in_err-end_group-clause-ahead
returns-in_err-end_group-clause-ahead g c = c.end_group.ensures.ahead ∙ c.loop-token.invariant.ahead

pub returns-in_err-end_group-clause-loans : goal.returns-in_err-end_group-clause-loans
returns-in_err-end_group-clause-loans g c = c.end_group.ensures.loans ∙ c.loop-token.invariant.loans

pub returns-in_err-end_group-clause-writes : goal.returns-in_err-end_group-clause-writes
returns-in_err-end_group-clause-writes g c = g.met.O.Outside.writes_on c.args.to.now c.loop-token.to c.end_group.new.to c.loop-token.invariant.writes c.end_group.ensures.writes

-- ---- the last rows are made

pub settle-requires : goal.settle-requires
settle-requires g c =
    let bytes = c.args.bytes.now in
    let lent = c.args.tokens.now in
    let all = said_lent c.args.bytes.now c.args.tokens.now in
    let i = c.loop-token.token-index in
    let n = c.args.groups.ahead in
    let a = c.args.self.now.actors in
    let b = c.loop-token.self.actors in
    let u = flow_at (g.O.Outside.sinks c.args.to.now) c.args.groups.place c.args.self.now.out.items in
    let v = flow_at (g.O.Outside.sinks c.loop-token.to) c.args.groups.place c.loop-token.self.out.items in
    let left = c.loop-token.group.left in
    let quiet = c.loop-token.group.quiet in
    let rest = said_lent c.args.bytes.now (drop c.loop-token.token-index c.args.tokens.now) in
    let e = c.end_group.new.self.actors in
    let w = flow_at (g.O.Outside.sinks c.end_group.new.to) c.args.groups.place c.end_group.new.self.out.items in
    let m = c.requires.may in
    let none : rest ≡ [] = ap (said_lent bytes) (drop_all i lent c.loop-token-test.false) in
    let h = c.loop-token.invariant.among m.plan m.given m.of in
    whole_late bytes g.C.Conds.stands m.plan n a e m.given all u w m.of.come
    (among_done bytes g.C.Conds.stands m.plan n a b m.given all rest u v left quiet m.of.may m.of.come h e w none
    (among_ended bytes g.C.Conds.stands m.plan n a b m.given all rest u v left quiet m.of.may m.of.come h e w c.in_ok-end_group.ensures.ends))

pub returns-clause-feeds : goal.returns-clause-feeds
returns-clause-feeds g c =
    let bytes = c.args.bytes.now in
    let lent = c.args.tokens.now in
    let all = said_lent c.args.bytes.now c.args.tokens.now in
    let i = c.loop-token.token-index in
    let n = c.args.groups.ahead in
    let a = c.args.self.now.actors in
    let b = c.loop-token.self.actors in
    let u = flow_at (g.O.Outside.sinks c.args.to.now) c.args.groups.place c.args.self.now.out.items in
    let v = flow_at (g.O.Outside.sinks c.loop-token.to) c.args.groups.place c.loop-token.self.out.items in
    let left = c.loop-token.group.left in
    let quiet = c.loop-token.group.quiet in
    let rest = said_lent c.args.bytes.now (drop c.loop-token.token-index c.args.tokens.now) in
    let e = c.end_group.new.self.actors in
    let w = flow_at (g.O.Outside.sinks c.end_group.new.to) c.args.groups.place c.end_group.new.self.out.items in
    let d = c.settle.new.self in
    let none : rest ≡ [] = ap (said_lent bytes) (drop_all i lent c.loop-token-test.false) in
    let from : SettlesFrom bytes g.C.Conds.stands e d → FeedsLent g.C.Conds.stands n a d all u w = λ settles plan ts m.
    let h = c.loop-token.invariant.among plan ts m in
    whole_settled bytes g.C.Conds.stands plan n a e ts all u w m.come
    (among_done bytes g.C.Conds.stands plan n a b ts all rest u v left quiet m.may m.come h e w none
    (among_ended bytes g.C.Conds.stands plan n a b ts all rest u v left quiet m.may m.come h e w c.in_ok-end_group.ensures.ends))
    d settles c.settle.ensures.counts in
    ok_map c.settle.result from c.settle.ensures.settles

pub returns-clause-breaks : goal.returns-clause-breaks
returns-clause-breaks g c =
    let bytes = c.args.bytes.now in
    let lent = c.args.tokens.now in
    let all = said_lent c.args.bytes.now c.args.tokens.now in
    let i = c.loop-token.token-index in
    let n = c.args.groups.ahead in
    let a = c.args.self.now.actors in
    let b = c.loop-token.self.actors in
    let u = flow_at (g.O.Outside.sinks c.args.to.now) c.args.groups.place c.args.self.now.out.items in
    let v = flow_at (g.O.Outside.sinks c.loop-token.to) c.args.groups.place c.loop-token.self.out.items in
    let left = c.loop-token.group.left in
    let quiet = c.loop-token.group.quiet in
    let rest = said_lent c.args.bytes.now (drop c.loop-token.token-index c.args.tokens.now) in
    let e = c.end_group.new.self.actors in
    let w = flow_at (g.O.Outside.sinks c.end_group.new.to) c.args.groups.place c.end_group.new.self.out.items in
    let d = c.settle.new.self in
    let none : rest ≡ [] = ap (said_lent bytes) (drop_all i lent c.loop-token-test.false) in
    let from : BalancesLate bytes g.C.Conds.stands e d → BreaksLent g.C.Conds.stands n a d all u w = λ balances plan ts m.
    let h = c.loop-token.invariant.among plan ts m in
    whole_broke bytes g.C.Conds.stands plan n a e ts all u w m.come
    (among_done bytes g.C.Conds.stands plan n a b ts all rest u v left quiet m.may m.come h e w none
    (among_ended bytes g.C.Conds.stands plan n a b ts all rest u v left quiet m.may m.come h e w c.in_ok-end_group.ensures.ends))
    d balances in
    err_map c.settle.result from c.settle.ensures.balance

pub returns-clause-few : goal.returns-clause-few
returns-clause-few g c = on_ok _ _ c.in_ok-end_group.ensures.few

pub returns-clause-others : goal.returns-clause-others
returns-clause-others g c = λ k far. c.end_group.ensures.others k far ∙ c.loop-token.invariant.others k far

pub returns-clause-ahead : goal.returns-clause-ahead
returns-clause-ahead g c = c.end_group.ensures.ahead ∙ c.loop-token.invariant.ahead

pub returns-clause-loans : goal.returns-clause-loans
returns-clause-loans g c = c.settle.ensures.loans ∙ (c.end_group.ensures.loans ∙ c.loop-token.invariant.loans)

pub returns-clause-writes : goal.returns-clause-writes
returns-clause-writes g c = g.met.O.Outside.writes_on c.args.to.now c.loop-token.to c.end_group.new.to c.loop-token.invariant.writes c.end_group.ensures.writes
