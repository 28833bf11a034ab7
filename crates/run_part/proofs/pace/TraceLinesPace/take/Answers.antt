use Rattle.std.proofs.Common.{◌≡◌, ◌∙◌, [], Some, true, length, drop, ap, refl}
use Rattle.std.proofs.lemmas.List.{drop_all}
use Rattle.doc_reader.proofs.Owning.{part_at}
use Rattle.run_part.specs.Flows.{Flows, TakesSomeFlows, flows, trace_seen}
use Rattle.run_part.specs.Late.{said_lent}
use Rattle.run_part.proofs.Acting.{on_err}
use Rattle.run_part.proofs.Flowing.{may_moves, others_on, tokens_on}
use Rattle.run_part.proofs.OrderedTokens.{lent_ordered_breaks, lent_ordered_may, lent_ordered_next, lent_ordered_part, lent_ordered_stops, ordered_all, ordered_begins, ordered_whole}
use Rattle.run_part.proofs.pace.TraceLinesPace.take.Goals as goal

-- ---- what a token asks

pub take_told-requires-clause-lies : goal.take_told-requires-clause-lies
take_told-requires-clause-lies g c = part_at (length c.args.bytes.now) c.args.bytes.now c.args.tokens.now c.loop-token.token-index _ c.requires.within c.loop-token-test.true

pub take_told-requires-clause-may : goal.take_told-requires-clause-may
take_told-requires-clause-may g c =
    let inv = c.loop-token.invariant in
    let m = c.requires.may in
    lent_ordered_may g.C.Conds.stands g.O.Outside.sinks (g.O.Outside.most c.args.to.now true ≡ Some 0) m.plan c.args.bytes.now c.args.work.now c.args.self.now c.args.to.now m.given c.args.tokens.now m.of
    c.loop-token.work c.loop-token.self c.loop-token.to c.loop-token.token-index _ c.loop-token-test.true inv.leaves.ahead_is (inv.among m.plan m.given m.of)

pub take_told-requires-clause-places : goal.take_told-requires-clause-places
take_told-requires-clause-places g c =
    let inv = c.loop-token.invariant in
    may_moves g.O.Outside.may g.met.O.Outside.keeps_may g.met.O.Outside.writes_keeps c.args.to.now c.loop-token.to (trace_seen c.args.self.now) (trace_seen c.loop-token.self) inv.leaves.places inv.writes c.requires.places

pub take_told-requires-clause-few : goal.take_told-requires-clause-few
take_told-requires-clause-few g c = c.loop-token.invariant.few

-- ---- the loop

pub loop-token-init : goal.loop-token-init
loop-token-init g c = record {
  among = λ plan ts m.
      ordered_begins g.C.Conds.stands g.O.Outside.sinks (g.O.Outside.most c.args.to.now true ≡ Some 0) plan c.args.work.now c.args.self.now c.args.to.now ts (said_lent c.args.bytes.now c.args.tokens.now) m;
  few = c.requires.few;
  others = λ k far off. refl;
  leaves = record { loans = refl; ahead_is = refl; places = record { output_is = refl; lines_is = refl } };
  writes = g.met.O.Outside.writes_same c.args.to.now;
}

pub loop-token-preserved : goal.loop-token-preserved
loop-token-preserved g c =
    let inv = c.loop-token.invariant in
    let o = c.take_told.ensures in
    let sinks = g.O.Outside.sinks in
    let old = c.args.work.now in
    let l0 = c.args.self.now in
    let t0 = c.args.to.now in
    let mid = c.loop-token.work in
    let l1 = c.loop-token.self in
    let t1 = c.loop-token.to in
    let new = c.take_told.new.self in
    let l2 = c.take_told.new.lines in
    let t2 = c.take_told.new.to in
    let still = g.met.O.Outside.keeps_most t0 t1 true (g.met.O.Outside.writes_keeps t0 t1 inv.writes) in
    record {
      among = λ plan ts m.
          lent_ordered_next g.C.Conds.stands sinks (g.O.Outside.most t0 true ≡ Some 0) plan c.args.bytes.now old l0 t0 ts c.args.tokens.now m mid l1 t1 c.loop-token.token-index _ c.loop-token-test.true inv.leaves.ahead_is
          (inv.among plan ts m) new l2 t2 c.in_ok-take_told.ensures.takes (λ none. o.order (still ∙ none));
      few = c.in_ok-take_told.ensures.few;
      others = others_on (trace_seen l0) (trace_seen l1) (sinks t0) (sinks t1) (sinks t2) inv.leaves.places inv.others o.others;
      leaves = tokens_on old mid new (trace_seen l0) (trace_seen l1) (trace_seen l2) inv.leaves o.leaves;
      writes = g.met.O.Outside.writes_on t0 t1 t2 inv.writes o.writes;
    }

-- ---- memory ran out in a token

pub returns-in_err-take_told-clause-part : goal.returns-in_err-take_told-clause-part
returns-in_err-take_told-clause-part g c =
    let inv = c.loop-token.invariant in
    let stands = g.C.Conds.stands in
    let sinks = g.O.Outside.sinks in
    let none : Type 0 = g.O.Outside.most c.args.to.now true ≡ Some 0 in
    let bytes = c.args.bytes.now in
    let lent = c.args.tokens.now in
    let old = c.args.work.now in
    let l0 = c.args.self.now in
    let t0 = c.args.to.now in
    let mid = c.loop-token.work in
    let l1 = c.loop-token.self in
    let t1 = c.loop-token.to in
    let i = c.loop-token.token-index in
    let new = c.take_told.new.self in
    let l2 = c.take_told.new.lines in
    let t2 = c.take_told.new.to in
    let x : Flows g.row.C.Denot = flows trace_seen sinks (old, l0, t0) in
    let y : Flows g.row.C.Denot = flows trace_seen sinks (new, l2, t2) in
    let h : TakesSomeFlows stands true x y (said_lent bytes lent) = record {
      breaks = λ plan ts m. lent_ordered_breaks stands sinks none plan bytes old l0 t0 ts lent m mid l1 t1 i _ c.loop-token-test.true inv.leaves.ahead_is (inv.among plan ts m) new l2 t2 c.in_err-take_told.ensures.part;
      told = λ e plan ts m. lent_ordered_part stands sinks none plan bytes old l0 t0 ts lent m mid l1 t1 i _ c.loop-token-test.true inv.leaves.ahead_is (inv.among plan ts m) new l2 t2 c.in_err-take_told.ensures.part;
    } in
    on_err _ _ h

pub returns-in_err-take_told-clause-others : goal.returns-in_err-take_told-clause-others
returns-in_err-take_told-clause-others g c =
    let inv = c.loop-token.invariant in
    others_on (trace_seen c.args.self.now) (trace_seen c.loop-token.self) (g.O.Outside.sinks c.args.to.now) (g.O.Outside.sinks c.loop-token.to) (g.O.Outside.sinks c.take_told.new.to) inv.leaves.places inv.others c.take_told.ensures.others

pub returns-in_err-take_told-clause-order : goal.returns-in_err-take_told-clause-order
returns-in_err-take_told-clause-order g c = λ none wanted plan ts m.
    let inv = c.loop-token.invariant in
    let t0 = c.args.to.now in
    let t1 = c.loop-token.to in
    let still = g.met.O.Outside.keeps_most t0 t1 true (g.met.O.Outside.writes_keeps t0 t1 inv.writes) in
    lent_ordered_stops g.C.Conds.stands g.O.Outside.sinks (g.O.Outside.most t0 true ≡ Some 0) plan c.args.bytes.now c.args.work.now c.args.self.now t0 ts c.args.tokens.now m c.loop-token.work c.loop-token.self t1 c.loop-token.token-index _ c.loop-token-test.true
    inv.leaves.ahead_is (inv.among plan ts m) c.take_told.new.self c.take_told.new.lines c.take_told.new.to (λ o. c.take_told.ensures.order (still ∙ o)) none

pub returns-in_err-take_told-clause-leaves : goal.returns-in_err-take_told-clause-leaves
returns-in_err-take_told-clause-leaves g c =
    tokens_on c.args.work.now c.loop-token.work c.take_told.new.self (trace_seen c.args.self.now) (trace_seen c.loop-token.self) (trace_seen c.take_told.new.lines) c.loop-token.invariant.leaves c.take_told.ensures.leaves

pub returns-in_err-take_told-clause-writes : goal.returns-in_err-take_told-clause-writes
returns-in_err-take_told-clause-writes g c = g.met.O.Outside.writes_on c.args.to.now c.loop-token.to c.take_told.new.to c.loop-token.invariant.writes c.take_told.ensures.writes

-- ---- none is left

pub returns-clause-takes : goal.returns-clause-takes
returns-clause-takes g c =
    let inv = c.loop-token.invariant in
    let stands = g.C.Conds.stands in
    let sinks = g.O.Outside.sinks in
    let none : Type 0 = g.O.Outside.most c.args.to.now true ≡ Some 0 in
    let bytes = c.args.bytes.now in
    let lent = c.args.tokens.now in
    let old = c.args.work.now in
    let l0 = c.args.self.now in
    let t0 = c.args.to.now in
    let left = said_lent bytes (drop c.loop-token.token-index lent) in
    let empty : left ≡ [] = ap (said_lent bytes) (drop_all c.loop-token.token-index lent c.loop-token-test.false) in
    record {
      feeds = λ plan ts m. (ordered_whole stands sinks none plan old l0 t0 ts (said_lent bytes lent) m c.loop-token.work c.loop-token.self c.loop-token.to left empty (inv.among plan ts m)).0;
      told = λ e plan ts m. (ordered_whole stands sinks none plan old l0 t0 ts (said_lent bytes lent) m c.loop-token.work c.loop-token.self c.loop-token.to left empty (inv.among plan ts m)).1;
    }

pub returns-clause-few : goal.returns-clause-few
returns-clause-few g c = c.loop-token.invariant.few

pub returns-clause-others : goal.returns-clause-others
returns-clause-others g c = c.loop-token.invariant.others

pub returns-clause-leaves : goal.returns-clause-leaves
returns-clause-leaves g c = c.loop-token.invariant.leaves

pub returns-clause-writes : goal.returns-clause-writes
returns-clause-writes g c = c.loop-token.invariant.writes

pub returns-clause-order : goal.returns-clause-order
returns-clause-order g c = λ none wanted plan ts m.
    let bytes = c.args.bytes.now in
    let lent = c.args.tokens.now in
    let t0 = c.args.to.now in
    let left = said_lent bytes (drop c.loop-token.token-index lent) in
    let empty : left ≡ [] = ap (said_lent bytes) (drop_all c.loop-token.token-index lent c.loop-token-test.false) in
    ordered_all g.C.Conds.stands g.O.Outside.sinks (g.O.Outside.most t0 true ≡ Some 0) plan c.args.work.now c.args.self.now t0 ts (said_lent bytes lent) m c.loop-token.work c.loop-token.self c.loop-token.to left empty
    (c.loop-token.invariant.among plan ts m) none
