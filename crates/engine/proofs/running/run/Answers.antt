use Rattle.std.proofs.Common.{◌≤◌, [], rules, refl, arith}
use Rattle.engine.specs.Runs.{sinks}
use Rattle.engine.proofs.CallsOfTurns.{few_bytes, plan_on, ports_on}
use Rattle.engine.proofs.RunOn.{between_none}
use Rattle.engine.proofs.running.run.Goals as goal

pub reading-init : goal.reading-init
reading-init g c = record {
  between = λ lim t h tells. between_none g.C.Conds.stands lim t c.args.engine.now (g.D.Source.seen c.args.doc.now)
      (sinks (g.O.Sink.seen c.args.out.now) (g.E.Sink.seen c.args.err.now)) h tells;
  stands = λ lim h. record { read = []; of = h.of; fresh = h.fresh };
  most = λ lent h. h;
  size = search rules;
  same = record { plan = refl; ahead = refl; loans = refl };
  ports = record { kept = g.met.D.Source.keeps_same c.args.doc.now; read_count = omega arith; write_count = omega arith; trace_count = omega arith };
}

pub turn-requires-clause-stands : goal.turn-requires-clause-stands
turn-requires-clause-stands g c = let s = c.requires.starts in (s.0, c.reading.invariant.stands s.0 s.1)

pub returns-in-Some-clause-ran : goal.returns-in-Some-clause-ran
returns-in-Some-clause-ran g c = λ lim t h tells. c.in-Some.ensures.goes lim t _ _ (c.reading.invariant.between lim t h tells)

pub returns-in-Some-clause-most : goal.returns-in-Some-clause-most
returns-in-Some-clause-most g c = λ lent h. c.in-Some.ensures.most lent (c.reading.invariant.most lent h)

pub reading-smaller : goal.reading-smaller
reading-smaller g c =
    let s = c.requires.starts in
    let q = c.reading.invariant.stands s.0 s.1 in
    let few : c.reading.engine.bytes ≤ 1099511627776 = few_bytes g.C.Conds.stands s.0 c.reading.engine q.read q.of q.fresh in
    let more = c.in_default.ensures.fewer refl in
    omega arith

pub reading-preserved : goal.reading-preserved
reading-preserved g c = record {
  between = λ lim t h tells. c.in_default.ensures.goes lim t _ _ (c.reading.invariant.between lim t h tells);
  stands = λ lim h. c.in_default.ensures.stands refl lim (c.reading.invariant.stands lim h);
  most = λ lent h. c.in_default.ensures.most lent (c.reading.invariant.most lent h);
  size = c.turn.ensures.size;
  same = plan_on c.args.engine.now c.reading.engine c.turn.new.engine c.reading.invariant.same c.turn.ensures.same;
  ports = ports_on _ _ _ _ _ _ _ _ _ _ _ _ (g.met.D.Source.keeps_on _ _ _) c.reading.invariant.ports c.turn.ensures.ports;
}

pub returns-in-Some-clause-same : goal.returns-in-Some-clause-same
returns-in-Some-clause-same g c = plan_on c.args.engine.now c.reading.engine c.turn.new.engine c.reading.invariant.same c.turn.ensures.same

pub returns-in-Some-clause-ports : goal.returns-in-Some-clause-ports
returns-in-Some-clause-ports g c = ports_on _ _ _ _ _ _ _ _ _ _ _ _ (g.met.D.Source.keeps_on _ _ _) c.reading.invariant.ports c.turn.ensures.ports
