use Rattle.std.proofs.Common.{◌≡◌, ◌≤◌, ◌-◌, ℕ, List, arith, drop, length, length-drop, subst}
use Rattle.outside.proofs.Spilling.{stops_on, takes_on, wrote_front, wrote_whole}
use Rattle.outside.proofs.outlet.write_some.Goals as goal

pub writing-preserved : goal.writing-preserved
writing-preserved g c =
    let b : (1 ≤ c.in-Ok.n) × (c.in-Ok.n ≤ length c.tail.result.now) = c.in-Ok.ensures.bound in
    let k : length (drop c.writing.at c.args.bytes.now) ≡ length c.args.bytes.now - c.writing.at = length-drop c.writing.at c.args.bytes.now in
    let m : c.in-Ok.n ≤ length (drop c.writing.at c.args.bytes.now) = subst (λ (z : List ℕ). c.in-Ok.n ≤ length z) c.tail.ensures b.1 in
    let l = c.writing.invariant.bound in
    record {
      bound = omega (arith, k, l, m);
      took = takes_on (g.O.Sink.seen c.args.sink.now) (g.O.Sink.seen c.writing.sink) (g.O.Sink.seen c.write.new.self) c.args.bytes.now c.tail.result.now c.writing.at c.in-Ok.n
          c.tail.ensures c.writing.invariant.took c.in-Ok.ensures.writes b.0 b.1;
    }

pub returns-in-Err : goal.returns-in-Err
returns-in-Err g c =
    wrote_front _ _ c.args.bytes.now c.writing.at c.writing-test.true
    (stops_on _ (g.O.Sink.seen c.args.sink.now) (g.O.Sink.seen c.writing.sink) (g.O.Sink.seen c.write.new.self) c.args.bytes.now c.tail.result.now c.writing.at c.writing-test.true
    c.tail.ensures c.writing.invariant.took c.in-Err.ensures.writes)

pub returns : goal.returns
returns g c = let past = c.writing-test.false in wrote_whole _ _ c.args.bytes.now c.writing.at c.writing.invariant.bound (omega (arith, past)) c.writing.invariant.took
