use Rattle.std.proofs.Common.{◌≡◌, ℕ, suc, ◌+◌, ◌<◌, length, ap, arith}
use Rattle.trace_check.specs.declared.telling.Told.{Told}
use Rattle.trace_check.specs.declared.timed.Fed.{Fed}
use Rattle.trace_check.proofs.TokensTold.{counted_opened, token_at}
use Rattle.trace_check.proofs.telling.put_tokens.Goals as goal

pub loop-index-preserved : goal.loop-index-preserved
loop-index-preserved c =
    let i : ℕ = c.loop-index.index in
    let f : Fed = c.index-fed.result.now in
    let next : i + 1 ≡ suc i = omega arith in
    let few : i < c.args.course.now.timed.told = (let t = c.loop-index-test.true in let m = c.min-index-end.ensures in omega (arith, t, m)) in
    record {
      told = λ plan ts is h.
          let l : i < length ts = (let n = is.timed.told in omega (arith, few, n)) in
          token_at c.times_rise.ensures plan ts c.args.course.now is i l f c.index-fed.ensures (i + 1) next c.args.text.now.items c.loop-index.text.items c.put_fed.new.text.items
          c.put_over.new.text.items c.put_acts.new.text.items c.loop-index.told c.put_fed.new.told c.put_acts.new.told c.in_ok-node.node (c.loop-index.invariant.told plan ts is h)
          (c.in_ok-node.ensures.puts plan ts is) c.in_ok-node.ensures.node c.in_ok-node.ensures.told c.in_ok-put_over.ensures (c.in_ok-put_acts.ensures.puts plan ts is)
          (c.in_ok-put_acts.ensures.told plan ts is) c.in_ok-put_acts.ensures.opened;
      few = c.in_ok-put_acts.ensures.few;
      opened =
          (let a = c.in_ok-put_acts.ensures.opened in
          let b = ap (λ (m : Told). m.opened) c.in_ok-node.ensures.told in
          let d = counted_opened c.loop-index.told f in
          let o = c.loop-index.invariant.opened in
          omega (arith, a, b, d, o));
    }
