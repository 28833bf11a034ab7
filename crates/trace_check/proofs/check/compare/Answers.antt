use Rattle.std.proofs.Common.{◌≡◌, ℕ, ◌-◌, ◌<◌, ◌≤◌, List, Ok, drop, take, length, rules, sym, subst, arith}
use Rattle.std.proofs.lemmas.List.{length-take-le}
use Rattle.gcx_io.specs.Calls.{ReadsSource}
use Rattle.trace_check.specs.Judging.{IsInCommon, JudgesSource}
use Rattle.trace_check.specs.declared.checked.Checked.TheVariants as checked
use Rattle.trace_check.proofs.Compared.{behind, compared_on, differs_here, ends_here, fails_here}
use Rattle.trace_check.proofs.check.compare.Goals as goal

pub returns-in_default-clause-judged : goal.returns-in_default-clause-judged
returns-in_default-clause-judged g c = fails_here c.args.text.now _ _ _ _ _ _ c.reading.invariant.so_far c.in_default.ensures.reads

pub returns-in_default-clause-kept : goal.returns-in_default-clause-kept
returns-in_default-clause-kept g c = g.met.D.Source.keeps_on _ _ _ c.reading.invariant.kept c.in_default.ensures.kept

pub returns-then-count-eq0-clause-judged : goal.returns-then-count-eq0-clause-judged
returns-then-count-eq0-clause-judged g c =
    let size : length c.read.new.buf ≡ 65536 = search rules in
    ends_here c.args.text.now _ _ _ _ _ _ _ c.reading.invariant.so_far c.in-Ok.ensures.reads c.if-count-eq0.true size c.ended.ensures.stops c.ended.ensures.judged

pub returns-then-count-eq0-clause-kept : goal.returns-then-count-eq0-clause-kept
returns-then-count-eq0-clause-kept g c = g.met.D.Source.keeps_on _ _ _ c.reading.invariant.kept c.in-Ok.ensures.kept

pub returns-then-same-count-clause-judged : goal.returns-then-same-count-clause-judged
returns-then-same-count-clause-judged g c =
    let some : 1 ≤ c.in-Ok.count = omega (arith, c.if-count-eq0.false) in
    let fits : c.in-Ok.count ≤ length c.read.new.buf = search rules in
    let size : length c.read.new.buf ≡ 65536 = search rules in
    let rest : take (length c.args.text.now - c.reading.at) (drop c.reading.at c.args.text.now) ≡ drop c.reading.at c.args.text.now = behind c.reading.at c.args.text.now in
    let common : IsInCommon (drop c.reading.at c.args.text.now) (take c.in-Ok.count c.read.new.buf) c.common-same.result
    = subst (λ (l : List ℕ). IsInCommon l (take c.in-Ok.count c.read.new.buf) c.common-same.result) rest c.common-same.ensures in
    subst (λ (n : ℕ). JudgesSource c.args.text.now (checked.No n) (g.D.Source.seen c.args.trace.now) (g.D.Source.seen c.read.new.self)) (sym c.next_line.ensures)
    (differs_here c.args.text.now _ _ _ _ _ _ _ c.reading.invariant.so_far c.in-Ok.ensures.reads some fits size common c.if-same-count.true)

pub returns-then-same-count-clause-kept : goal.returns-then-same-count-clause-kept
returns-then-same-count-clause-kept g c = g.met.D.Source.keeps_on _ _ _ c.reading.invariant.kept c.in-Ok.ensures.kept

pub reading-preserved : goal.reading-preserved
reading-preserved g c =
    let some : 1 ≤ c.in-Ok.count = omega (arith, c.if-count-eq0.false) in
    let fits : c.in-Ok.count ≤ length c.read.new.buf = search rules in
    let size : length c.read.new.buf ≡ 65536 = search rules in
    let rest : take (length c.args.text.now - c.reading.at) (drop c.reading.at c.args.text.now) ≡ drop c.reading.at c.args.text.now = behind c.reading.at c.args.text.now in
    let common : IsInCommon (drop c.reading.at c.args.text.now) (take c.in-Ok.count c.read.new.buf) c.common-same.result
    = subst (λ (l : List ℕ). IsInCommon l (take c.in-Ok.count c.read.new.buf) c.common-same.result) rest c.common-same.ensures in
    let all : c.common-same.result ≡ c.in-Ok.count =
    (let a = common.within_right in let b = length-take-le c.in-Ok.count c.read.new.buf fits in let d = c.if-same-count.false in omega (arith, a, b, d)) in
    record {
      so_far = compared_on c.args.text.now _ _ _ _ _ _ c.reading.invariant.so_far
          (subst (λ (n : ℕ). ReadsSource (g.D.Source.seen c.reading.trace) (g.D.Source.seen c.read.new.self) (Ok n) c.read.new.buf) (sym all) c.in-Ok.ensures.reads)
          (omega (arith, some, all)) (omega (arith, fits, all)) size
          (subst (λ (n : ℕ). IsInCommon (drop c.reading.at c.args.text.now) (take n c.read.new.buf) c.common-same.result) (sym all) common);
      kept = g.met.D.Source.keeps_on _ _ _ c.reading.invariant.kept c.in-Ok.ensures.kept;
      later = search rules;
    }
