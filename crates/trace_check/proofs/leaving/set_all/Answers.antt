use Rattle.std.proofs.Common.{[], refl, sym, ◌∙◌, ap}
use Rattle.std.proofs.lemmas.List.{take_all}
use Rattle.trace_check.specs.Reaching.{covers}
use Rattle.trace_check.specs.Wanting.{set_where}
use Rattle.trace_check.proofs.Entries.{set_none}
use Rattle.trace_check.proofs.SetAll.{ranges_more}
use Rattle.trace_check.proofs.leaving.set_all.Goals as goal

pub loop-range-init : goal.loop-range-init
loop-range-init c = sym (set_none (covers []) c.args.number c.args.last.now (λ k l. refl))

pub loop-range-preserved : goal.loop-range-preserved
loop-range-preserved c =
    ranges_more c.args.ranges.now c.loop-range.range-index _ c.args.number c.loop-range.last c.args.last.now c.set_range.new.last c.loop-range-test.true c.loop-range.invariant c.set_range.ensures

pub returns : goal.returns
returns c = c.loop-range.invariant ∙ ap (λ rs. set_where (covers rs) c.args.number c.args.last.now) (take_all c.loop-range.range-index c.args.ranges.now c.loop-range-test.false)
