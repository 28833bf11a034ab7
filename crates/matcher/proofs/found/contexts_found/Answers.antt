use Rattle.std.proofs.Common.{[], get_or, sym}
use Rattle.std.proofs.lemmas.List.{get_or_default}
use Rattle.path_states.specs.Lists.{From}
use Rattle.matcher.specs.Frames.{IsLevelOf}
use Rattle.matcher.specs.declared.frames.Found.{Found}
use Rattle.path_states.proofs.Gaining.{gains_same, gains_start, gains_more, gains_all, holds_from}
use Rattle.matcher.proofs.found.contexts_found.Goals as goal

abbrev none : Found
none = record { role = 0; level = 0 }

pub loop-one-init : goal.loop-one-init
loop-one-init c = gains_same [] [] c.new-levels.result.items (From [] (IsLevelOf c.args.role)) (sym c.new-levels.ensures.items) (gains_start [] (IsLevelOf c.args.role))

pub loop-one-preserved : goal.loop-one-preserved
loop-one-preserved c = gains_more [] c.loop-one.levels.items c.put_context.new.levels.items c.args.found.now (IsLevelOf c.args.role) c.loop-one.one-index (get_or c.args.found.now c.loop-one.one-index none) c.loop-one-test.true
    (get_or_default c.args.found.now c.loop-one.one-index none (get_or c.args.found.now c.loop-one.one-index none) c.loop-one-test.true)
    c.loop-one.invariant c.in_ok-put_context.ensures

pub returns : goal.returns
returns c = holds_from c.loop-one.levels.items (From c.args.found.now (IsLevelOf c.args.role)) (gains_all [] c.loop-one.levels.items c.args.found.now (IsLevelOf c.args.role) c.loop-one.one-index c.loop-one-test.false c.loop-one.invariant)
