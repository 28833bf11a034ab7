use Rattle.std.proofs.Common.{refl}
use Rattle.gcx_model.specs.ItemView.{body_tree}
use Rattle.xq_normal.specs.Raw.{moved}
use Rattle.xq_normal.proofs.Limits.{steps_refused, bytes_refused, none_refused}
use Rattle.xq_normal.proofs.normal.check_conditions.Goals as goal

pub returns-then-tally-gt-STEPS-clause-err : goal.returns-then-tally-gt-STEPS-clause-err
returns-then-tally-gt-STEPS-clause-err c = steps_refused (moved (body_tree c.args.body.now)) c.measure.new.tally.steps (c.in_ok-measure.ensures.steps 0 refl) c.if-tally-gt-STEPS.true

pub returns-then-tally-gt-CONDITIONS-clause-err : goal.returns-then-tally-gt-CONDITIONS-clause-err
returns-then-tally-gt-CONDITIONS-clause-err c =
    bytes_refused (moved (body_tree c.args.body.now)) c.measure.new.tally.steps c.measure.new.tally.bytes (c.in_ok-measure.ensures.steps 0 refl) c.if-tally-gt-STEPS.false (c.in_ok-measure.ensures.bytes 0 refl) c.if-tally-gt-CONDITIONS.true

pub returns-clause-ok : goal.returns-clause-ok
returns-clause-ok c =
    none_refused (moved (body_tree c.args.body.now)) c.measure.new.tally.steps c.measure.new.tally.bytes (c.in_ok-measure.ensures.steps 0 refl) c.if-tally-gt-STEPS.false (c.in_ok-measure.ensures.bytes 0 refl) c.if-tally-gt-CONDITIONS.false
