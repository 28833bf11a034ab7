use Rattle.std.proofs.Common.{ap, ◌∙◌, ◌++◌, ◌∷◌, [], List, ℕ}
use Rattle.cond_eval.proofs.Comparisons.{in_at}
use Rattle.join_index.proofs.Reading.{values_all, values_more, values_none}
use Rattle.join_index.proofs.equality.values_of.Goals as goal

pub loop-member-init : goal.loop-member-init
loop-member-init g c = values_none c.args.buffer.now.rows c.args.set.now c.new-texts.result.items c.new-texts.ensures.items

pub value-requires : goal.value-requires
value-requires g c = c.requires _ (in_at c.args.set.now c.loop-member.member-index (record { serial = 0; place = 0 }) c.loop-member-test.true)

pub loop-member-preserved : goal.loop-member-preserved
loop-member-preserved g c =
    values_more c.args.buffer.now.rows c.args.set.now c.loop-member.member-index (record { serial = 0; place = 0 }) c.loop-member-test.true c.in_ok-bytes.bytes.now c.in_ok-bytes.ensures.value c.loop-member.texts.items c.push.new.self.items c.loop-member.invariant (c.in_ok-push.ensures.items ∙ ap (λ (z : List ℕ). c.loop-member.texts.items ++ z ∷ []) c.in_ok-text.ensures)

pub returns : goal.returns
returns g c = values_all c.args.buffer.now.rows c.args.set.now c.loop-member.member-index c.loop-member.texts.items c.loop-member-test.false c.loop-member.invariant
