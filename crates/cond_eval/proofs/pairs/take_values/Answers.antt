use Rattle.cond_eval.proofs.Comparisons.{in_at}
use Rattle.cond_eval.proofs.Pairing.{took_none, took_more, took_all}
use Rattle.cond_eval.proofs.pairs.take_values.Goals as goal

pub loop-member-init : goal.loop-member-init
loop-member-init g c = took_none c.args.buffer.now.rows c.args.set.now c.args.hand c.args.compared.now

pub value-requires : goal.value-requires
value-requires g c = c.requires _ (in_at c.args.set.now c.loop-member.member-index (record { serial = 0; place = 0 }) c.loop-member-test.true)

pub loop-member-preserved : goal.loop-member-preserved
loop-member-preserved g c =
    took_more c.args.buffer.now.rows c.args.set.now c.args.hand c.args.compared.now c.loop-member.compared c.take.new.self c.loop-member.member-index (record { serial = 0; place = 0 })
    c.loop-member-test.true c.in_ok-bytes.bytes.now c.in_ok-bytes.ensures.value c.in_ok-take.ensures c.loop-member.invariant

pub returns : goal.returns
returns g c = took_all c.args.buffer.now.rows c.args.set.now c.args.hand c.args.compared.now c.loop-member.compared c.loop-member.member-index c.loop-member-test.false c.loop-member.invariant
