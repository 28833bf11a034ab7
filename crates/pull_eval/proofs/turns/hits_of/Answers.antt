use Rattle.cond_eval.proofs.Comparisons.{in_at}
use Rattle.pull_eval.proofs.TurnsByText.{hits_all, hits_more, hits_none}
use Rattle.pull_eval.proofs.turns.hits_of.Goals as goal

pub loop-member-init : goal.loop-member-init
loop-member-init g c = λ up. hits_none c.args.buffer.now.rows c.args.set.now c.args.entries.now c.new-hits.result.items c.new-hits.ensures.items

pub value-requires : goal.value-requires
value-requires g c = c.requires _ (in_at c.args.set.now c.loop-member.member-index (record { serial = 0; place = 0 }) c.loop-member-test.true)

pub loop-member-preserved : goal.loop-member-preserved
loop-member-preserved g c = λ up.
    hits_more c.args.buffer.now.rows c.args.set.now c.args.entries.now c.loop-member.member-index c.loop-member.hits.items (c.loop-member.invariant up) (record { serial = 0; place = 0 }) c.loop-member-test.true c.in_ok-bytes.bytes.now c.in_ok-bytes.ensures.value c.put_hits.new.hits.items (c.in_ok-put_hits.ensures up)

pub returns : goal.returns
returns g c = λ up. hits_all c.args.buffer.now.rows c.args.set.now c.args.entries.now c.loop-member.member-index c.loop-member.hits.items (c.loop-member.invariant up) c.loop-member-test.false
