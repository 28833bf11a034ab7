use Rattle.std.proofs.Common.{ap, ◌∙◌, ◌++◌, ◌∷◌, [], List, ℕ}
use Rattle.cond_eval.proofs.Comparisons.{in_at}
use Rattle.pull_eval.specs.Listing.{entry_at}
use Rattle.pull_eval.proofs.TurnsListed.{puts_all, puts_more, puts_none}
use Rattle.pull_eval.proofs.turns.put_entries.Goals as goal

pub loop-member-init : goal.loop-member-init
loop-member-init g c = puts_none c.args.buffer.now.rows c.args.set.now c.args.hit c.args.entries.now.items

pub value-requires : goal.value-requires
value-requires g c = c.requires _ (in_at c.args.set.now c.loop-member.member-index (record { serial = 0; place = 0 }) c.loop-member-test.true)

pub loop-member-preserved : goal.loop-member-preserved
loop-member-preserved g c =
    puts_more c.args.buffer.now.rows c.args.set.now c.args.hit c.args.entries.now.items c.loop-member.entries.items c.push.new.self.items c.loop-member.member-index (record { serial = 0; place = 0 }) c.in_ok-bytes.bytes.now
    c.loop-member-test.true c.in_ok-bytes.ensures.value (c.in_ok-push.ensures.items ∙ ap (λ (z : List ℕ). c.loop-member.entries.items ++ entry_at c.args.hit z ∷ []) c.in_ok-text.ensures) c.loop-member.invariant

pub returns : goal.returns
returns g c = puts_all c.args.buffer.now.rows c.args.set.now c.args.hit c.args.entries.now.items c.loop-member.entries.items c.loop-member.member-index c.loop-member-test.false c.loop-member.invariant
