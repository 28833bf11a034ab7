use Rattle.std.proofs.Common.{List, get_or, sym, subst}
use Rattle.cond_eval.specs.Comparing.{AreInUse}
use Rattle.cond_eval.specs.declared.sets.Member.{Member}
use Rattle.cond_eval.proofs.Comparisons.{in_at}
use Rattle.pull_eval.specs.Listing.{PutsEntries}
use Rattle.pull_eval.proofs.TurnsListed.{lists_all, lists_more, lists_none}
use Rattle.pull_eval.proofs.turns.entries_of.Goals as goal

pub loop-hit-init : goal.loop-hit-init
loop-hit-init g c = lists_none c.args.buffer.now.rows c.args.steps.now c.args.matches.now c.new-entries.result.items c.new-entries.ensures.items

pub closed_matches-requires : goal.closed_matches-requires
closed_matches-requires g c = c.requires _ (in_at c.args.matches.now c.loop-hit.hit-index (record { serial = 0; place = 0 }) c.loop-hit-test.true)

pub put_entries-requires : goal.put_entries-requires
put_entries-requires g c = subst (λ (z : List Member). AreInUse c.args.buffer.now.rows z) (sym c.deref.ensures.value) c.in_ok-set.ensures.used

pub loop-hit-preserved : goal.loop-hit-preserved
loop-hit-preserved g c =
    lists_more c.args.buffer.now.rows c.args.steps.now c.args.matches.now c.loop-hit.hit-index (record { serial = 0; place = 0 }) c.loop-hit-test.true c.in_ok-set.set.items c.in_ok-set.ensures.closed c.loop-hit.entries.items c.put_entries.new.entries.items
    (subst (λ (z : List Member). PutsEntries c.args.buffer.now.rows z (get_or c.args.matches.now c.loop-hit.hit-index (record { serial = 0; place = 0 })) c.loop-hit.entries.items c.put_entries.new.entries.items) c.deref.ensures.value c.in_ok-put_entries.ensures) c.loop-hit.invariant

pub returns : goal.returns
returns g c = lists_all c.args.buffer.now.rows c.args.steps.now c.args.matches.now c.loop-hit.hit-index c.loop-hit.entries.items c.loop-hit-test.false c.loop-hit.invariant
