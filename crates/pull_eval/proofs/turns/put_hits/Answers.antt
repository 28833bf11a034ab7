use Rattle.std.proofs.Common.{sym, ◌∙◌}
use Rattle.std.proofs.lemmas.Bool.{true≢false}
use Rattle.std.proofs.lemmas.Slice.Eq.{bytes_eq-Decides}
use Rattle.pull_eval.proofs.TurnsByText.{equals_end, equals_more, equals_other, equals_start}
use Rattle.pull_eval.proofs.turns.put_hits.Goals as goal

pub equal-init : goal.equal-init
equal-init c = λ up. equals_start c.args.entries.now c.args.value.now c.args.hits.now.items c.number_before-at.result (c.number_before-at.ensures up)

pub equal-preserved : goal.equal-preserved
equal-preserved c = λ up.
    equals_more c.args.entries.now c.args.value.now c.args.hits.now.items c.equal.hits.items c.equal.at (c.equal.invariant up) c.index-entries-at.result c.push.new.self.items c.equal-test.true c.index-entries-at.is
    (sym c.as_bytes.ensures.bytes ∙ (bytes_eq-Decides c.as_bytes.result.now c.args.value.now).0 (sym c.eq.ensures ∙ c.if-eq.true)) c.in_ok-push.ensures.items

pub returns-else-eq : goal.returns-else-eq
returns-else-eq c = λ up.
    equals_other c.args.entries.now c.args.value.now c.args.hits.now.items c.equal.hits.items c.equal.at (c.equal.invariant up) up c.index-entries-at.result c.equal-test.true c.index-entries-at.is
    (λ e. true≢false (sym ((bytes_eq-Decides c.as_bytes.result.now c.args.value.now).1 (c.as_bytes.ensures.bytes ∙ e)) ∙ (sym c.eq.ensures ∙ c.if-eq.false)))

pub returns : goal.returns
returns c = λ up.
    equals_end c.args.entries.now c.args.value.now c.args.hits.now.items c.equal.hits.items c.equal.at (c.equal.invariant up) up c.equal-test.false
