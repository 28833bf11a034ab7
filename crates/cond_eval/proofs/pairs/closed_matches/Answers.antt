use Rattle.std.proofs.Common.{◌+◌, true, false, List, sym, ap, ◌∙◌, subst}
use Rattle.cond_eval.specs.Reads.{AreReached}
use Rattle.cond_eval.specs.declared.sets.Member.{Member}
use Rattle.cond_eval.proofs.Comparisons.{ClosedOf, in_at, reached_used, closed_used, closed_none, closed_more, closed_all}
use Rattle.cond_eval.proofs.pairs.closed_matches.Goals as goal
use Rattle.cond_eval.proofs.pairs.closed_matches.Goals.{then-is_closed+in_ok-push, else-is_closed}

pub loop-member-init : goal.loop-member-init
loop-member-init g c = closed_none c.args.buffer.now.rows c.args.place.0 c.args.steps.now c.new-closed.result.items c.new-closed.ensures.items

pub is_closed-requires : goal.is_closed-requires
is_closed-requires g c =
    let all : AreReached c.args.buffer.now.rows c.args.place.0 c.args.steps.now c.deref-member-items.result.now = subst (λ (z : List Member). AreReached c.args.buffer.now.rows c.args.place.0 c.args.steps.now z) (sym c.deref-member-items.ensures.value) c.in_ok-all.ensures in
    reached_used c.args.buffer.now.rows c.args.place.0 c.args.steps.now c.deref-member-items.result.now c.requires all _ (in_at c.deref-member-items.result.now c.loop-member.member-index (record { serial = 0; place = 0 }) c.loop-member-test.true)

pub loop-member-preserved : goal.loop-member-preserved
loop-member-preserved g c =
    let all : AreReached c.args.buffer.now.rows c.args.place.0 c.args.steps.now c.deref-member-items.result.now = subst (λ (z : List Member). AreReached c.args.buffer.now.rows c.args.place.0 c.args.steps.now z) (sym c.deref-member-items.ensures.value) c.in_ok-all.ensures in
    elim c.if-is_closed.branch [
      | then-is_closed+in_ok-push w ↦
          subst (λ (z : List Member). ClosedOf c.args.buffer.now.rows c.args.place.0 c.args.steps.now (c.loop-member.member-index + 1) z) (sym (ap (λ v. v.items) w.closed-is ∙ w.in_ok-push.ensures.items))
          (closed_more c.args.buffer.now.rows c.args.place.0 c.args.steps.now c.deref-member-items.result.now c.loop-member.closed.items c.loop-member.member-index (record { serial = 0; place = 0 }) all c.loop-member-test.true c.loop-member.invariant true (λ d i e. sym w.if-is_closed.true ∙ c.is_closed.ensures d i e))
      | else-is_closed w ↦
          subst (λ (z : List Member). ClosedOf c.args.buffer.now.rows c.args.place.0 c.args.steps.now (c.loop-member.member-index + 1) z) (sym (ap (λ v. v.items) w.closed-is))
          (closed_more c.args.buffer.now.rows c.args.place.0 c.args.steps.now c.deref-member-items.result.now c.loop-member.closed.items c.loop-member.member-index (record { serial = 0; place = 0 }) all c.loop-member-test.true c.loop-member.invariant false (λ d i e. sym w.if-is_closed.false ∙ c.is_closed.ensures d i e))
    ]

pub returns-clause-closed : goal.returns-clause-closed
returns-clause-closed g c =
    let all : AreReached c.args.buffer.now.rows c.args.place.0 c.args.steps.now c.deref-member-items.result.now = subst (λ (z : List Member). AreReached c.args.buffer.now.rows c.args.place.0 c.args.steps.now z) (sym c.deref-member-items.ensures.value) c.in_ok-all.ensures in
    closed_all c.args.buffer.now.rows c.args.place.0 c.args.steps.now c.deref-member-items.result.now c.loop-member.closed.items c.loop-member.member-index all c.loop-member-test.false c.loop-member.invariant

pub returns-clause-used : goal.returns-clause-used
returns-clause-used g c =
    let all : AreReached c.args.buffer.now.rows c.args.place.0 c.args.steps.now c.deref-member-items.result.now = subst (λ (z : List Member). AreReached c.args.buffer.now.rows c.args.place.0 c.args.steps.now z) (sym c.deref-member-items.ensures.value) c.in_ok-all.ensures in
    closed_used c.args.buffer.now.rows c.args.place.0 c.args.steps.now c.loop-member.closed.items c.requires (closed_all c.args.buffer.now.rows c.args.place.0 c.args.steps.now c.deref-member-items.result.now c.loop-member.closed.items c.loop-member.member-index all c.loop-member-test.false c.loop-member.invariant)
