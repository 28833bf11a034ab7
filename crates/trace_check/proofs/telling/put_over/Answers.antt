use Rattle.std.proofs.Common.{◌≡◌, get_or, rules, sym, ◌∙◌, arith}
use Rattle.trace_check.specs.Timing.{clock_in}
use Rattle.trace_check.proofs.Putting.{over_later, over_put, over_wanted}
use Rattle.trace_check.proofs.telling.put_over.Goals as goal
use Rattle.trace_check.proofs.telling.put_over.Goals.{else-closed_at-now-via-then-closed_at-now+else-until-told, else-closed_at-now-via-else-closed_at-now}

pub returns-in_ok-put_gone : goal.returns-in_ok-put_gone
returns-in_ok-put_gone c =
    let until = c.args.course.now.leaving.until.items in
    let entry : c.unwrap_or-until.result ≡ get_or until c.args.node 0 = search rules in
    over_put (clock_in c.args.course.now.timed) until c.args.now c.args.told.signed c.args.node c.args.text.now.items c.put_gone.new.text.items
    (sym c.closed_at.ensures ∙ c.if-closed_at-now.true) (let t = c.if-until-told.true in omega (arith, t, entry)) c.in_ok-put_gone.ensures

pub returns-else-closed_at-now : goal.returns-else-closed_at-now
returns-else-closed_at-now c =
    let clock = clock_in c.args.course.now.timed in
    let until = c.args.course.now.leaving.until.items in
    let entry : c.unwrap_or-until.result ≡ get_or until c.args.node 0 = search rules in
    elim c.else-closed_at-now.branch [
      | else-closed_at-now-via-then-closed_at-now+else-until-told w ↦
          over_wanted clock until c.args.now c.args.told.signed c.args.node c.args.text.now.items (let t = w.if-until-told.false in omega (arith, t, entry))
      | else-closed_at-now-via-else-closed_at-now w ↦
          over_later clock until c.args.now c.args.told.signed c.args.node c.args.text.now.items (λ e. w.if-closed_at-now.false (c.closed_at.ensures ∙ e))
    ]
