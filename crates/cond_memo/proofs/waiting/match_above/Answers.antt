use Rattle.std.proofs.Common.{refl, sym, ◌∙◌}
use Rattle.cond_memo.proofs.MarkRows.{climbs_used, climbs_lower, lower_on, climb_begins, climb_on, climb_over, climb_found, leads_hit, same_place, other_place}
use Rattle.cond_memo.proofs.waiting.match_above.Goals as goal

pub up-init : goal.up-init
up-init g c =
    let rows = c.args.buffer.now.rows in
    let parent = c.parent_at-at.ensures.parent in
    record {
      used = climbs_used rows c.args.place.0 c.parent_at-at.result parent;
      lower = climbs_lower rows c.args.place.0 c.parent_at-at.result parent;
      climb = λ P keep n o a u i l. climb_begins rows P keep c.args.steps.now n o c.args.place.0 u i l c.parent_at-at.result parent;
    }

pub returns-then-here-node-clause-above : goal.returns-then-here-node-clause-above
returns-then-here-node-clause-above g c P keep n o a u i l some =
    climb_over c.args.buffer.now.rows P keep c.args.steps.now n o c.in-Some.here (rw c.in-Some.is at (c.up.invariant.climb P keep n o a u i l)) some
    (λ h at. same_place c.args.buffer.now.rows P keep c.parent_at-at.ensures.apart c.args.node.0 c.in-Some.here.0 n h a at (sym c.if-here-node.true))

pub returns-then-branch-clause-above : goal.returns-then-branch-clause-above
returns-then-branch-clause-above g c P keep n o a u i l some =
    climb_found c.args.buffer.now.rows P keep c.args.steps.now n o c.in-Some.here c.serial.result (rw c.in-Some.is at (c.up.invariant.climb P keep n o a u i l))
    (λ h at. (
      sym at.number ∙ c.serial.ensures.row at.cell at.cell_among at.at,
      leads_hit c.args.buffer.now.rows P keep c.args.node.0 c.in-Some.here.0 n h a at c.args.steps.now c.args.steps.now refl c.in_ok-leads.field-0 c.in_ok-leads.ensures ∙ c.if-branch.true,
    ))

pub up-preserved : goal.up-preserved
up-preserved g c =
    let rows = c.args.buffer.now.rows in
    let parent = c.parent_at-at-in-Some.ensures.parent in
    record {
      used = climbs_used rows c.in-Some.here.0 c.parent_at-at-in-Some.result parent;
      lower = lower_on rows c.args.place.0 c.in-Some.here.0 (rw c.in-Some.is at c.up.invariant.lower) c.parent_at-at-in-Some.result (climbs_lower rows c.in-Some.here.0 c.parent_at-at-in-Some.result parent);
      climb = λ P keep n o a u i l.
          climb_on rows P keep c.args.steps.now n o c.in-Some.here (rw c.in-Some.is at (c.up.invariant.climb P keep n o a u i l))
          (λ h at. (
            other_place rows P keep c.args.node.0 c.in-Some.here.0 n h a at (λ e. c.if-here-node.false (sym e)),
            leads_hit rows P keep c.args.node.0 c.in-Some.here.0 n h a at c.args.steps.now c.args.steps.now refl c.in_ok-leads.field-0 c.in_ok-leads.ensures ∙ c.if-branch.false,
          ))
          c.parent_at-at-in-Some.result parent;
    }

pub returns-clause-above : goal.returns-clause-above
returns-clause-above g c P keep n o a u i l some = absurd (rw c.in_default.is at (c.up.invariant.climb P keep n o a u i l))
