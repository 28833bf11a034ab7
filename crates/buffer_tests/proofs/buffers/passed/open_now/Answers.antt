use Rattle.std.proofs.Common.{arith, sym, ◌∙◌}
use Rattle.buffer_tests.proofs.Passed.{level_at, top_element, top_text, top_gone}
use Rattle.buffer_tests.proofs.buffers.passed.open_now.Goals as goal

pub opened-requires-clause-parent : goal.opened-requires-clause-parent
opened-requires-clause-parent g c = c.requires.rows.inner

pub opened-requires-clause-nodes : goal.opened-requires-clause-nodes
opened-requires-clause-nodes g c = let b = c.may_follow.ensures c.if-not-may_follow.false in omega (arith, b.2, c.nodes-serial.ensures)

pub opened-requires-clause-depth : goal.opened-requires-clause-depth
opened-requires-clause-depth g c =
    let b = c.may_follow.ensures c.if-not-may_follow.false in
    let l = level_at _ _ _ c.requires.rows in
    omega (arith, b.0, b.2, l)

pub opened-requires-clause-plain : goal.opened-requires-clause-plain
opened-requires-clause-plain g c = c.requires.plain

pub returns-then-text : goal.returns-then-text
returns-then-text g c =
    let b = c.may_follow.ensures c.if-not-may_follow.false in
    record {
      rows = top_text _ _ _ _ c.requires.rows _ _ _ _ c.in_ok-opened.ensures _ c.in-Some.is _ c.nodes-serial.ensures b.0 (sym c.is_text-text.ensures ∙ c.if-text.true);
      plain = c.in_ok-opened.ensures.spread ∙ c.requires.plain;
    }

pub returns-in-Some : goal.returns-in-Some
returns-in-Some g c =
    let b = c.may_follow.ensures c.if-not-may_follow.false in
    record {
      rows = top_element _ _ _ _ c.requires.rows _ _ _ _ c.in_ok-opened.ensures _ c.in-Some.is _ c.nodes-serial.ensures b.0 (sym c.is_text-text.ensures ∙ c.if-text.false);
      plain = c.in_ok-opened.ensures.spread ∙ c.requires.plain;
    }

pub returns : goal.returns
returns g c = record { rows = top_gone _ _ _ _ c.requires.rows _ _ _ _ c.in_ok-opened.ensures c.in-None.is; plain = c.in_ok-opened.ensures.spread ∙ c.requires.plain }
