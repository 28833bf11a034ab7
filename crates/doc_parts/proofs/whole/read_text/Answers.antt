use Rattle.std.proofs.Common.{◌-◌, ap, ◌∙◌, arith}
use Rattle.doc_machine.specs.Machine.{scan_state}
use Rattle.doc_parts.specs.Spans.{spread}
use Rattle.doc_parts.specs.declared.span.Span.TheVariants as spans
use Rattle.doc_parts.proofs.Spans.{span_moves}
use Rattle.doc_parts.proofs.whole.read_text.Goals as goal

pub split_at-requires : goal.split_at-requires
split_at-requires c = c.front-n.ensures.front.boundary

pub returns-clause-moves : goal.returns-clause-moves
returns-clause-moves c =
    let m = c.args.m.now in
    let s = scan_state m in
    span_moves c.args.limits.now spans.Text s (scan_state (record m { tokens = c.push_str.new.self })) c.args.rest.now c.front-n.result (c.args.limits.now.text - c.run_len.result) c.utf8.rest
    (record { run = c.requires.run; room = (c.requires.mode, c.requires.inside, omega (arith, c.run_len.ensures)) }) c.front-n.ensures
    (ap (λ k. scan_state (record m { tokens = k })) c.in_ok-push_str.ensures.ok ∙ ap (spread spans.Text s) c.split_at.ensures.front)
