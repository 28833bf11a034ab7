use Rattle.std.proofs.Common.{ap, ◌∙◌}
use Rattle.doc_machine.specs.Machine.{scan_state}
use Rattle.doc_parts.specs.Spans.{spread}
use Rattle.doc_parts.proofs.Spans.{span_moves}
use Rattle.doc_parts.proofs.Texts.{moves_none}
use Rattle.doc_parts.proofs.whole.read_span.Goals as goal

pub returns-in-None-clause-moves : goal.returns-in-None-clause-moves
returns-in-None-clause-moves c = moves_none c.args.limits.now (scan_state c.args.m.now) c.args.rest.now c.utf8.rest

pub split_at-requires : goal.split_at-requires
split_at-requires c = c.front-n.ensures.front.boundary

pub returns-in_ok-keep-in-Some-clause-moves : goal.returns-in_ok-keep-in-Some-clause-moves
returns-in_ok-keep-in-Some-clause-moves c =
    let s = scan_state c.args.m.now in
    let span = c.in-Some.span in
    let n = c.front-n.result in
    span_moves c.args.limits.now span s (scan_state c.keep.new.m) c.args.rest.now n c.in-Some.most c.utf8.rest c.in-Some.ensures c.front-n.ensures (c.in_ok-keep-in-Some.ensures ∙ ap (spread span s) c.split_at.ensures.front)
