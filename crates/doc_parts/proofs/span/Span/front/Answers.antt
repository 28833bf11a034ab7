use Rattle.std.proofs.Common.{subst, sym, ◌∙◌, List, ℕ}
use Rattle.doc_parts.specs.Spans.{IsStop, IsPartFront}
use Rattle.doc_parts.proofs.Spans.{stop_front, name_span_front}
use Rattle.doc_parts.proofs.span.Span.front.Goals as goal

pub returns-then-is_name : goal.returns-then-is_name
returns-then-is_name c =
    let end = c.boundary_within.result in
    name_span_front c.args.self c.args.text.now c.args.most end c.part_front.result (sym c.is_name.ensures ∙ c.if-is_name.true) c.boundary_within.ensures.few c.boundary_within.ensures.boundary
    (subst (λ (l : List ℕ). IsPartFront c.part_front.result l) c.split_at.ensures.front c.part_front.ensures)

pub returns-else-is_name : goal.returns-else-is_name
returns-else-is_name c =
    let end = c.boundary_within.result in
    stop_front c.args.self c.args.text.now c.args.most end c.stop.result (sym c.is_name.ensures ∙ c.if-is_name.false) c.requires c.boundary_within.ensures.few c.boundary_within.ensures.boundary
    (subst (λ (l : List ℕ). IsStop c.stop.result c.args.self l) (c.as_bytes.ensures.value ∙ c.split_at.ensures.front) c.stop.ensures)
