use Rattle.std.proofs.Common.{ap, sym, ◌∙◌, ◌≡◌, ◌-◌, ◌∷◌, take, drop, length, refl, arith}
use Rattle.doc_machine.specs.Machine.{scan_state}
use Rattle.doc_parts.proofs.Spans.{tail_is}
use Rattle.doc_parts.proofs.Wholes.{end_tag_moves}
use Rattle.doc_parts.proofs.whole_tag.whole_end.Goals as goal

pub returns-clause-moves : goal.returns-clause-moves
returns-clause-moves c =
    let s = scan_state c.args.m.now in
    let name = c.innermost-name.result.now in
    let front = c.requires.front in
    let found = c.closes.ensures c.if-not-closes.false in
    let bytes = c.as_bytes.result.now in
    let all : bytes ≡ 60 ∷ (47 ∷ front.0) = c.as_bytes.ensures.value ∙ front.1 in
    let behind : take (length bytes - 2) (drop 2 bytes) ≡ front.0 = tail_is bytes 2 (omega (arith, ap length all)) ∙ ap (drop 2) all in
    end_tag_moves c.args.limits.now s (scan_state c.close_element.new.m) c.args.rest.now name found.0 _ c.requires.between (sym c.innermost-name.ensures) (front.1 ∙ ap (λ l. 60 ∷ (47 ∷ l)) (sym behind ∙ found.1)) refl c.in_ok-close_element.ensures
