use Rattle.std.proofs.Common.{ap, sym, ◌∙◌, ◌≡◌, ◌∷◌}
use Rattle.doc_laws.specs.Machine.{InValue}
use Rattle.doc_machine.specs.Machine.{scan_state, mode_of, quote_of}
use Rattle.doc_parts.proofs.Wholes.{value_moves}
use Rattle.doc_parts.proofs.whole.read_value.Goals as goal

pub returns-in_ok-end_value-clause-moves : goal.returns-in_ok-end_value-clause-moves
returns-in_ok-end_value-clause-moves c =
    let s = scan_state c.args.m.now in
    let found = c.begins.ensures c.if-begins.true in
    let mode : s.mode ≡ InValue (quote_of c.args.quote) = ap (mode_of s.names) c.requires.mode in
    value_moves c.args.limits.now s (scan_state c.end_value.new.m) c.args.rest.now found.0 c.args.quote c.utf8.rest mode (sym c.as_bytes-bytes.ensures.value ∙ found.1 ∙ ap (λ b. b ∷ found.0) c.byte.ensures) c.in_ok-end_value.ensures
