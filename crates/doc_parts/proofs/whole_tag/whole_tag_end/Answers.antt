use Rattle.std.proofs.Common.{sym, subst, ◌∙◌, ◌≡◌, [], refl}
use Rattle.doc_laws.specs.Machine.{MachineMode, StartSpace}
use Rattle.doc_machine.specs.Machine.{scan_state}
use Rattle.doc_machine.specs.Sound.{IsSoundIn}
use Rattle.doc_parts.proofs.Texts.{moves_none}
use Rattle.doc_parts.proofs.Wholes.{white_moves, closing_moves, slash_moves}
use Rattle.doc_parts.proofs.whole_tag.whole_tag_end.Goals as goal

pub returns-else-begins-3-clause-moves : goal.returns-else-begins-3-clause-moves
returns-else-begins-3-clause-moves c = moves_none c.args.limits.now (scan_state c.args.m.now) c.args.rest.now c.utf8.rest

pub returns-then-begins-clause-moves : goal.returns-then-begins-clause-moves
returns-then-begins-clause-moves c =
    let s = scan_state c.args.m.now in
    let run : s.run ≡ [] = subst (λ (m : MachineMode). IsSoundIn m s) c.requires.mode c.requires.sound in
    let found = c.begins.ensures c.if-begins.true in
    white_moves c.args.limits.now s (record s { mode = StartSpace }) c.args.rest.now found.0 c.utf8.rest c.requires.mode run (sym c.as_bytes-bytes.ensures.value ∙ found.1) refl

pub returns-in_ok-open_element-clause-moves : goal.returns-in_ok-open_element-clause-moves
returns-in_ok-open_element-clause-moves c =
    let s = scan_state c.args.m.now in
    let run : s.run ≡ [] = subst (λ (m : MachineMode). IsSoundIn m s) c.requires.mode c.requires.sound in
    let found = c.begins-else-begins.ensures c.if-begins-2.true in
    closing_moves c.args.limits.now s (scan_state c.open_element.new.m) c.args.rest.now found.0 c.utf8.rest c.requires.mode run (sym c.as_bytes-bytes.ensures.value ∙ found.1) c.in_ok-open_element.ensures

pub returns-in_ok-empty_element-clause-moves : goal.returns-in_ok-empty_element-clause-moves
returns-in_ok-empty_element-clause-moves c =
    let s = scan_state c.args.m.now in
    let run : s.run ≡ [] = subst (λ (m : MachineMode). IsSoundIn m s) c.requires.mode c.requires.sound in
    let found = c.begins-else-begins-2.ensures c.if-begins-3.true in
    slash_moves c.args.limits.now s (scan_state c.empty_element.new.m) c.args.rest.now found.0 c.utf8.rest c.requires.mode run (sym c.as_bytes-bytes.ensures.value ∙ found.1) c.in_ok-empty_element.ensures
