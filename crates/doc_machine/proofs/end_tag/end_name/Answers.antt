use Rattle.std.proofs.Common.{ap, ◌∙◌, sym, subst, drop, length, length-drop, arith, Option}
use lib.Utf8.{encode}
use Rattle.doc_laws.specs.Machine.{State, innermost, behind, to_end_name}
use Rattle.doc_machine.specs.Machine.{scan_state}
use Rattle.doc_machine.specs.Steps.{Taken}
use Rattle.doc_machine.proofs.Behind.{inside_name}
use Rattle.doc_machine.proofs.end_tag.end_name.Goals as goal

pub returns-then-i-name : goal.returns-then-i-name
returns-then-i-name c =
    let s = scan_state c.args.m.now in
    let left = drop c.args.i (innermost s.names) in
    let step = c.name_goes_on-mode.ensures s (sym c.innermost-name.ensures) ∙ ap (λ l. to_end_name s (behind (encode c.args.c) (drop c.args.i l))) c.innermost-name.ensures ∙ sym (inside_name s left c.args.c (omega (arith, length-drop c.args.i (innermost s.names), ap length c.innermost-name.ensures))) in
    subst (λ (o : Option State). Taken c.turn.result s o (scan_state c.turn.new.m)) step c.turn.ensures
