use Rattle.std.proofs.Common.{ap, sym, subst, Option}
use Rattle.doc_laws.specs.Machine.{State, on_mode}
use Rattle.doc_machine.specs.declared.mode.Mode.{Mode}
use Rattle.doc_machine.specs.Machine.{mode_of, scan_state}
use Rattle.doc_machine.specs.Steps.{Stepped}
use Rattle.doc_machine.proofs.step.advance.Goals as goal

pub returns-in-InValueReference : goal.returns-in-InValueReference
returns-in-InValueReference c =
    let s = scan_state c.args.m.now in
    let here = ap (λ (m : Mode). on_mode s c.args.c (mode_of s.names m)) (sym c.in-InValueReference.is) in
    subst (λ (o : Option State). Stepped c.in_value_reference.result s o (scan_state c.in_value_reference.new.m)) here c.in_value_reference.ensures
